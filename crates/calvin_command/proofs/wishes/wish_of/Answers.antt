use Rattle.std.proofs.Common.{refl, sym, subst, List}
use Rattle.clap.specs.Words.{Row, subcommand_rows_of}
use Rattle.calvin_command.specs.Line.{IsScheduleOf, IsTeamOf}
use Rattle.calvin_options.proofs.Subcommands.{same_rows}
use Rattle.calvin_command.proofs.wishes.wish_of.Goals as goal

pub returns-in-Some-subcommand_matches-clause-sim : goal.returns-in-Some-subcommand_matches-clause-sim
returns-in-Some-subcommand_matches-clause-sim c named asked is =
    let schedule = c.in_ok-schedule_of.field-0 in
    let same = same_rows (subcommand_rows_of c.args.matches.now) _ c.in-Some-subcommand_matches.ensures.rows in
    (schedule, refl, subst (λ (rows : List Row). IsScheduleOf rows schedule) (sym same) c.in_ok-schedule_of.ensures.ok)

pub returns-in-Some-subcommand_matches-2-clause-run : goal.returns-in-Some-subcommand_matches-2-clause-run
returns-in-Some-subcommand_matches-2-clause-run c named asked is =
    let team = c.in_ok-team_of.field-0 in
    let same = same_rows (subcommand_rows_of c.args.matches.now) _ c.in-Some-subcommand_matches-2.ensures.rows in
    (team, refl, subst (λ (rows : List Row). IsTeamOf rows team) (sym same) c.in_ok-team_of.ensures.ok)
