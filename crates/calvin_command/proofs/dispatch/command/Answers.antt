use Rattle.std.proofs.Common.{arith, map, subst, Bool, Ok}
use Rattle.calvin_command.specs.declared.wishes.Wish.{Wish}
use Rattle.calvin_command.specs.Ends.{StopsEarly}
use Rattle.calvin_command.specs.Line.{IsRun, IsSim, IsTeamAsked}
use Rattle.calvin_command.proofs.Helped.{is_covered}
use Rattle.calvin_command.proofs.Named.{is_taken_line}
use Rattle.calvin_command.proofs.Schedules.{asked_of}
use Rattle.calvin_command.proofs.Teams.{team_asked}
use Rattle.calvin_command.proofs.Words.{is_check_line, is_plain_line, is_run_line, is_scout_line, is_sim_line}
use Rattle.calvin_command.proofs.dispatch.command.Goals as goal

pub returns-in-Ok-Serial-clause-plain : goal.returns-in-Ok-Serial-clause-plain
returns-in-Ok-Serial-clause-plain g c = is_plain_line (map g.W.AsStr.text c.args.words.now)

pub returns-in-Ok-Serial-clause-scout : goal.returns-in-Ok-Serial-clause-scout
returns-in-Ok-Serial-clause-scout g c = is_scout_line (map g.W.AsStr.text c.args.words.now)

pub returns-in-Ok-Serial-clause-plain_check : goal.returns-in-Ok-Serial-clause-plain_check
returns-in-Ok-Serial-clause-plain_check g c = is_check_line (map g.W.AsStr.text c.args.words.now)

pub returns-in-Ok-Serial-clause-plain_sim : goal.returns-in-Ok-Serial-clause-plain_sim
returns-in-Ok-Serial-clause-plain_sim g c = is_sim_line (map g.W.AsStr.text c.args.words.now)

pub returns-in-Ok-Serial-clause-plain_run : goal.returns-in-Ok-Serial-clause-plain_run
returns-in-Ok-Serial-clause-plain_run g c = is_run_line (map g.W.AsStr.text c.args.words.now)

pub returns-in-Ok-Check-clause-plain_sim : goal.returns-in-Ok-Check-clause-plain_sim
returns-in-Ok-Check-clause-plain_sim g c = is_sim_line (map g.W.AsStr.text c.args.words.now)

pub returns-in-Ok-Check-clause-plain_run : goal.returns-in-Ok-Check-clause-plain_run
returns-in-Ok-Check-clause-plain_run g c = is_run_line (map g.W.AsStr.text c.args.words.now)

pub returns-in-Ok-Sim-clause-plain_check : goal.returns-in-Ok-Sim-clause-plain_check
returns-in-Ok-Sim-clause-plain_check g c = is_check_line (map g.W.AsStr.text c.args.words.now)

pub returns-in-Ok-Sim-clause-plain_sim : goal.returns-in-Ok-Sim-clause-plain_sim
returns-in-Ok-Sim-clause-plain_sim g c = is_sim_line (map g.W.AsStr.text c.args.words.now)

pub returns-in-Ok-Sim-clause-plain_run : goal.returns-in-Ok-Sim-clause-plain_run
returns-in-Ok-Sim-clause-plain_run g c = is_run_line (map g.W.AsStr.text c.args.words.now)

pub returns-in-Ok-Sim-clause-sim : goal.returns-in-Ok-Sim-clause-sim
returns-in-Ok-Sim-clause-sim g c line =
    let words = map g.W.AsStr.text c.args.words.now in
    (c.in-Ok-Sim.schedule, subst (λ (w : Wish). IsSim words (Ok w)) c.in-Ok-Sim.field-0-is (c.in-Ok-Sim.ensures.sim line), c.run_sim.ensures.sim)

pub returns-in-Ok-Run-clause-plain_check : goal.returns-in-Ok-Run-clause-plain_check
returns-in-Ok-Run-clause-plain_check g c = is_check_line (map g.W.AsStr.text c.args.words.now)

pub returns-in-Ok-Run-clause-plain_sim : goal.returns-in-Ok-Run-clause-plain_sim
returns-in-Ok-Run-clause-plain_sim g c = is_sim_line (map g.W.AsStr.text c.args.words.now)

pub returns-in-Ok-Run-clause-plain_run : goal.returns-in-Ok-Run-clause-plain_run
returns-in-Ok-Run-clause-plain_run g c = is_run_line (map g.W.AsStr.text c.args.words.now)

pub returns-in-Ok-Run-clause-run : goal.returns-in-Ok-Run-clause-run
returns-in-Ok-Run-clause-run g c line =
    let words = map g.W.AsStr.text c.args.words.now in
    (c.in-Ok-Run.team, subst (λ (w : Wish). IsRun words (Ok w)) c.in-Ok-Run.field-0-is (c.in-Ok-Run.ensures.run line), c.run_cluster.ensures.run)

pub returns-in-Ok-Run-clause-stops : goal.returns-in-Ok-Run-clause-stops
returns-in-Ok-Run-clause-stops g c line =
    let words = map g.W.AsStr.text c.args.words.now in
    let asked : IsTeamAsked words c.in-Ok-Run.team = subst (λ (w : Wish). IsRun words (Ok w)) c.in-Ok-Run.field-0-is (c.in-Ok-Run.ensures.run line) in
    subst (λ (wide : Bool). StopsEarly g.S.Source g.K.Sink g.E.Sink c.args.input.now c.run_cluster.new.input c.args.output.now c.run_cluster.new.output c.args.error.now c.run_cluster.new.error c.run_cluster.result wide) asked.wide c.run_cluster.ensures.stops

pub returns-in-Ok-Help-clause-taken : goal.returns-in-Ok-Help-clause-taken
returns-in-Ok-Help-clause-taken g c = is_taken_line (map g.W.AsStr.text c.args.words.now)

pub returns-in-Ok-Help-clause-covered : goal.returns-in-Ok-Help-clause-covered
returns-in-Ok-Help-clause-covered g c = is_covered (map g.W.AsStr.text c.args.words.now)

pub returns-in-Ok-Help-clause-plain_check : goal.returns-in-Ok-Help-clause-plain_check
returns-in-Ok-Help-clause-plain_check g c = is_check_line (map g.W.AsStr.text c.args.words.now)

pub returns-in-Ok-Help-clause-plain_sim : goal.returns-in-Ok-Help-clause-plain_sim
returns-in-Ok-Help-clause-plain_sim g c = is_sim_line (map g.W.AsStr.text c.args.words.now)

pub returns-in-Ok-Help-clause-plain_run : goal.returns-in-Ok-Help-clause-plain_run
returns-in-Ok-Help-clause-plain_run g c = is_run_line (map g.W.AsStr.text c.args.words.now)

pub returns-in-Err-BadLine-clause-taken : goal.returns-in-Err-BadLine-clause-taken
returns-in-Err-BadLine-clause-taken g c = is_taken_line (map g.W.AsStr.text c.args.words.now)

pub returns-in-Err-BadLine-clause-covered : goal.returns-in-Err-BadLine-clause-covered
returns-in-Err-BadLine-clause-covered g c = is_covered (map g.W.AsStr.text c.args.words.now)

pub returns-in-Err-BadLine-clause-plain_check : goal.returns-in-Err-BadLine-clause-plain_check
returns-in-Err-BadLine-clause-plain_check g c = is_check_line (map g.W.AsStr.text c.args.words.now)

pub returns-in-Err-BadLine-clause-plain_sim : goal.returns-in-Err-BadLine-clause-plain_sim
returns-in-Err-BadLine-clause-plain_sim g c = is_sim_line (map g.W.AsStr.text c.args.words.now)

pub returns-in-Err-BadLine-clause-plain_run : goal.returns-in-Err-BadLine-clause-plain_run
returns-in-Err-BadLine-clause-plain_run g c = is_run_line (map g.W.AsStr.text c.args.words.now)

pub returns-in-Err-OutOfMemory-clause-taken : goal.returns-in-Err-OutOfMemory-clause-taken
returns-in-Err-OutOfMemory-clause-taken g c = is_taken_line (map g.W.AsStr.text c.args.words.now)

pub returns-in-Err-OutOfMemory-clause-covered : goal.returns-in-Err-OutOfMemory-clause-covered
returns-in-Err-OutOfMemory-clause-covered g c = is_covered (map g.W.AsStr.text c.args.words.now)

pub returns-in-Err-OutOfMemory-clause-plain_check : goal.returns-in-Err-OutOfMemory-clause-plain_check
returns-in-Err-OutOfMemory-clause-plain_check g c = is_check_line (map g.W.AsStr.text c.args.words.now)

pub returns-in-Err-OutOfMemory-clause-plain_sim : goal.returns-in-Err-OutOfMemory-clause-plain_sim
returns-in-Err-OutOfMemory-clause-plain_sim g c = is_sim_line (map g.W.AsStr.text c.args.words.now)

pub returns-in-Err-OutOfMemory-clause-plain_run : goal.returns-in-Err-OutOfMemory-clause-plain_run
returns-in-Err-OutOfMemory-clause-plain_run g c = is_run_line (map g.W.AsStr.text c.args.words.now)

pub returns-in-Err-OutOfMemory-clause-sim : goal.returns-in-Err-OutOfMemory-clause-sim
returns-in-Err-OutOfMemory-clause-sim g c line =
    let asked = asked_of (map g.W.AsStr.text c.args.words.now) line in (
      asked.0,
      asked.1,
      record {
        written = λ zero. absurd (omega (arith, zero, c.end_with.ensures.status));
        refused = λ two. absurd (omega (arith, two, c.end_with.ensures.status));
        told_refusal = λ two. absurd (omega (arith, two, c.end_with.ensures.status));
        beginning = λ failed. absurd (omega (arith, failed));
      },
    )

pub returns-in-Err-OutOfMemory-clause-run : goal.returns-in-Err-OutOfMemory-clause-run
returns-in-Err-OutOfMemory-clause-run g c line =
    let asked = team_asked (map g.W.AsStr.text c.args.words.now) line in (
      asked.0,
      asked.1,
      record {
        written = λ zero. absurd (omega (arith, zero, c.end_with.ensures.status));
        refused = λ two. absurd (omega (arith, two, c.end_with.ensures.status));
        told_refusal = λ two. absurd (omega (arith, two, c.end_with.ensures.status));
        beginning = λ failed. absurd (omega (arith, failed));
      },
    )
