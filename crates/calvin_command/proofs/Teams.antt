-- A line for `run` asks for a team, and no refusal comes of it.
use Rattle.std.proofs.Common.{◌≡◌, false, List, [], Option, Some, Ok, refl, sym, ap, subst, drop, codes, arith}
use Rattle.std.specs.List.{fold}
use Rattle.clap.specs.Simple.{Shape, filled, rows_at}
use Rattle.clap.specs.Faults.{level_fault}
use Rattle.clap.specs.Walk.{Row, Text, nothing_held, settled, walk, with_default}
use Rattle.clap.specs.Words.{subcommand_of, subcommand_rows_of, subcommand_name_of}
use Rattle.clap.specs.declared.parser.matches.ArgMatches.{ArgMatches}
use Rattle.calvin_types.specs.Limits.{IsInRange}
use Rattle.calvin_types.specs.declared.limits.TheConstants.{MOST_REPLICAS}
use Rattle.calvin_cluster.specs.declared.cluster.TheConstants.{MOST_WORKERS}
use Rattle.calvin_run.specs.declared.team.Team.{Team}
use Rattle.calvin_command.specs.declared.wishes.Wish.{Wish}
use Rattle.calvin_command.specs.declared.wishes.Wish.TheVariants.{Run}
use Rattle.calvin_options.specs.Options.{has_flag, rows_found}
use Rattle.calvin_command.specs.Line.{calvin, replicas_option, workers_option, IsTeamOf, IsTeamAsked, IsRun, IsRunLine}
use Rattle.calvin_command.proofs.Entered.{named_good, other, shape}
use Rattle.calvin_command.proofs.Numbers.{HasNumber, IsPassed, default_makes, defaults_all_keep, flag_default, flag_used, help_default, help_used, number_default, number_found, number_used}
use Rattle.calvin_command.proofs.Rows.{Each, HasGoodDefault, IsUsedWell, level_good}
use Rattle.calvin_command.proofs.Words.{name_is}

abbrev run : Shape
run = shape 3

uses : Each (IsUsedWell (Each (IsPassed run.rules)) run.args_override_self) run.rules
uses = (
  number_used run.rules (codes "replicas") 1 MOST_REPLICAS (codes "3") refl false,
  (
    number_used run.rules (codes "workers") 1 MOST_WORKERS (codes "4") refl false,
    (
      flag_used run.rules (codes "wide") refl false,
      (help_used run.rules false, tt),
    ),
  ),
)

defaults : Each (HasGoodDefault (Each (IsPassed run.rules))) run.rules
defaults = (
  number_default run.rules (codes "replicas") 1 MOST_REPLICAS (codes "3") refl,
  (
    number_default run.rules (codes "workers") 1 MOST_WORKERS (codes "4") refl,
    (
      flag_default run.rules (codes "wide") refl,
      (help_default run.rules, tt),
    ),
  ),
)

-- the numbers of a team
record HasNumbers (rows : List Row) : Type 0 where
  replicas : HasNumber (codes "replicas") 1 MOST_REPLICAS rows
  workers : HasNumber (codes "workers") 1 MOST_WORKERS rows

numbers_at_end : (rows : List Row) → Each (IsPassed run.rules) (fold with_default rows run.rules) → HasNumbers (fold with_default rows run.rules)
numbers_at_end rows each =
    let after_replicas = with_default rows (filled replicas_option) in
    let end = fold with_default rows run.rules in
    record {
      replicas = number_found run.rules (codes "replicas") 1 MOST_REPLICAS (codes "3") refl end each
          (defaults_all_keep (codes "replicas") (drop 1 run.rules) after_replicas (default_makes (codes "replicas") 1 MOST_REPLICAS (codes "3") rows));
      workers = number_found run.rules (codes "workers") 1 MOST_WORKERS (codes "4") refl end each
          (defaults_all_keep (codes "workers") (drop 2 run.rules) (with_default after_replicas (filled workers_option))
          (default_makes (codes "workers") 1 MOST_WORKERS (codes "4") after_replicas));
    }

run_numbers : (words : List Text) → level_fault run [] nothing_held words false [] ≡ [] → HasNumbers (rows_at run words).1
run_numbers words none =
    let end = walk run.rules [] nothing_held words in
    numbers_at_end (settled run.rules end.held).rows (level_good (Each (IsPassed run.rules)) run uses defaults [] words false [] none tt)

line_numbers : (words : List Text) → IsRunLine words → HasNumbers (rows_found (subcommand_of calvin words))
line_numbers words line =
    let absent = other (codes "run") HasNumbers in
    named_good (codes "run") HasNumbers (absent (shape 0) refl, (absent (shape 1) refl, (absent (shape 2) refl, (λ same. run_numbers, (absent (shape 4) refl, tt)))))
    words line.0.0 line.1

team_of : (rows : List Row) → HasNumbers rows → (team : Team) × IsTeamOf rows team
team_of rows numbers =
    let range : IsInRange 1 numbers.replicas.0 = record {
      some_partition = omega arith;
      partitions_at_most = omega arith;
      some_replica = omega (arith, numbers.replicas.2);
      replicas_at_most = numbers.replicas.3;
    } in (
      record {
        replicas = numbers.replicas.0;
        workers = numbers.workers.0;
        wide = has_flag (codes "wide") rows;
        in_range = range;
        some_worker = omega (arith, numbers.workers.2);
        workers_at_most = numbers.workers.3;
      },
      record { replicas = numbers.replicas.1; workers = numbers.workers.1; wide = refl },
    )

pub team_asked : (words : List Text) → IsRunLine words → (team : Team) × IsTeamAsked words team
team_asked words line = team_of (rows_found (subcommand_of calvin words)) (line_numbers words line)

-- what the matches of such a line ask for, of which the team is so, where it can be had
pub run_wish : (words : List Text) (m : ArgMatches) (result : Option Wish) → subcommand_rows_of m ≡ subcommand_of calvin words
    → (subcommand_name_of m ≡ Some (codes "run") → (asked : Team) → IsTeamOf (rows_found (subcommand_rows_of m)) asked
    → (team : Team) × (result ≡ Some (Run team)) × IsTeamOf (rows_found (subcommand_rows_of m)) team)
    → IsRunLine words → (team : Team) × (result ≡ Some (Run team)) × IsTeamAsked words team
run_wish words m result same given line =
    let asked = team_asked words line in
    let rows = ap rows_found same in
    let got = given (name_is (codes "run") m words same line.1) asked.0 (subst (λ (rs : List Row). IsTeamOf rs asked.0) (sym rows) asked.1) in
    (got.0, got.1, subst (λ (rs : List Row). IsTeamOf rs got.0) rows got.2)

pub is_run : (words : List Text) (wish : Wish) → (team : Team) × (Some wish ≡ Some (Run team)) × IsTeamAsked words team → IsRun words (Ok wish)
is_run words wish got =
    let same : wish ≡ Run got.0 = cc in
    subst (λ (w : Wish). IsRun words (Ok w)) (sym same) got.2
