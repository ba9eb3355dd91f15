-- A line for `sim` asks for a schedule, and no refusal comes of it.
use Rattle.std.proofs.Common.{◌≡◌, ◌-◌, ℕ, false, List, [], Option, Some, Ok, IfSome, refl, sym, ap, subst, drop, codes, arith}
use Rattle.std.specs.List.{fold}
use Rattle.clap.specs.Simple.{Shape, filled, rows_at}
use Rattle.clap.specs.Faults.{level_fault}
use Rattle.clap.specs.Walk.{Row, Text, nothing_held, settled, walk, with_default}
use Rattle.clap.specs.Words.{subcommand_of, subcommand_rows_of, subcommand_name_of}
use Rattle.clap.specs.declared.parser.matches.ArgMatches.{ArgMatches}
use Rattle.calvin_types.specs.Limits.{IsInRange}
use Rattle.calvin_types.specs.declared.limits.TheConstants.{MOST_REPLICAS}
use Rattle.calvin_sim_events.specs.declared.schedule.Schedule.{Schedule}
use Rattle.calvin_sim_events.specs.declared.schedule.TheConstants.{MOST_STEPS}
use Rattle.calvin_command.specs.declared.wishes.Wish.{Wish}
use Rattle.calvin_command.specs.declared.wishes.Wish.TheVariants.{Sim}
use Rattle.calvin_options.specs.Options.{has_flag, number_of, rows_found}
use Rattle.calvin_command.specs.Line.{calvin, restarts_of, start_option, steps_option, replicas_option, LosesWell, IsScheduleOf, IsAsked, IsSim, IsSimLine}
use Rattle.calvin_command.proofs.Entered.{named_good, other, shape}
use Rattle.calvin_command.proofs.Numbers.{HasNumber, IsPassed, default_makes, defaults_all_keep, flag_default, flag_used, help_default, help_used, number_default, number_found, number_used, optional_default, optional_used}
use Rattle.calvin_command.proofs.Rows.{Each, HasGoodDefault, IsUsedWell, level_good}
use Rattle.calvin_command.proofs.Words.{name_is}

abbrev sim : Shape
sim = shape 2

uses : Each (IsUsedWell (Each (IsPassed sim.rules)) sim.args_override_self) sim.rules
uses = (
  number_used sim.rules (codes "start") 0 18446744073709551615 (codes "1") refl false,
  (
    number_used sim.rules (codes "steps") 0 MOST_STEPS (codes "1000") refl false,
    (
      number_used sim.rules (codes "replicas") 1 MOST_REPLICAS (codes "3") refl false,
      (
        flag_used sim.rules (codes "restarts") refl false,
        (
          flag_used sim.rules (codes "repeat") refl false,
          (
            optional_used sim.rules (codes "lose") 1 (MOST_REPLICAS - 1) refl false,
            (help_used sim.rules false, tt),
          ),
        ),
      ),
    ),
  ),
)

defaults : Each (HasGoodDefault (Each (IsPassed sim.rules))) sim.rules
defaults = (
  number_default sim.rules (codes "start") 0 18446744073709551615 (codes "1") refl,
  (
    number_default sim.rules (codes "steps") 0 MOST_STEPS (codes "1000") refl,
    (
      number_default sim.rules (codes "replicas") 1 MOST_REPLICAS (codes "3") refl,
      (
        flag_default sim.rules (codes "restarts") refl,
        (
          flag_default sim.rules (codes "repeat") refl,
          (
            optional_default sim.rules (codes "lose") 1 (MOST_REPLICAS - 1),
            (help_default sim.rules, tt),
          ),
        ),
      ),
    ),
  ),
)

-- the numbers of a schedule
pub record HasNumbers (rows : List Row) : Type 0 where
  pub start : HasNumber (codes "start") 0 18446744073709551615 rows
  pub steps : HasNumber (codes "steps") 0 MOST_STEPS rows
  pub replicas : HasNumber (codes "replicas") 1 MOST_REPLICAS rows

numbers_at_end : (rows : List Row) → Each (IsPassed sim.rules) (fold with_default rows sim.rules) → HasNumbers (fold with_default rows sim.rules)
numbers_at_end rows each =
    let after_start = with_default rows (filled start_option) in
    let after_steps = with_default after_start (filled steps_option) in
    let end = fold with_default rows sim.rules in
    record {
      start = number_found sim.rules (codes "start") 0 18446744073709551615 (codes "1") refl end each
          (defaults_all_keep (codes "start") (drop 1 sim.rules) after_start (default_makes (codes "start") 0 18446744073709551615 (codes "1") rows));
      steps = number_found sim.rules (codes "steps") 0 MOST_STEPS (codes "1000") refl end each
          (defaults_all_keep (codes "steps") (drop 2 sim.rules) after_steps (default_makes (codes "steps") 0 MOST_STEPS (codes "1000") after_start));
      replicas = number_found sim.rules (codes "replicas") 1 MOST_REPLICAS (codes "3") refl end each
          (defaults_all_keep (codes "replicas") (drop 3 sim.rules) (with_default after_steps (filled replicas_option))
          (default_makes (codes "replicas") 1 MOST_REPLICAS (codes "3") after_steps));
    }

sim_numbers : (words : List Text) → level_fault sim [] nothing_held words false [] ≡ [] → HasNumbers (rows_at sim words).1
sim_numbers words none =
    let end = walk sim.rules [] nothing_held words in
    numbers_at_end (settled sim.rules end.held).rows (level_good (Each (IsPassed sim.rules)) sim uses defaults [] words false [] none tt)

line_numbers : (words : List Text) → IsSimLine words → HasNumbers (rows_found (subcommand_of calvin words))
line_numbers words line =
    let absent = other (codes "sim") HasNumbers in
    named_good (codes "sim") HasNumbers (absent (shape 0) refl, (absent (shape 1) refl, (λ same. sim_numbers, (absent (shape 3) refl, (absent (shape 4) refl, tt)))))
    words line.0.0 line.1

schedule_of : (rows : List Row) → HasNumbers rows → IfSome (number_of (codes "replicas") rows) (λ replicas. LosesWell replicas rows)
    → (schedule : Schedule) × IsScheduleOf rows schedule
schedule_of rows numbers well =
    let range : IsInRange 1 numbers.replicas.0 = record {
      some_partition = omega arith;
      partitions_at_most = omega arith;
      some_replica = omega (arith, numbers.replicas.2);
      replicas_at_most = numbers.replicas.3;
    } in (
      record {
        start = numbers.start.0;
        steps = numbers.steps.0;
        replicas = numbers.replicas.0;
        restarts = restarts_of rows;
        repeats = has_flag (codes "repeat") rows;
        lost = number_of (codes "lose") rows;
        in_range = range;
      },
      record {
        start = numbers.start.1;
        steps = numbers.steps.1;
        replicas = numbers.replicas.1;
        restarts = refl;
        repeats = refl;
        lost = refl;
        steps_at_most = numbers.steps.3;
        loses_well = subst (λ (o : Option ℕ). IfSome o (λ replicas. LosesWell replicas rows)) numbers.replicas.1 well;
      },
    )

pub asked_of : (words : List Text) → IsSimLine words → (schedule : Schedule) × IsAsked words schedule
asked_of words line = schedule_of (rows_found (subcommand_of calvin words)) (line_numbers words line) (line.0.1 line.1)

-- what the matches of such a line ask for, of which the schedule is so, where it can be had
pub sim_wish : (words : List Text) (m : ArgMatches) (result : Option Wish) → subcommand_rows_of m ≡ subcommand_of calvin words
    → (subcommand_name_of m ≡ Some (codes "sim") → (asked : Schedule) → IsScheduleOf (rows_found (subcommand_rows_of m)) asked
    → (schedule : Schedule) × (result ≡ Some (Sim schedule)) × IsScheduleOf (rows_found (subcommand_rows_of m)) schedule)
    → IsSimLine words → (schedule : Schedule) × (result ≡ Some (Sim schedule)) × IsAsked words schedule
sim_wish words m result same given line =
    let asked = asked_of words line in
    let rows = ap rows_found same in
    let got = given (name_is (codes "sim") m words same line.1) asked.0 (subst (λ (rs : List Row). IsScheduleOf rs asked.0) (sym rows) asked.1) in
    (got.0, got.1, subst (λ (rs : List Row). IsScheduleOf rs got.0) rows got.2)

pub is_sim : (words : List Text) (wish : Wish) → (schedule : Schedule) × (Some wish ≡ Some (Sim schedule)) × IsAsked words schedule → IsSim words (Ok wish)
is_sim words wish got =
    let same : wish ≡ Sim got.0 = cc in
    subst (λ (w : Wish). IsSim words (Ok w)) (sym same) got.2
