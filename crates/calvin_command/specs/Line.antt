-- Which command lines ask for what. They are of this project; what a line is to `clap` is of its specifications.
--     scout_flag, restarts_flag, repeat_flag      the flag `--scout` of `serial`, and `--restarts` and `--repeat` of `sim`
--     start_option, steps_option, replicas_option, lose_option      the options of `sim`
--     workers_option, wide_flag      the option `--workers` and the flag `--wide` of `run`, which has `--replicas` too
--     serial_app, check_app, sim_app, run_app      the subcommands `serial`, `check`, `sim` and `run`
--     calvin      the program's command line, as clap sees it
--     Names name words      as clap reads them, the words name the subcommand of this name
--     LosesWell replicas rows      by what clap found no replica is lost, or one above 0 of so many
--     IsTaken words      clap takes the words, and where they name `sim`, they lose no replica, or one above 0 that is there
--     IsSerialLine words, IsCheckLine words, IsSimLine words, IsRunLine words      the words are taken, and clap reads that they name the subcommand `serial`;  `check`;  `sim`;  `run`
--     sets_of found      the undeclared sets that are asked for by what clap found of a subcommand
--     sets_asked words      the undeclared sets that the words ask for, as clap reads them
--     restarts_of rows      whether nodes restart by what clap found
--     IsScheduleOf rows schedule      what clap found asks for this schedule
--     IsAsked words schedule      the words ask for this schedule, as clap reads them
--     wide_asked words      whether the words ask for a lock for each node, as clap reads them
--     IsTeamOf rows team      what clap found asks for this team
--     IsTeamAsked words team      the words ask for this team, as clap reads them
--     IsUsual schedule, IsUsualTeam team      it is the one that is run where nothing else is asked for
--     IsHelpLine words      clap answers the words with help
--     IsBadLine words      the words aren't taken, and clap doesn't answer them with help
--     HasHelpWord words      `help` stands among the words after the program's name
--     IsPlainSerialLine words, IsPlainCheckLine words, IsPlainSimLine words, IsPlainRunLine words      the words are the program's name and `serial`;  and `check`;  and `sim`;  and `run`
--     IsScoutLine words      the words are the program's name, `serial` and `--scout`
--     IsOf name wish      the wish is for the subcommand of this name
--     IsAskedBy rows wish      where the wish is for `sim`, what clap found asks for its schedule
--     IsFor words wish      where a subcommand is asked for, the words are for it
--     IsSerial sets wish      the serial run is asked for with these undeclared sets, unless memory ran out
--     IsCheck wish      the run of a list of events is asked for, unless memory ran out
--     IsSim words wish      the run of a script in a world is asked for with a schedule that the words ask for, unless memory ran out
--     IsRun words wish      the run of a script in threads is asked for by a team that the words ask for, unless memory ran out
--     IsHelp wish      help is asked for, unless memory ran out
--     IsRefused wish      nothing is asked for
use Rattle.std.specs.Prelude.{◌≡◌, ◌≤◌, ◌<◌, ◌&&◌, ◌-◌, ◌^◌, ℕ, List, [], ◌∷◌, Option, Some, None, IfSome, option_map, option_and_then, if◌then◌else◌, nat_lt, Result, Ok, Err, codes, drop, Bool, true, false}
use Rattle.std.specs.Str.{bytes_eq}
use Rattle.std.specs.Str.Parse.{digits_value, without_leading_plus}
use Rattle.std.specs.List.{Contains}
use Rattle.clap.specs.ValueTests.{is_numeral}
use Rattle.clap.specs.Words.{App, Rule, Row, Text, new_app, new_rule, with_rule, with_subcommand, first_of, subcommand_of, fault_of, IsAmong}
use Rattle.clap.specs.declared.builder.action.ArgAction.TheVariants.{Set, SetTrue}
use Rattle.clap.specs.declared.builder.value_parser.ValueParser.TheVariants.{Unsigned}
use Rattle.clap.specs.declared.error.kind.ErrorKind.TheVariants.{DisplayHelp}
use Rattle.calvin_options.specs.Options.{flag, number_option, optional_number, has_flag, number_of, rows_found}
use Rattle.calvin_types.specs.declared.limits.TheConstants.{MOST_REPLICAS}
use Rattle.calvin_serial.specs.declared.undeclared.UndeclaredSets.{UndeclaredSets}
use Rattle.calvin_serial.specs.declared.undeclared.UndeclaredSets.TheVariants.{First, Scouted}
use Rattle.calvin_sim_events.specs.declared.schedule.TheConstants.{MOST_STEPS}
use Rattle.calvin_sim_events.specs.declared.schedule.Schedule.{Schedule}
use Rattle.calvin_sim_events.specs.declared.schedule.Restarts.{Restarts}
use Rattle.calvin_sim_events.specs.declared.schedule.Restarts.TheVariants.{Never, AboveReplicaZero}
use Rattle.calvin_cluster.specs.declared.cluster.TheConstants.{MOST_WORKERS}
use Rattle.calvin_run.specs.declared.team.Team.{Team}
use Rattle.calvin_command.specs.declared.wishes.Wish.{Wish}
use Rattle.calvin_command.specs.declared.wishes.Wish.TheVariants.{Serial, Check, Sim, Run, Help}
use Rattle.calvin_command.specs.declared.wishes.Refusal.{Refusal}
use Rattle.calvin_command.specs.declared.wishes.Refusal.TheVariants.{BadLine, OutOfMemory}

abbrev pub scout_flag : Rule
scout_flag = flag (codes "scout")

-- `serial`, which has this flag
abbrev pub serial_app : App
serial_app = with_rule (new_app (codes "serial")) scout_flag

-- `check`, which has none
abbrev pub check_app : App
check_app = new_app (codes "check")

-- `sim`, which has two flags and four options
abbrev pub restarts_flag : Rule
restarts_flag = flag (codes "restarts")

abbrev pub repeat_flag : Rule
repeat_flag = flag (codes "repeat")

abbrev pub start_option : Rule
start_option = number_option (codes "start") 0 18446744073709551615 (codes "1")

abbrev pub steps_option : Rule
steps_option = number_option (codes "steps") 0 MOST_STEPS (codes "1000")

abbrev pub replicas_option : Rule
replicas_option = number_option (codes "replicas") 1 MOST_REPLICAS (codes "3")

abbrev pub lose_option : Rule
lose_option = optional_number (codes "lose") 1 (MOST_REPLICAS - 1)

abbrev pub sim_app : App
sim_app = with_rule (with_rule (with_rule (with_rule (with_rule (with_rule (new_app (codes "sim")) start_option) steps_option) replicas_option) restarts_flag) repeat_flag) lose_option

-- `run`, which has two options and a flag
abbrev pub workers_option : Rule
workers_option = number_option (codes "workers") 1 MOST_WORKERS (codes "4")

abbrev pub wide_flag : Rule
wide_flag = flag (codes "wide")

abbrev pub run_app : App
run_app = with_rule (with_rule (with_rule (new_app (codes "run")) replicas_option) workers_option) wide_flag

-- the program: one of its subcommands is required
abbrev pub calvin : App
calvin = let plain = new_app (codes "calvin") in
    let required = record plain { top = record plain.top { subcommand_required = true } } in
    with_subcommand (with_subcommand (with_subcommand (with_subcommand required serial_app.top) check_app.top) sim_app.top) run_app.top

abbrev pub Names : List ℕ → List (List ℕ) → Type 0
Names name words = option_map (λ s. s.0) (subcommand_of calvin words) ≡ Some name

abbrev pub LosesWell : ℕ → List Row → Type 0
LosesWell replicas rows = IfSome (number_of (codes "lose") rows) (λ lost. (0 < lost) × (lost < replicas))

-- clap has no error for the words, and of so many replicas as they ask for none is lost, or one above 0
abbrev pub IsTaken : List (List ℕ) → Type 0
IsTaken words = (fault_of calvin words ≡ [])
    × (Names (codes "sim") words → let rows = rows_found (subcommand_of calvin words) in
    IfSome (number_of (codes "replicas") rows) (λ replicas. LosesWell replicas rows))

abbrev pub IsSerialLine : List (List ℕ) → Type 0
IsSerialLine words = IsTaken words × Names (codes "serial") words

abbrev pub IsCheckLine : List (List ℕ) → Type 0
IsCheckLine words = IsTaken words × Names (codes "check") words

abbrev pub IsSimLine : List (List ℕ) → Type 0
IsSimLine words = IsTaken words × Names (codes "sim") words

abbrev pub IsRunLine : List (List ℕ) → Type 0
IsRunLine words = IsTaken words × Names (codes "run") words

abbrev pub sets_of : Option (Text × List Row) → UndeclaredSets
sets_of found = if has_flag (codes "scout") (rows_found found) then Scouted else First

abbrev pub sets_asked : List (List ℕ) → UndeclaredSets
sets_asked words = sets_of (subcommand_of calvin words)

abbrev pub restarts_of : List Row → Restarts
restarts_of rows = if has_flag (codes "restarts") rows then AboveReplicaZero else Never

pub record IsScheduleOf (rows : List Row) (schedule : Schedule) : Type 0 where
  pub start : number_of (codes "start") rows ≡ Some schedule.start
  pub steps : number_of (codes "steps") rows ≡ Some schedule.steps
  pub replicas : number_of (codes "replicas") rows ≡ Some schedule.replicas
  pub restarts : schedule.restarts ≡ restarts_of rows
  pub repeats : schedule.repeats ≡ has_flag (codes "repeat") rows
  pub lost : schedule.lost ≡ number_of (codes "lose") rows
  pub steps_at_most : schedule.steps ≤ MOST_STEPS
  pub loses_well : LosesWell schedule.replicas rows

abbrev pub IsAsked : List (List ℕ) → Schedule → Type 0
IsAsked words schedule = IsScheduleOf (rows_found (subcommand_of calvin words)) schedule

abbrev pub IsUsual : Schedule → Type 0
IsUsual schedule = (schedule.start ≡ 1) × (schedule.steps ≡ 1000) × (schedule.replicas ≡ 3) × (schedule.restarts ≡ Never)
    × (schedule.repeats ≡ false) × (schedule.lost ≡ None)

abbrev pub wide_asked : List (List ℕ) → Bool
wide_asked words = has_flag (codes "wide") (rows_found (subcommand_of calvin words))

pub record IsTeamOf (rows : List Row) (team : Team) : Type 0 where
  pub replicas : number_of (codes "replicas") rows ≡ Some team.replicas
  pub workers : number_of (codes "workers") rows ≡ Some team.workers
  pub wide : team.wide ≡ has_flag (codes "wide") rows

abbrev pub IsTeamAsked : List (List ℕ) → Team → Type 0
IsTeamAsked words team = IsTeamOf (rows_found (subcommand_of calvin words)) team

abbrev pub IsUsualTeam : Team → Type 0
IsUsualTeam team = (team.replicas ≡ 3) × (team.workers ≡ 4) × (team.wide ≡ false)

-- help is all that clap has for the words
abbrev pub IsHelpLine : List (List ℕ) → Type 0
IsHelpLine words = fault_of calvin words ≡ DisplayHelp ∷ []

-- the words aren't taken, and help is no error that clap has for them
abbrev pub IsBadLine : List (List ℕ) → Type 0
IsBadLine words = ¬ IsTaken words × ¬ IsAmong DisplayHelp (fault_of calvin words)

abbrev pub HasHelpWord : List (List ℕ) → Type 0
HasHelpWord words = Contains (drop 1 words) (codes "help")

abbrev pub IsPlainSerialLine : List (List ℕ) → Type 0
IsPlainSerialLine words = (program : List ℕ) × (words ≡ program ∷ codes "serial" ∷ [])

abbrev pub IsPlainCheckLine : List (List ℕ) → Type 0
IsPlainCheckLine words = (program : List ℕ) × (words ≡ program ∷ codes "check" ∷ [])

abbrev pub IsPlainSimLine : List (List ℕ) → Type 0
IsPlainSimLine words = (program : List ℕ) × (words ≡ program ∷ codes "sim" ∷ [])

abbrev pub IsPlainRunLine : List (List ℕ) → Type 0
IsPlainRunLine words = (program : List ℕ) × (words ≡ program ∷ codes "run" ∷ [])

abbrev pub IsScoutLine : List (List ℕ) → Type 0
IsScoutLine words = (program : List ℕ) × (words ≡ program ∷ codes "serial" ∷ codes "--scout" ∷ [])

abbrev pub IsOf : Option (List ℕ) → Wish → Type 0
IsOf name (Serial sets) = name ≡ Some (codes "serial")
IsOf name Check = name ≡ Some (codes "check")
IsOf name (Sim schedule) = name ≡ Some (codes "sim")
IsOf name (Run team) = name ≡ Some (codes "run")
IsOf name (Help e) = ⊥

abbrev pub IsAskedBy : List Row → Wish → Type 0
IsAskedBy rows (Serial sets) = Unit {0}
IsAskedBy rows Check = Unit {0}
IsAskedBy rows (Sim schedule) = IsScheduleOf rows schedule
IsAskedBy rows (Run team) = Unit {0}
IsAskedBy rows (Help e) = Unit {0}

abbrev pub IsFor : List (List ℕ) → Result Wish Refusal → Type 0
IsFor words (Ok (Serial sets)) = IsSerialLine words
IsFor words (Ok Check) = IsCheckLine words
IsFor words (Ok (Sim schedule)) = IsSimLine words
IsFor words (Ok (Run team)) = IsRunLine words
IsFor words (Ok (Help e)) = Unit {0}
IsFor words (Err refusal) = Unit {0}

abbrev pub IsSerial : UndeclaredSets → Result Wish Refusal → Type 0
IsSerial sets (Ok (Serial asked)) = asked ≡ sets
IsSerial sets (Ok Check) = ⊥
IsSerial sets (Ok (Sim schedule)) = ⊥
IsSerial sets (Ok (Run team)) = ⊥
IsSerial sets (Ok (Help e)) = ⊥
IsSerial sets (Err BadLine) = ⊥
IsSerial sets (Err OutOfMemory) = Unit {0}

abbrev pub IsCheck : Result Wish Refusal → Type 0
IsCheck (Ok (Serial asked)) = ⊥
IsCheck (Ok Check) = Unit {0}
IsCheck (Ok (Sim schedule)) = ⊥
IsCheck (Ok (Run team)) = ⊥
IsCheck (Ok (Help e)) = ⊥
IsCheck (Err BadLine) = ⊥
IsCheck (Err OutOfMemory) = Unit {0}

abbrev pub IsSim : List (List ℕ) → Result Wish Refusal → Type 0
IsSim words (Ok (Serial asked)) = ⊥
IsSim words (Ok Check) = ⊥
IsSim words (Ok (Sim schedule)) = IsAsked words schedule
IsSim words (Ok (Run team)) = ⊥
IsSim words (Ok (Help e)) = ⊥
IsSim words (Err BadLine) = ⊥
IsSim words (Err OutOfMemory) = Unit {0}

abbrev pub IsRun : List (List ℕ) → Result Wish Refusal → Type 0
IsRun words (Ok (Serial asked)) = ⊥
IsRun words (Ok Check) = ⊥
IsRun words (Ok (Sim schedule)) = ⊥
IsRun words (Ok (Run team)) = IsTeamAsked words team
IsRun words (Ok (Help e)) = ⊥
IsRun words (Err BadLine) = ⊥
IsRun words (Err OutOfMemory) = Unit {0}

abbrev pub IsHelp : Result Wish Refusal → Type 0
IsHelp (Ok (Serial sets)) = ⊥
IsHelp (Ok Check) = ⊥
IsHelp (Ok (Sim schedule)) = ⊥
IsHelp (Ok (Run team)) = ⊥
IsHelp (Ok (Help e)) = Unit {0}
IsHelp (Err BadLine) = ⊥
IsHelp (Err OutOfMemory) = Unit {0}

abbrev pub IsRefused : Result Wish Refusal → Type 0
IsRefused (Ok wish) = ⊥
IsRefused (Err refusal) = Unit {0}
