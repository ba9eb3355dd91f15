-- Which command lines ask for what. They are of this project; what a line is to `clap` is of its specifications.
--     journal_option, partitions_option, app_option      the options of `serve`
--     scout_flag, compact_flag, replay_flag      its flags
--     serve_app      the subcommand `serve`
--     calvin      the program's command line, where it is for `serve`
--     is_serve_line words      the word behind the program's name is `serve`
--     IsTaken words      clap takes the words
--     IsHelpLine words      clap answers the words with help
--     IsBadLine words      clap refuses the words, and not with help
--     application_named name      the application of a name
--     task_asked compact replay      what is to be done, by whether the two flags are there; nothing where both are
--     IsOrderOf rows order      what clap found asks for this order
--     IsAsked words order      the words ask for this order, as clap reads them
use Rattle.std.specs.Prelude.{◌≡◌, ◌≢◌, ℕ, List, [], ◌∷◌, Option, Some, None, option_map, option_and_then, if◌then◌else◌, bytes_eq, codes, Bool, true, false}
use Rattle.clap.specs.Words.{App, Rule, Row, new_app, new_rule, with_rule, with_subcommand, first_of, subcommand_of, fault_of, IsAmong}
use Rattle.clap.specs.declared.builder.action.ArgAction.TheVariants.{Set}
use Rattle.clap.specs.declared.error.kind.ErrorKind.TheVariants.{DisplayHelp}
use Rattle.calvin_options.specs.Options.{flag, number_option, has_flag, number_of, rows_found}
use Rattle.calvin_types.specs.declared.limits.TheConstants.{MOST_PARTITIONS}
use Rattle.calvin_serial.specs.declared.undeclared.UndeclaredSets.TheVariants.{First, Scouted}
use Rattle.calvin_script.specs.declared.reading.AppName.{AppName}
use Rattle.calvin_script.specs.declared.reading.AppName.TheVariants.{Kv, Stock, Once}
use Rattle.calvin_serve_command.specs.declared.order.Task.TheVariants.{Serve, Compact, Replay}
use Rattle.calvin_serve_command.specs.declared.order.Task.{Task}
use Rattle.calvin_serve_command.specs.declared.order.Order.{Order}

abbrev pub journal_option : Rule
journal_option = record (new_rule (codes "journal")) {
  long = Some (codes "journal");
  action = Some Set;
  value_names = 1;
  required = true;
}

abbrev pub partitions_option : Rule
partitions_option = number_option (codes "partitions") 1 MOST_PARTITIONS (codes "1")

abbrev pub app_option : Rule
app_option = record (new_rule (codes "app")) {
  long = Some (codes "app");
  action = Some Set;
  value_names = 1;
  defaults = codes "kv" ∷ [];
}

abbrev pub scout_flag : Rule
scout_flag = flag (codes "scout")

abbrev pub compact_flag : Rule
compact_flag = flag (codes "compact")

abbrev pub replay_flag : Rule
replay_flag = flag (codes "replay")

abbrev pub serve_app : App
serve_app = with_rule (with_rule (with_rule (with_rule (with_rule (with_rule (new_app (codes "serve")) journal_option) partitions_option) app_option) scout_flag) compact_flag) replay_flag

-- the program: its subcommand is required
abbrev pub calvin : App
calvin = let plain = new_app (codes "calvin") in
    let required = record plain { top = record plain.top { subcommand_required = true } } in
    with_subcommand required serve_app.top

-- clap has no error for the words
abbrev pub IsTaken : List (List ℕ) → Type 0
IsTaken words = fault_of calvin words ≡ []

-- help is all that clap has for the words
abbrev pub IsHelpLine : List (List ℕ) → Type 0
IsHelpLine words = fault_of calvin words ≡ DisplayHelp ∷ []

-- clap has an error for the words, and it isn't help
abbrev pub IsBadLine : List (List ℕ) → Type 0
IsBadLine words = (fault_of calvin words ≢ []) × ¬ IsAmong DisplayHelp (fault_of calvin words)

abbrev pub application_named : List ℕ → Option AppName
application_named name = if bytes_eq name (codes "kv") then Some Kv else
    if bytes_eq name (codes "stock") then Some Stock else
    if bytes_eq name (codes "once") then Some Once else None

abbrev pub task_asked : Bool → Bool → Option Task
task_asked false false = Some Serve
task_asked true false = Some Compact
task_asked false true = Some Replay
task_asked true true = None

pub record IsOrderOf (rows : List Row) (order : Order) : Type 0 where
  pub name : first_of (codes "journal") rows ≡ Some order.name.now
  pub application : option_and_then application_named (first_of (codes "app") rows) ≡ Some order.application
  pub partitions : number_of (codes "partitions") rows ≡ Some order.setting.partitions
  pub sets : order.setting.sets ≡ (if has_flag (codes "scout") rows then Scouted else First)
  pub task : task_asked (has_flag (codes "compact") rows) (has_flag (codes "replay") rows) ≡ Some order.task

abbrev pub IsAsked : List (List ℕ) → Order → Type 0
IsAsked words order = (option_map (λ s. s.0) (subcommand_of calvin words) ≡ Some (codes "serve"))
    × IsOrderOf (rows_found (subcommand_of calvin words)) order

abbrev pub is_serve_line : List (List ℕ) → Bool
is_serve_line [] = false
is_serve_line (program ∷ []) = false
is_serve_line (program ∷ name ∷ words) = bytes_eq name (codes "serve")
