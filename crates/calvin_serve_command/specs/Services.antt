-- A service from its journal to its last line. The notions are of this project.
--     IsAnew form heading desk anew      the other desk stands at the same rows and epoch, over a journal that begins with these rows
--     Opens m show form grammar setting heading task found desk      the journal that stood there was opened, and the desk serves it; to compact it: the desk serves the one that was written anew
--     Served m show form grammar setting heading task found given out out_now      the journal that stood there was opened, each line of the input was dealt with, and then the last epoch was told
--     Stops m show form grammar setting heading task disk given out left out_now      a service has ended early: the journal wasn't opened, and no line of it is lost; or in the middle; or when it was to tell the last epoch
--     DoesFor m show form grammar setting heading task found given out out_now      a service, or a replay of the journal
--     DoesBy application setting task found given out out_now      the same by the name of the application
--     Does order found given out out_now      what is asked for was done
use Rattle.std.specs.Prelude.{◌≡◌, ℕ, List, map, take, Option, Some, option_map, Result, IfSome}
use Rattle.std.specs.Io.KnownBytes.{Appends}
use Rattle.serde_json.specs.Data.{Data}
use mathlib.Core.List.{IsPrefix}
use Rattle.calvin_types.specs.declared.fault.Fault.{Fault}
use Rattle.calvin_app.specs.Meaning.{Meaning}
use Rattle.calvin_app.specs.Kv.{kv}
use Rattle.calvin_stock.specs.Stock.{stock}
use Rattle.calvin_script.specs.Grammar.{Grammar}
use Rattle.calvin_script.specs.KvOperations.{kv_grammar}
use Rattle.calvin_script.specs.StockOperations.{stock_grammar}
use Rattle.calvin_script.specs.OnceOperations.{once_grammar, once_stock}
use Rattle.calvin_text.specs.Texts.{finished, kv_text, stock_text}
use Rattle.calvin_journal_log.specs.Disks.{Disk, Leads}
use Rattle.calvin_journal.specs.Journals.{Becomes}
use Rattle.calvin_serve_input.specs.Inputs.{input_lines}
use Rattle.calvin_serve_lines.specs.Asking.{Asked, request_line}
use Rattle.calvin_serve_rows.specs.KvForms.{kv_row}
use Rattle.calvin_serve_rows.specs.StockForms.{stock_row}
use Rattle.calvin_serve_rows.specs.OnceForms.{once_row}
use Rattle.calvin_serve_desk.specs.declared.setting.Setting.{Setting}
use Rattle.calvin_serve_desk.specs.Desks.{Standing}
use Rattle.calvin_serve_compaction.specs.Compactions.{Compacts}
use Rattle.calvin_serve_recovery.specs.Recovered.{Recovers, Prints, Keeps}
use Rattle.calvin_serve.specs.Serving.{Serves, Ends}
use Rattle.calvin_script.specs.declared.reading.AppName.{AppName}
use Rattle.calvin_script.specs.declared.reading.AppName.TheVariants.{Kv, Stock, Once}
use Rattle.calvin_serve_command.specs.declared.order.Task.{Task}
use Rattle.calvin_serve_command.specs.declared.order.Task.TheVariants.{Serve, Compact, Replay}
use Rattle.calvin_serve_command.specs.declared.order.Order.{Order}
use Rattle.calvin_serve_command.specs.Headings.{heading}

module _ {Row : Type 0} (form : Data → Option Row) (heading : List ℕ) where
  pub record IsAnew (desk anew : Standing Row) : Type 0 where
    pub setting : anew.setting ≡ desk.setting
    pub epoch : anew.epoch ≡ desk.epoch
    pub rows : anew.rows ≡ desk.rows
    pub written : IfSome anew.lines (Compacts form heading desk)

module _ {Args Row Reply : Type 0} (m : Meaning Args Row Reply) (show : Reply → List ℕ) (form : Data → Option Row) (grammar : Grammar Args) (setting : Setting) (heading : List ℕ) where
  abbrev pub read_as : List ℕ → List (Result (Asked Args) Fault)
  read_as given = map (request_line grammar setting.partitions) (input_lines given)

  abbrev pub Opens : Task → List ℕ → Standing Row → Type 0
  Opens Serve found desk = Recovers m show form grammar setting heading found desk
  Opens Compact found anew = (desk : Standing Row) × Recovers m show form grammar setting heading found desk × IsAnew form heading desk anew
  Opens Replay found desk = ⊥

  pub record Served (task : Task) (found given : List ℕ) (out out_now : Option (List ℕ)) : Type 0 where
    pub desk : Standing Row
    pub opens : Opens task found desk
    pub now : Standing Row
    pub said : Option (List ℕ)
    pub serves : Serves m show grammar desk out (read_as given) now said
    pub last : Appends said out_now (finished now.epoch)

  pub data Stops (task : Task) (disk : Disk) (given : List ℕ) (out : Option (List ℕ)) (left : Option Disk) (out_now : Option (List ℕ)) : Type 0 where
    Unopened : Leads (Keeps heading) (Some disk) left → out_now ≡ out → Stops task disk given out left out_now
    Midway : (desk : Standing Row) → Opens task disk.seen desk → (lines : List (Result (Asked Args) Fault)) → IsPrefix lines (read_as given)
        → Ends m show grammar desk out lines left out_now → Stops task disk given out left out_now
    Untold : (desk now : Standing Row) → Opens task disk.seen desk → (said : Option (List ℕ)) → Serves m show grammar desk out (read_as given) now said
        → (n : ℕ) → Appends said out_now (take n (finished now.epoch)) → Becomes (option_map (λ ls. (ls, ls)) now.lines) left → Stops task disk given out left out_now

  abbrev pub DoesFor : Task → List ℕ → List ℕ → Option (List ℕ) → Option (List ℕ) → Type 0
  DoesFor Serve found given out out_now = Served Serve found given out out_now
  DoesFor Compact found given out out_now = Served Compact found given out out_now
  DoesFor Replay found given out out_now = Prints m show form grammar setting heading found out out_now

-- by the name of the application
abbrev pub DoesBy : AppName → Setting → Task → List ℕ → List ℕ → Option (List ℕ) → Option (List ℕ) → Type 0
DoesBy Kv setting task found given out out_now = DoesFor kv kv_text kv_row kv_grammar setting (heading Kv setting) task found given out out_now
DoesBy Stock setting task found given out out_now = DoesFor stock stock_text stock_row stock_grammar setting (heading Stock setting) task found given out out_now
DoesBy Once setting task found given out out_now = DoesFor once_stock stock_text once_row once_grammar setting (heading Once setting) task found given out out_now

abbrev pub Does : Order → List ℕ → List ℕ → Option (List ℕ) → Option (List ℕ) → Type 0
Does order found given out out_now = DoesBy order.application order.setting order.task found given out out_now
