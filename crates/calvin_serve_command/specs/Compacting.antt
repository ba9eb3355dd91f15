-- What stands under a journal's name once it was compacted. The notions are of this project.
--     IsCompacted form heading desk disk      the whole of a synced journal that begins with the rows of a desk, and lists no epoch
--     IsCompactedOf m show form grammar setting heading found disk      the same of the desk of the journal that was found
--     LeavesFor m show form grammar setting heading task found now      what stood under the name stands there; or, to compact it, the journal that was compacted
--     LeavesBy application setting task found now      the same by the name of the application
--     Leaves order found now      the same of an order
use Rattle.std.specs.Prelude.{◌≡◌, ◌⊎◌, ℕ, List, Option, IfSome}
use Rattle.serde_json.specs.Data.{Data}
use Rattle.calvin_app.specs.Meaning.{Meaning}
use Rattle.calvin_script.specs.Grammar.{Grammar}
use Rattle.calvin_journal_log.specs.Disks.{Disk}
use Rattle.calvin_journal.specs.Lines.{text}
use Rattle.calvin_journal.specs.Journals.{synced}
use Rattle.calvin_serve_desk.specs.declared.setting.Setting.{Setting}
use Rattle.calvin_serve_desk.specs.Desks.{Standing}
use Rattle.calvin_app.specs.Kv.{kv}
use Rattle.calvin_stock.specs.Stock.{stock}
use Rattle.calvin_script.specs.KvOperations.{kv_grammar}
use Rattle.calvin_script.specs.StockOperations.{stock_grammar}
use Rattle.calvin_script.specs.OnceOperations.{once_grammar, once_stock}
use Rattle.calvin_text.specs.Texts.{kv_text, stock_text}
use Rattle.calvin_serve_rows.specs.KvForms.{kv_row}
use Rattle.calvin_serve_rows.specs.StockForms.{stock_row}
use Rattle.calvin_serve_rows.specs.OnceForms.{once_row}
use Rattle.calvin_script.specs.declared.reading.AppName.{AppName}
use Rattle.calvin_script.specs.declared.reading.AppName.TheVariants.{Kv, Stock, Once}
use Rattle.calvin_serve_command.specs.declared.order.Task.{Task}
use Rattle.calvin_serve_command.specs.declared.order.Task.TheVariants.{Serve, Compact, Replay}
use Rattle.calvin_serve_command.specs.declared.order.Order.{Order}
use Rattle.calvin_serve_command.specs.Headings.{heading}
use Rattle.calvin_serve_compaction.specs.Compactions.{Compacts}
use Rattle.calvin_serve_recovery.specs.Recovered.{Recovers}

abbrev pub IsCompacted : {Row : Type 0} → (Data → Option Row) → List ℕ → Standing Row → Disk → Type 0
IsCompacted form heading desk disk = (lines : List (List ℕ)) × (disk ≡ synced (text lines)) × Compacts form heading desk lines

module _ {Args Row Reply : Type 0} (m : Meaning Args Row Reply) (show : Reply → List ℕ) (form : Data → Option Row) (grammar : Grammar Args) (setting : Setting) (heading : List ℕ) where
  abbrev pub IsCompactedOf : List ℕ → Disk → Type 0
  IsCompactedOf found disk = (desk : Standing Row) × Recovers m show form grammar setting heading found desk × IsCompacted form heading desk disk

  abbrev pub LeavesFor : Task → Option Disk → Option Disk → Type 0
  LeavesFor Serve found now = now ≡ found
  LeavesFor Compact found now = (now ≡ found) ⊎ IfSome found (λ disk. IfSome now (IsCompactedOf disk.seen))
  LeavesFor Replay found now = now ≡ found

-- by the name of the application
abbrev pub LeavesBy : AppName → Setting → Task → Option Disk → Option Disk → Type 0
LeavesBy Kv setting task found now = LeavesFor kv kv_text kv_row kv_grammar setting (heading Kv setting) task found now
LeavesBy Stock setting task found now = LeavesFor stock stock_text stock_row stock_grammar setting (heading Stock setting) task found now
LeavesBy Once setting task found now = LeavesFor once_stock stock_text once_row once_grammar setting (heading Once setting) task found now

abbrev pub Leaves : Order → Option Disk → Option Disk → Type 0
Leaves order found now = LeavesBy order.application order.setting order.task found now
