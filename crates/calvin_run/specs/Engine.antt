-- What the engine `run` does with the bytes of a script. The text is of this project; what it tells is the serial run of the
-- merged order of the batches that were chosen (Thomson et al. 2012, section 3).
--     Begins m c before after wide      the later list begins with the earlier one, or does so at each node, where the run is wide
--     IsRan m grammar show replicas wide bytes log text      the bytes are a script for the application; the book was opened for it, its events begin so with the script's submissions, and the text tells of the world that they lead to
--     IsRunText replicas wide bytes ran text      the same for the application of the book that is given
--     IsClusterFault wide fault      a fault that a cluster may end with
--     EndsWith wide fault read      the fault is the one of the script, or of a cluster in which a script that fits was run
--     Runs wide result read      a script that fits is run, or the run ends with such a fault
--     IsRunFault wide fault      a fault that the engine may end with, whatever its source and its sink are
--     RefusesRun wide fault answer      why a script isn't run: as `sim` refuses it, or by a cluster, where the script fits
use Rattle.std.specs.Prelude.{◌≡◌, ℕ, ◌<◌, ◌*◌, Bool, false, true, List, Result, Ok, Err}
use mathlib.Core.List.{IsPrefix}
use Rattle.calvin_types.specs.declared.fault.Fault.{Fault}
use Rattle.calvin_types.specs.declared.fault.Fault.TheVariants.{OutOfMemory, Closed, NoRun, NotEnded, BadJson, BadScript}
use Rattle.calvin_edge.specs.Answering.{HasAnswer, Refuses}
use Rattle.calvin_app.specs.Meaning.{Meaning}
use Rattle.calvin_app.specs.Kv.{kv}
use Rattle.calvin_stock.specs.Stock.{stock}
use Rattle.calvin_order.specs.Configs.{Config, store_config}
use Rattle.calvin_script.specs.Scripts.{Contents}
use Rattle.calvin_script.specs.Grammar.{Grammar}
use Rattle.calvin_script.specs.Reading.{script_from}
use Rattle.calvin_script.specs.KvOperations.{kv_grammar}
use Rattle.calvin_script.specs.StockOperations.{stock_grammar}
use Rattle.calvin_script.specs.OnceOperations.{once_stock, once_grammar}
use Rattle.calvin_text.specs.Texts.{kv_text, stock_text}
use Rattle.calvin_world.specs.declared.event.Event.{Event}
use Rattle.calvin_book.specs.Books.{Log, world_after}
use Rattle.calvin_wide_run.specs.Running.{BeginsAtNodes}
use Rattle.calvin_sim.specs.Engine.{IsSimFault}
use Rattle.calvin_sim.specs.Simulations.{submissions}
use Rattle.calvin_sim.specs.Telling.{IsTold}
use Rattle.calvin_run.specs.declared.engine.Ran.{Ran}
use Rattle.calvin_run.specs.declared.engine.Ran.TheVariants.{Kv, Stock, Once}

-- ---- how a list of events goes on

module _ {Args Row Reply : Type 0} (m : Meaning Args Row Reply) (c : Config) (before after : List (Event Args)) where
  abbrev pub Begins : Bool → Type 0
  Begins false = IsPrefix before after
  Begins true = BeginsAtNodes m c before after

-- ---- what is told

pub record IsRan {Args Row Reply : Type 0} (m : Meaning Args Row Reply) (grammar : Grammar Args) (show : Reply
    → List ℕ) (replicas : ℕ) (wide : Bool) (bytes : List ℕ) (log : Log Args) (text : List ℕ) : Type 0 where
  pub script : Contents Args
  pub read : script_from grammar bytes ≡ Ok script
  pub opened : log.config ≡ store_config script.partitions replicas 0 script.woven_from
  pub begins : Begins m log.config (submissions script) log.events wide
  pub told : IsTold m show (world_after m log.config log.events) text

-- by the application of the book
abbrev pub IsRunText : ℕ → Bool → List ℕ → Ran → List ℕ → Type 0
IsRunText replicas wide bytes (Kv log) text = IsRan kv kv_grammar kv_text replicas wide bytes log text
IsRunText replicas wide bytes (Stock log) text = IsRan stock stock_grammar stock_text replicas wide bytes log text
IsRunText replicas wide bytes (Once log) text = IsRan once_stock once_grammar stock_text replicas wide bytes log text

-- ---- how it ends without one

-- want of memory; or it closed before its nodes stood at the last epoch, or is still shared; or it is wide, and no list gives its histories
abbrev pub IsClusterFault : Bool → Fault → Type 0
IsClusterFault wide OutOfMemory = Unit {0}
IsClusterFault wide Closed = Unit {0}
IsClusterFault wide NotEnded = Unit {0}
IsClusterFault wide NoRun = wide ≡ true
IsClusterFault wide _ = ⊥

abbrev pub EndsWith : Bool → Fault → Result (Unit {0}) Fault → Type 0
EndsWith wide OutOfMemory read = Unit {0}
EndsWith wide Closed read = read ≡ Ok tt
EndsWith wide NotEnded read = read ≡ Ok tt
EndsWith wide NoRun read = (wide ≡ true) × (read ≡ Ok tt)
EndsWith wide BadJson read = read ≡ Err BadJson
EndsWith wide BadScript read = read ≡ Err BadScript
EndsWith wide _ read = ⊥

abbrev pub Runs : {X : Type 0} → Bool → Result X Fault → Result (Unit {0}) Fault → Type 0
Runs wide (Ok x) read = read ≡ Ok tt
Runs wide (Err fault) read = EndsWith wide fault read

-- those of the engine `sim`, and those of a cluster
abbrev pub IsRunFault : Bool → Fault → Type 0
IsRunFault wide Closed = Unit {0}
IsRunFault wide NotEnded = Unit {0}
IsRunFault wide NoRun = wide ≡ true
IsRunFault wide fault = IsSimFault fault

abbrev pub RefusesRun : Bool → Fault → Result (Unit {0}) Fault → Type 0
RefusesRun wide Closed answer = HasAnswer answer (λ _. Unit {0})
RefusesRun wide NotEnded answer = HasAnswer answer (λ _. Unit {0})
RefusesRun wide NoRun answer = (wide ≡ true) × HasAnswer answer (λ _. Unit {0})
RefusesRun wide fault answer = Refuses fault answer
