-- What the engine `sim` does with the bytes of a script. The text is of this project; what it tells is the serial run of the
-- merged order of the batches that were chosen (Thomson et al. 2012, section 3).
--     fitting script      that the script fits, or BadScript
--     fitting_in script      the same of a script for the application that it names
--     sim_script bytes      that the bytes of a script are such a script; or why not
--     IsRun m grammar show schedule bytes w text      the bytes are a script for the application; the world is one of its simulations under the schedule, and the text tells of it
--     IsSimText schedule bytes simulated text      the same for the application of the world that is given
--     IsSimFault fault      a fault that the engine may end with, whatever its source and its sink are
use Rattle.std.specs.Prelude.{◌≡◌, ℕ, List, length, false, if◌then◌else◌, nat_lt, Result, Ok, Err}
use Rattle.calvin_types.specs.declared.fault.Fault.{Fault}
use Rattle.calvin_types.specs.declared.fault.Fault.TheVariants.{OutOfMemory, BadJson, BadScript, ScriptTooLong, ReadFailed, WriteFailed}
use Rattle.calvin_edge.specs.declared.reading.TheConstants.{MOST_BYTES}
use Rattle.calvin_app.specs.Meaning.{Meaning}
use Rattle.calvin_app.specs.Kv.{kv}
use Rattle.calvin_stock.specs.Stock.{stock}
use Rattle.calvin_script.specs.Scripts.{Contents}
use Rattle.calvin_script.specs.Applications.{AppContents, OfKv, OfStock, OfOnce, app_script_from}
use Rattle.calvin_script.specs.Grammar.{Grammar}
use Rattle.calvin_script.specs.Reading.{and_then, script_from}
use Rattle.calvin_script.specs.KvOperations.{kv_grammar}
use Rattle.calvin_script.specs.StockOperations.{stock_grammar}
use Rattle.calvin_script.specs.OnceOperations.{once_stock, once_grammar}
use Rattle.calvin_text.specs.Texts.{kv_text, stock_text}
use Rattle.calvin_world.specs.Worlds.{WorldState}
use Rattle.calvin_report.specs.Reports.{is_lost, least_kept}
use Rattle.calvin_sim_events.specs.declared.schedule.Schedule.{Schedule}
use Rattle.calvin_sim.specs.Simulations.{fits, IsSimulation}
use Rattle.calvin_sim.specs.Telling.{IsToldUpTo}
use Rattle.calvin_sim.specs.declared.engine.Simulated.{Simulated}
use Rattle.calvin_sim.specs.declared.engine.Simulated.TheVariants.{Kv, Stock, Once}

-- ---- which scripts

abbrev pub fitting : {Args : Type 0} → Contents Args → Result (Unit {0}) Fault
fitting script = if fits script then Ok tt else Err BadScript

-- of the application that is named
abbrev pub fitting_in : AppContents → Result (Unit {0}) Fault
fitting_in (OfKv script) = fitting script
fitting_in (OfStock script) = fitting script
fitting_in (OfOnce script) = fitting script

abbrev pub sim_script : List ℕ → Result (Unit {0}) Fault
sim_script bytes = if nat_lt MOST_BYTES (length bytes) then Err ScriptTooLong else and_then (app_script_from bytes) fitting_in

-- ---- what is told

pub record IsRun {Args Row Reply : Type 0} (m : Meaning Args Row Reply) (grammar : Grammar Args) (show : Reply
    → List ℕ) (schedule : Schedule) (bytes : List ℕ) (w : WorldState Args Row Reply) (text : List ℕ) : Type 0 where
  pub script : Contents Args
  pub read : script_from grammar bytes ≡ Ok script
  pub simulation : IsSimulation m schedule script w
  -- to the last epoch at whose end all nodes stand whose packets aren't lost
  pub told : IsToldUpTo m show w (least_kept (is_lost schedule.lost) w) text

-- by the application of the world
abbrev pub IsSimText : Schedule → List ℕ → Simulated → List ℕ → Type 0
IsSimText schedule bytes (Kv w) text = IsRun kv kv_grammar kv_text schedule bytes w text
IsSimText schedule bytes (Stock w) text = IsRun stock stock_grammar stock_text schedule bytes w text
IsSimText schedule bytes (Once w) text = IsRun once_stock once_grammar stock_text schedule bytes w text

-- want of memory, a script that is refused, or a device that failed
abbrev pub IsSimFault : Fault → Type 0
IsSimFault OutOfMemory = Unit {0}
IsSimFault BadJson = Unit {0}
IsSimFault BadScript = Unit {0}
IsSimFault ScriptTooLong = Unit {0}
IsSimFault ReadFailed = Unit {0}
IsSimFault WriteFailed = Unit {0}
IsSimFault _ = ⊥
