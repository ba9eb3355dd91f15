-- Scripts that are run for the application that they name.
use Rattle.std.proofs.Common.{◌≡◌, List, ℕ, Result, Ok, Err, IfOk, ap, ◌∙◌}
use Rattle.calvin_types.specs.declared.fault.Fault.{Fault}
use Rattle.calvin_app.specs.declared.kv.KvRequest.{KvRequest}
use Rattle.calvin_once.specs.declared.kept.Named.{Named}
use Rattle.calvin_stock.specs.declared.request.StockRequest.{StockRequest}
use Rattle.calvin_script.specs.declared.contents.Request.{Request}
use Rattle.calvin_script.specs.declared.contents.Script.{Script}
use Rattle.calvin_script.specs.declared.reading.AppScript.{AppScript}
use Rattle.calvin_script.specs.declared.reading.AppScript.TheVariants as app
use Rattle.calvin_script.specs.Applications.{OfKv, OfStock, OfOnce, app_contents, app_script_from}
use Rattle.calvin_script.specs.Grammar.{Grammar}
use Rattle.calvin_script.specs.KvOperations.{kv_grammar}
use Rattle.calvin_script.specs.StockOperations.{stock_grammar}
use Rattle.calvin_script.specs.OnceOperations.{once_grammar}
use Rattle.calvin_script.specs.Scripts.{Contents, contents}
use Rattle.calvin_script.specs.Reading.{script_from}
use Rattle.calvin_script.proofs.Applications.{read_as}
use Rattle.calvin_app.specs.Meaning.{Meaning}
use Rattle.calvin_world.specs.Worlds.{WorldState}
use Rattle.calvin_report.specs.Reports.{is_lost, least_kept}
use Rattle.calvin_sim_events.specs.declared.schedule.Schedule.{Schedule}
use Rattle.calvin_sim.specs.Engine.{IsRun}
use Rattle.calvin_sim.specs.Simulations.{IsSimulation}
use Rattle.calvin_sim.specs.Telling.{IsToldUpTo}

module _ {Args Row Reply X : Type 0} (m : Meaning Args Row Reply) (grammar : Grammar Args) (show : Reply → List ℕ) (schedule : Schedule) (world : X → WorldState Args Row Reply) (text : X → List ℕ) (c : Contents Args) where
  pub is_run : (result : Result X Fault) → IfOk result (λ r. IsSimulation m schedule c (world r)) → IfOk result (λ r. IsToldUpTo m show (world r) (least_kept (is_lost schedule.lost) (world r)) (text r))
      → IfOk result (λ r. (bytes : List ℕ) → script_from grammar bytes ≡ Ok c → IsRun m grammar show schedule bytes (world r) (text r))
  is_run (Ok r) simulation told = λ bytes read. record { script = c; read = read; simulation = simulation; told = told }
  is_run (Err fault) simulation told = tt

-- ---- the script that is run is the one that was read

pub kv_is : (bytes : List ℕ) (s : AppScript) (script : Script (Request KvRequest)) → app_script_from bytes ≡ Ok (app_contents s) → s ≡ app.Kv script → script_from kv_grammar bytes ≡ Ok (contents script)
kv_is bytes s script read is = read_as bytes (OfKv (contents script)) (read ∙ ap (λ t. Ok (app_contents t)) is)

pub stock_is : (bytes : List ℕ) (s : AppScript) (script : Script (Request StockRequest)) → app_script_from bytes ≡ Ok (app_contents s) → s ≡ app.Stock script → script_from stock_grammar bytes ≡ Ok (contents script)
stock_is bytes s script read is = read_as bytes (OfStock (contents script)) (read ∙ ap (λ t. Ok (app_contents t)) is)

pub once_is : (bytes : List ℕ) (s : AppScript) (script : Script (Request (Named StockRequest))) → app_script_from bytes ≡ Ok (app_contents s) → s ≡ app.Once script → script_from once_grammar bytes ≡ Ok (contents script)
once_is bytes s script read is = read_as bytes (OfOnce (contents script)) (read ∙ ap (λ t. Ok (app_contents t)) is)
