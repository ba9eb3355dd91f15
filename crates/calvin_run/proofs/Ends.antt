-- What a run ends with.
--     not_ended_only, want_only, as_another, opened_only      the faults of a cluster
--     kv_taken, stock_taken, once_taken      a sequencer takes each request of the script that was read
--     runs_fitting, runs_read, not_read, given_up      a script that is run, or why it isn't
--     is_ran      what is told of it
use Rattle.std.proofs.Common.{◌≡◌, ◌⊎◌, ℕ, ◌<◌, ◌≤◌, inl, inr, Bool, List, ◌++◌, Result, Ok, Err, IfErr, IsOkUnless, refl, sym, ap, subst, ◌∙◌, arith}
use Rattle.calvin_types.specs.declared.fault.Fault.{Fault}
use Rattle.calvin_types.specs.declared.fault.Fault.TheVariants.{OutOfMemory, BadWorkers, Closed, NoRun, NotEnded, BadJson, BadScript}
use Rattle.calvin_cluster.specs.declared.cluster.TheConstants.{MOST_WORKERS}
use Rattle.calvin_app.specs.Meaning.{Meaning}
use Rattle.calvin_app.specs.declared.kv.KvRequest.{KvRequest}
use Rattle.calvin_once.specs.declared.kept.Named.{Named}
use Rattle.calvin_stock.specs.declared.request.StockRequest.{StockRequest}
use Rattle.calvin_script.specs.declared.contents.Request.{Request}
use Rattle.calvin_script.specs.declared.contents.Script.{Script}
use Rattle.calvin_script.specs.declared.reading.AppScript.{AppScript}
use Rattle.calvin_script.specs.declared.reading.AppScript.TheVariants as app
use Rattle.calvin_script.specs.KvOperations.{kv_grammar}
use Rattle.calvin_script.specs.StockOperations.{stock_grammar}
use Rattle.calvin_script.specs.OnceOperations.{once_grammar}
use Rattle.calvin_sim.proofs.Runs.{kv_is, stock_is, once_is}
use Rattle.calvin_sim.proofs.Taken.{from_taken}
use Rattle.calvin_order.specs.Configs.{store_config}
use Rattle.calvin_order.specs.Merged.{Assignment}
use Rattle.calvin_script.specs.Applications.{AppContents, app_contents, app_script_from}
use Rattle.calvin_script.specs.Grammar.{Grammar}
use Rattle.calvin_script.specs.Reading.{and_then, script_from, Reads}
use Rattle.calvin_script.specs.Scripts.{Contents, contents}
use Rattle.calvin_book.specs.Books.{Log, world_after}
use Rattle.calvin_sim.specs.Engine.{fitting_in}
use Rattle.calvin_sim.specs.Simulations.{submissions, AllTaken}
use Rattle.calvin_sim.specs.Telling.{run_text, IsTold}
use Rattle.calvin_report.specs.Replies.{epochs_upto}
use Rattle.calvin_report.specs.Reports.{least_standing}
use Rattle.calvin_world.specs.Promises.{IsChosenUpTo}
use Rattle.calvin_world.specs.Worlds.{WorldState}
use Rattle.calvin_run.specs.Engine.{Begins, IsRan, IsClusterFault, EndsWith, Runs}

-- ---- what is told

module _ {Args Row Reply : Type 0} (m : Meaning Args Row Reply) (show : Reply → List ℕ) where
  pub is_told : (w v : WorldState Args Row Reply) (text lines end : List ℕ) (B : Assignment Args) → w ≡ v → IsChosenUpTo w B (epochs_upto (least_standing w)) → text ≡ lines ++ end → lines ++ end ≡ run_text m show w B (epochs_upto (least_standing w)) → IsTold m show v text
  is_told w v text lines end B same chosen is told = subst (λ (x : WorldState Args Row Reply). IsTold m show x text) same (record { batches = B; chosen = chosen; told = is ∙ told })

-- ---- a cluster

fits_or_ends : (wide : Bool) (fault : Fault) → IsClusterFault wide fault → EndsWith wide fault (Ok tt)
fits_or_ends wide OutOfMemory is = tt
fits_or_ends wide Closed is = refl
fits_or_ends wide NotEnded is = refl
fits_or_ends wide NoRun is = (is, refl)
fits_or_ends wide BadJson is = absurd is
fits_or_ends wide BadScript is = absurd is
fits_or_ends wide fault is = absurd is

module _ {X : Type 0} (wide : Bool) where
  pub not_ended_only : (r : Result X Fault) → IsOkUnless r NotEnded → IfErr r (IsClusterFault wide)
  not_ended_only (Ok x) only = tt
  not_ended_only (Err fault) only = subst (IsClusterFault wide) (sym only) tt

  pub want_only : (r : Result X Fault) → IsOkUnless r OutOfMemory → IfErr r (IsClusterFault wide)
  want_only (Ok x) only = tt
  want_only (Err fault) only = subst (IsClusterFault wide) (sym only) tt

  -- the same fault
  pub as_another : {Y : Type 0} (r : Result X Fault) (s : Result Y Fault) (fault : Fault) → r ≡ Err fault → s ≡ Err fault → IfErr r (IsClusterFault wide) → IfErr s (IsClusterFault wide)
  as_another r s fault is same only = subst (λ t. IfErr t (IsClusterFault wide)) (sym same) (subst (λ t. IfErr t (IsClusterFault wide)) is only)

  pub runs_fitting : (r : Result X Fault) (read : Result (Unit {0}) Fault) → read ≡ Ok tt → IfErr r (IsClusterFault wide) → Runs wide r read
  runs_fitting (Ok x) read fits only = fits
  runs_fitting (Err fault) read fits only = subst (EndsWith wide fault) (sym fits) (fits_or_ends wide fault only)

pub opened_only : (wide : Bool) (workers : ℕ) (fault : Fault) → 0 < workers → workers ≤ MOST_WORKERS → ((((workers ≡ 0) ⊎ (MOST_WORKERS < workers)) × (fault ≡ BadWorkers)) ⊎ ((0 < workers) × (workers ≤ MOST_WORKERS) × (fault ≡ OutOfMemory))) → IsClusterFault wide fault
opened_only wide workers fault some most (inl (inl none, is)) = absurd (omega (arith, some, none))
opened_only wide workers fault some most (inl (inr more, is)) = absurd (omega (arith, most, more))
opened_only wide workers fault some most (inr (low, high, is)) = subst (IsClusterFault wide) (sym is) tt

-- ---- the application that a script names

pub kv_taken : (bytes : List ℕ) (s : AppScript) (script : Script (Request KvRequest)) → app_script_from bytes ≡ Ok (app_contents s) → s ≡ app.Kv script → AllTaken (contents script)
kv_taken bytes s script read is = from_taken kv_grammar bytes (contents script) (kv_is bytes s script read is)

pub stock_taken : (bytes : List ℕ) (s : AppScript) (script : Script (Request StockRequest)) → app_script_from bytes ≡ Ok (app_contents s) → s ≡ app.Stock script → AllTaken (contents script)
stock_taken bytes s script read is = from_taken stock_grammar bytes (contents script) (stock_is bytes s script read is)

pub once_taken : (bytes : List ℕ) (s : AppScript) (script : Script (Request (Named StockRequest))) → app_script_from bytes ≡ Ok (app_contents s) → s ≡ app.Once script → AllTaken (contents script)
once_taken bytes s script read is = from_taken once_grammar bytes (contents script) (once_is bytes s script read is)

-- none was read
pub not_read : (wide : Bool) (fault : Fault) (read : Result AppContents Fault) → Reads (λ (s : AppContents). s) (Err fault) read → EndsWith wide fault (and_then read fitting_in)
not_read wide OutOfMemory read is = tt
not_read wide BadJson read is = ap (λ x. and_then x fitting_in) is
not_read wide BadScript read is = ap (λ x. and_then x fitting_in) is
not_read wide fault read is = absurd is

module _ {X : Type 0} (wide : Bool) where
  -- the script that was read is run
  pub runs_read : (r : Result X Fault) (read : Result AppContents Fault) (script : AppContents) → read ≡ Ok script → Runs wide r (fitting_in script) → Runs wide r (and_then read fitting_in)
  runs_read r read script is runs = subst (λ x. Runs wide r (and_then x fitting_in)) (sym is) runs

module _ {Args Row Reply : Type 0} (m : Meaning Args Row Reply) (grammar : Grammar Args) (show : Reply → List ℕ) (replicas : ℕ) (wide : Bool) (bytes : List ℕ) (c : Contents Args) where
  pub is_ran : script_from grammar bytes ≡ Ok c → (log : Log Args) (text : List ℕ) → log.config ≡ store_config c.partitions replicas 0 c.woven_from → Begins m log.config (submissions c) log.events wide → IsTold m show (world_after m log.config log.events) text
      → IsRan m grammar show replicas wide bytes log text
  is_ran read log text opened begins told = record { script = c; read = read; opened = opened; begins = begins; told = told }
