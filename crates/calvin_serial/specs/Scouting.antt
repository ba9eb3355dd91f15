-- The merged order of a script, each request with its sets. Sets that were not declared are found by a look at rows (Thomson
-- et al. 2012, section 3.2.1); that all requests of an epoch look at the rows before it is of this project.
--     serial_config script      what orders the requests of a script: its partitions, and the first epoch whose batches it has woven
--     placed_txn p      a place with the request that stands there, apart from whether its sets were declared
--     scouted_txn m rows r      the request r with the sets that it declares, or else with those that are found over these rows
--     scouted_epoch m rows requests      so all requests of an epoch, over the rows before it
--     with_sets m sets rows requests      the requests of an epoch, over the rows before it, with undeclared sets of this kind
--     scouted_order m script rows e n      so the merged order of n epochs from e on, each over the rows that the epochs before it leave of these
--     order_of m script sets      the merged order of all the script's epochs, with undeclared sets of this kind
--     RunsOn m show placed rows new text longer      these requests were run on the rows, and a line for each was added to the text
use Rattle.std.specs.Prelude.{◌≡◌, ℕ, zero, suc, List, [], ◌∷◌, ◌++◌, length, map, if◌then◌else◌, Result, Ok}
use Rattle.std.specs.FinMap.{empty}
use Rattle.calvin_types.specs.declared.fault.Fault.{Fault}
use Rattle.calvin_types.specs.declared.place.Place.{Place}
use Rattle.calvin_types.specs.declared.txn.Txn.{Txn}
use Rattle.calvin_types.specs.Orders.{Order}
use Rattle.calvin_app.specs.Rows.{Rows}
use Rattle.calvin_app.specs.Meaning.{Meaning}
use Rattle.calvin_app.specs.Serial.{serial}
use Rattle.calvin_order.specs.Configs.{Config, store_config, merged, order}
use Rattle.calvin_recon.specs.Scouting.{found}
use Rattle.calvin_script.specs.declared.contents.Request.{Request}
use Rattle.calvin_script.specs.Scripts.{Contents, requests_at, batch_at}
use Rattle.calvin_script.specs.Reading.{and_then}
use Rattle.calvin_text.specs.Texts.{lines}
use Rattle.calvin_serial.specs.declared.undeclared.UndeclaredSets.{UndeclaredSets}
use Rattle.calvin_serial.specs.declared.undeclared.UndeclaredSets.TheVariants.{First, Scouted}

infixl 10 ◌>>=◌
abbrev ◌>>=◌ : {A B : Type 0} → Result A Fault → (A → Result B Fault) → Result B Fault
x >>= f = and_then x f

module _ {Args : Type 0} where
  abbrev pub serial_config : Contents Args → Config
  serial_config script = store_config script.partitions 1 0 script.woven_from

  abbrev pub placed_txn : Place × Request Args → Place × Txn Args
  placed_txn p = (p.0, p.1.txn)

module _ {Args Row Reply : Type 0} (m : Meaning Args Row Reply) where
  abbrev pub scouted_txn : Rows Row → Request Args → Result (Txn Args) Fault
  scouted_txn rows r = if r.is_declared then Ok r.txn else (do
    sets ← found m r.txn.args rows
    Ok (record r.txn { sets = sets }))

  abbrev pub scouted_epoch : Rows Row → List (Place × Request Args) → Result (Order Args) Fault
  scouted_epoch rows [] = Ok []
  scouted_epoch rows (r ∷ rs) = do
    txn ← scouted_txn rows r.1
    placed ← scouted_epoch rows rs
    Ok ((r.0, txn) ∷ placed)

  abbrev pub with_sets : UndeclaredSets → Rows Row → List (Place × Request Args) → Result (Order Args) Fault
  with_sets First rows requests = Ok (map placed_txn requests)
  with_sets Scouted rows requests = scouted_epoch rows requests

  abbrev pub scouted_order : Contents Args → Rows Row → ℕ → ℕ → Result (Order Args) Fault
  scouted_order script rows e zero = Ok []
  scouted_order script rows e (suc n) = do
    here ← scouted_epoch rows (merged (serial_config script) (requests_at script) e)
    later ← scouted_order script (serial m (map (λ p. p.1) here) rows).0 (suc e) n
    Ok (here ++ later)

  -- where a request of a script declares no sets it has, as it stands there, those that it needs where no row is known
  abbrev pub order_of : Contents Args → UndeclaredSets → Result (Order Args) Fault
  order_of script First = Ok (order (serial_config script) (batch_at script) (length script.epochs))
  order_of script Scouted = scouted_order script empty 0 (length script.epochs)

  pub record RunsOn (show : Reply → List ℕ) (placed : Order Args) (rows new : Rows Row) (text longer : List ℕ) : Type 0 where
    pub added : longer ≡ text ++ lines show placed (serial m (map (λ p. p.1) placed) rows).1
    pub after : new ≡ (serial m (map (λ p. p.1) placed) rows).0
