-- The requests of an epoch of a script, apart from whether their sets were declared, and in an epoch whose batches aren't woven.
use Rattle.std.proofs.Common.{◌≡◌, ℕ, false, None, cond, List, map, sym, ap}
use Rattle.calvin_types.specs.declared.place.Slot.{Slot}
use Rattle.calvin_order.specs.Configs.{Config, is_woven, woven, merged}
use Rattle.calvin_order.specs.Merged.{joined, numbered}
use Rattle.calvin_order.proofs.Joining.{merged_each}
use Rattle.calvin_script.specs.Scripts.{Contents, requests_at, batch_at}
use Rattle.calvin_serial.specs.Scouting.{serial_config, placed_txn}

pub txns_merged : {Args : Type 0} (script : Contents Args) (e : ℕ) → map placed_txn (merged (serial_config script) (requests_at script) e) ≡ merged (serial_config script) (batch_at script) e
txns_merged script e = merged_each (λ r. r.txn) (serial_config script) (requests_at script) e

-- an epoch whose batches aren't woven has the same order where no batch is ever woven
pub joined_alike : {T : Type 0} (c : Config) (B : Slot → List T) (e : ℕ) → is_woven c.woven_from e ≡ false → merged (record c { woven_from = None }) B e ≡ merged c B e
joined_alike c B e joins = ap (λ w. numbered e 0 (cond w (woven B e c.partitions) (joined B e c.partitions))) (sym joins)
