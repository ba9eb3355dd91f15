-- How a proof tells what a merge holds and gives apart: by numbers, lists and pairs.
use Rattle.std.specs.Prelude.{ℕ, Bool, Option, List, refl}
use Rattle.calvin_types.specs.declared.place.Place.{Place}
use Rattle.calvin_types.specs.declared.txn.Txn.{Txn}
use Rattle.std.specs.Coded.{Coded, code_by, coded×, coded_ℕ, coded_bool, coded_option, coded_list}
use Rattle.std.specs.FinMap.{code}
use Rattle.calvin_types.specs.Codes.{coded_place, coded_slot, coded_txn}
use Rattle.calvin_order.specs.Configs.{Config}
use Rattle.calvin_order.specs.Merging.{Batches, Holding, Merging}
use Rattle.calvin_order.specs.Waiting.{Waiting}

abbrev pub coded_placed : {T : Type 0} → Coded T → Coded (List (Place × T))
coded_placed items = coded_list (coded× coded_place items)

abbrev pub coded_config : Coded Config
coded_config = code_by ((ℕ × ℕ) × ((Bool × Bool) × (ℕ × Option ℕ))) (coded× (coded× coded_ℕ coded_ℕ) (coded× (coded× coded_bool coded_bool) (coded× coded_ℕ (coded_option coded_ℕ))))
    (λ c. ((c.replicas, c.partitions), ((c.points, c.cold), (c.delay, c.woven_from))))
    (λ p. record { replicas = p.0.0; partitions = p.0.1; points = p.1.0.0; cold = p.1.0.1; delay = p.1.1.0; woven_from = p.1.1.1 }) (λ _. refl)

module _ {Args : Type 0} (args : Coded Args) where
  abbrev pub coded_batches : Coded (Batches Args)
  coded_batches = code coded_slot (coded_list (coded_txn args))

  abbrev pub coded_holding : Coded (Holding Args)
  coded_holding = code_by (Batches Args × ℕ) (coded× coded_batches coded_ℕ) (λ h. (h.batches, h.room)) (λ p. record { batches = p.0; room = p.1 }) (λ _. refl)

  abbrev pub coded_merging : Coded (Merging Args)
  coded_merging = code_by ((Config × ℕ) × (Batches Args × (ℕ × ℕ))) (coded× (coded× coded_config coded_ℕ) (coded× coded_batches (coded× coded_ℕ coded_ℕ)))
      (λ m. ((m.config, m.next), (m.held, (m.room, m.ready))))
      (λ p. record { config = p.0.0; next = p.0.1; held = p.1.0; room = p.1.1.0; ready = p.1.1.1 }) (λ _. refl)

  abbrev pub coded_waiting : Coded (Waiting Args)
  coded_waiting = code_by (List (Place × Txn Args) × ℕ) (coded× (coded_placed (coded_txn args)) coded_ℕ) (λ w. (w.requests, w.room)) (λ p. record { requests = p.0; room = p.1 }) (λ _. refl)
