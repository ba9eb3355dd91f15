-- Batches, joined and numbered as the order of an assignment of batches to slots asks for (Thomson et al. 2012, section 3.1: one order of all requests, epoch after epoch).
--     Batch Args      requests in order
--     Assignment Args      a batch for each slot
--     joined B e g      the batches of epoch e of the groups below g, by ascending group
--     numbered e n requests      each request at its place in epoch e, counted from n
--     end_of n      the place at which the first n epochs end
use Rattle.std.specs.Prelude.{ℕ, zero, suc, List, [], ◌∷◌, ◌++◌}
use Rattle.calvin_types.specs.declared.place.Slot.{Slot}
use Rattle.calvin_types.specs.declared.place.Place.{Place}
use Rattle.calvin_types.specs.declared.txn.Txn.{Txn}

abbrev pub Batch : Type 0 → Type 0
Batch Args = List (Txn Args)

abbrev pub Assignment : Type 0 → Type 0
Assignment Args = Slot → Batch Args

-- what stands in batches is requests, or requests with what else is known of each
module _ {T : Type 0} where
  abbrev pub joined : (Slot → List T) → ℕ → ℕ → List T
  joined B e zero = []
  joined B e (suc g) = joined B e g ++ B (record { epoch = e; group = g })

  abbrev pub numbered : ℕ → ℕ → List T → List (Place × T)
  numbered e n [] = []
  numbered e n (t ∷ ts) = (record { epoch = e; n = n }, t) ∷ numbered e (suc n) ts

abbrev pub end_of : ℕ → Place
end_of n = record { epoch = n; n = 0 }
