-- What is left of an epoch's requests, while they are given one at a time. The notion is of this project.
--     flat bs      the batches, one after another
--     across b cs      a request of b at the front of each of as many columns
--     columns bs      the first requests of these batches, their second ones, and so on
--     in_turns bs      these batches woven: their first requests, then their second ones, and so on
--     turned b qs      what waits once the first request of b is given: it is behind the others, if it has more
--     batches_from B e g k      the batches of epoch e of k groups from g on, by ascending group
--     left_of B slot groups woven n rest waiting      the requests that are left of what is given next, of the groups from the slot's on, and of those that wait for their next turn, counted from n
--     IsWalk group groups n left waiting      no more requests a group than a batch has were given or are left of those before this one, of as many groups as there can be at most
--     IsTurn old given new      the batch that waits first gave its first request
--     placed      a place with the request that a reference points to
use Rattle.std.specs.Prelude.{◌≡◌, ℕ, zero, suc, ◌+◌, ◌-◌, ◌*◌, ◌≤◌, ◌<◌, Bool, if◌then◌else◌, List, [], ◌∷◌, ◌++◌, length, take}
use Rattle.std.specs.Borrow.{Bor}
use Rattle.calvin_types.specs.declared.limits.TheConstants.{MOST_PARTITIONS, MOST_REQUESTS}
use Rattle.calvin_types.specs.declared.place.Place.{Place}
use Rattle.calvin_types.specs.declared.place.Slot.{Slot}
use Rattle.calvin_order.specs.Merged.{numbered}

module _ {T : Type 0} where
  abbrev pub flat : List (List T) → List T
  flat [] = []
  flat (b ∷ bs) = b ++ flat bs

  abbrev pub across : List T → List (List T) → List (List T)
  across [] cs = cs
  across (t ∷ ts) [] = (t ∷ []) ∷ across ts []
  across (t ∷ ts) (c ∷ cs) = (t ∷ c) ∷ across ts cs

  abbrev pub columns : List (List T) → List (List T)
  columns [] = []
  columns (b ∷ bs) = across b (columns bs)

  abbrev pub in_turns : List (List T) → List T
  in_turns bs = flat (columns bs)

  abbrev pub turned : List T → List (List T) → List (List T)
  turned [] qs = qs
  turned (t ∷ []) qs = qs
  turned (t ∷ u ∷ us) qs = qs ++ (u ∷ us) ∷ []

  abbrev pub IsTurn : List (List T) → List T → List (List T) → Type 0
  IsTurn [] given new = ⊥
  IsTurn (b ∷ qs) given new = (given ≡ take 1 b) × (new ≡ turned b qs) × (0 < length b)

  abbrev pub batches_from : (Slot → List T) → ℕ → ℕ → ℕ → List (List T)
  batches_from B e g zero = []
  batches_from B e g (suc k) = B (record { epoch = e; group = g }) ∷ batches_from B e (suc g) k

  -- of these batches and of those that wait for their next turn
  abbrev pub left_behind : Bool → List (List T) → List (List T) → List T
  left_behind woven bs waiting = if woven then in_turns (bs ++ waiting) else flat bs ++ in_turns waiting

  abbrev pub left_of : (Slot → List T) → Slot → ℕ → Bool → ℕ → List T → List (List T) → List (Place × T)
  left_of B slot groups woven n rest waiting = numbered slot.epoch n (rest ++ left_behind woven (batches_from B slot.epoch slot.group (groups - slot.group)) waiting)

  abbrev pub placed : Place × Bor T → Place × T
  placed p = (p.0, p.1.now)

  pub record IsWalk (group groups n left : ℕ) (waiting : List (List T)) : Type 0 where
    pub few : groups ≤ MOST_PARTITIONS
    pub within : group ≤ groups
    pub counted : n + left + length (flat waiting) ≤ MOST_REQUESTS * group
    pub waiting_few : length waiting ≤ group
