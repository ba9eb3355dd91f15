-- Majorities of a group, and what a majority chooses ("Paxos Made Simple", section 2.2).
--     IsIn a replicas      the replica is among these
--     majority size      how many replicas are a majority of a group of this size
--     IsMajority size replicas      distinct replicas of the group, and more than half of it
--     IsChosen size Cast batch      for one ballot, a majority cast votes for the batch
use Rattle.std.specs.Prelude.{◌≡◌, ℕ, ◌+◌, ◌/◌, ◌<◌, ◌≤◌, true, List, length, nat_eq}
use Rattle.std.specs.List.{list_any, IsDistinct}
use Rattle.calvin_types.specs.declared.place.Ballot.{Ballot}

abbrev pub IsIn : ℕ → List ℕ → Type 0
IsIn a replicas = list_any (nat_eq a) replicas ≡ true

abbrev pub majority : ℕ → ℕ
majority size = size / 2 + 1

pub record IsMajority (size : ℕ) (replicas : List ℕ) : Type 0 where
  pub distinct : IsDistinct nat_eq replicas
  pub within : (a : ℕ) → IsIn a replicas → a < size
  pub enough : majority size ≤ length replicas

abbrev pub IsChosen : {B : Type 0} → ℕ → (ℕ → Ballot → B → Type 0) → B → Type 0
IsChosen size Cast batch = (ballot : Ballot) × (voters : List ℕ) × IsMajority size voters × ((a : ℕ) → IsIn a voters → Cast a ballot batch)
