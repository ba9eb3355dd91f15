-- How a scheduler in code keeps at the end of which epochs it stands, and what an epoch that is merged makes of it (Thomson
-- et al. 2012, section 3.1: epoch after epoch).
--     left s due      the places that aren't done
--     done_at opened kept q      whether a place is done, by what is kept
--     from_left done due      the places from the first one on that isn't done
--     passes_first done due      whether there is a first place, and it is done
--     end_of_due merged due      the epoch of the first place, or else how many epochs are merged
--     Climbs low high due      the epochs don't fall, and are between two bounds
--     IsProgress opened last turns merged done due      what is true of what is kept for it
--     HasReserved p      there is the room that was reserved for places
--     merge epoch order s      the next epoch is merged
use Rattle.std.specs.Prelude.{◌≡◌, ℕ, suc, ◌+◌, ◌<◌, ◌≤◌, ◌^◌, ◌==◌, ◌&&◌, ◌||◌, Bool, true, false, not, if◌then◌else◌, List, [], ◌∷◌, ◌++◌, Option, Some}
use Rattle.std.specs.List.{filter, list_all}
use Rattle.std.specs.FinMap.{FinMap, get}
use Rattle.std.specs.VecDeque.{deque_len, deque_capacity}
use Rattle.calvin_types.specs.declared.fault.Fault.TheVariants as fault
use Rattle.calvin_types.specs.declared.place.Place.{Place}
use Rattle.calvin_types.specs.Deeds.{Deed, Refuses, Does}
use Rattle.calvin_types.specs.Orders.{Order}
use Rattle.calvin_types.specs.Places.{place_cmp}
use Rattle.calvin_order.specs.Merged.{end_of}
use Rattle.calvin_sched.specs.Scheduling.{Turn, Scheduling, is_before, is_past, is_finished, is_done, turn_done}
use Rattle.calvin_sched.specs.Standing.{local_places}
use Rattle.calvin_sched.specs.Keeping.{Scheduled, Kept, turns_of}
use Rattle.calvin_sched.specs.declared.progress.Progress.{Progress}

abbrev pub from_left : (Place → Bool) → List Place → List Place
from_left done [] = []
from_left done (q ∷ due) = if done q then from_left done due else q ∷ due

-- whether there is a first place, and it passes
abbrev pub passes_first : (Place → Bool) → List Place → Bool
passes_first done [] = false
passes_first done (q ∷ due) = done q

abbrev pub end_of_due : ℕ → List Place → ℕ
end_of_due merged [] = merged
end_of_due merged (q ∷ due) = q.epoch

-- the epochs don't fall, from a lower bound to an upper one
abbrev pub Climbs : ℕ → ℕ → List Place → Type 0
Climbs low high [] = low ≤ high
Climbs low high (q ∷ due) = (low ≤ q.epoch) × Climbs q.epoch high due

abbrev pub HasReserved : Progress → Type 0
HasReserved p = deque_len p.due + p.room ≤ deque_capacity p.due

module _ {Args Row : Type 0} where
  abbrev pub left : Scheduling Args Row → List Place → List Place
  left s due = filter (λ q. not (is_done s q)) due

  -- whether a place is done, or counts as done, by what is kept
  abbrev pub done_at : ℕ → FinMap {K = Place} place_cmp (Kept Args Row) → Place → Bool
  done_at opened kept q = is_before q (end_of opened) || turn_done (get (turns_of kept) q)

  pub record IsProgress (opened : ℕ) (last : Option Place) (turns : FinMap {K = Place} place_cmp (Turn Args Row)) (merged done : ℕ) (due : List Place) : Type 0 where
    -- an epoch is less than 2 ^ 64
    pub counted : merged ≤ 2 ^ 64
    -- nothing is admitted past the last place
    pub upto : (q : Place) (x : Turn Args Row) → get turns q ≡ Some x → is_past last q ≡ false
    -- what is done is of an epoch below the bound, and some of the one just below it
    pub below : (q : Place) (x : Turn Args Row) → get turns q ≡ Some x → is_finished x.phase ≡ true → q.epoch < done
    pub reached : 0 < done → (q : Place) × (x : Turn Args Row) × (get turns q ≡ Some x) × (is_finished x.phase ≡ true) × (q.epoch + 1 ≡ done)
    -- the first place isn't done, and the epochs don't fall
    pub first : passes_first (λ q. is_before q (end_of opened) || turn_done (get turns q)) due ≡ false
    pub climbs : Climbs 0 merged due

  -- the next epoch is merged and has these requests: those with a key here are due, as far as they aren't done, and the room
  -- that was reserved for them is taken
  abbrev pub merge : ℕ → Order Args → Scheduled Args Row → Deed (Scheduled Args Row) (Unit {0})
  merge epoch order s =
      if (epoch == s.merged) && list_all (λ e. e.0.epoch == epoch) order
      then Does (record s { merged = suc s.merged; due = s.due ++ left s.scheduling (local_places s.here order); due_room = 0 }) tt
      else Refuses fault.AdmittedOutOfOrder
