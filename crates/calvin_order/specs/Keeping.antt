-- What a sequencer in code keeps: its data, and for what it needs no more memory.
--     history_of opening closed decided      the data without requests that wait
--     closed_len closed e      how many requests the batch closed for an epoch has
--     History Args      these, and how many more epochs can be closed or decided without growing
--     held_of closings held      the requests held back, once so many batches were closed
--     InTurn low high held      they were submitted one after another, when so many to so many batches had been closed
--     sequencing_of history queue held      the data with the requests that wait or are held back
--     Sequenced Args      these, after how many closings those held back join, for what there is room, and whether the next batch is ready
--     IsSequenced history queue held ready      what is true of every sequencer
--     can_submit s      a request's submission needs no memory
--     can_submit_cold s      nor does that of one that is held back
--     can_close s      closing needs no memory
--     can_decide s e      being told that an epoch is decided needs no memory
--     KeepsRoom before after      what needed no memory needs none still: there is no less room, and a batch that was ready is ready
--     deed_of answer next      a test's answer as a deed
--     IsHistory next undecided s      the next epoch, and how many requests of closed batches are undecided, as they are kept
use Rattle.std.specs.Prelude.{◌≡◌, ℕ, ◌-◌, ◌<◌, ◌≤◌, ◌^◌, Bool, true, ◌&&◌, ◌||◌, List, [], ◌∷◌, nat_eq, nat_le, nat_lt, map, length, take, Option, Some, Result, Ok, Err, IsSome}
use Rattle.std.specs.List.{IsDistinct}
use Rattle.std.specs.Option.{unwrap_or}
use Rattle.calvin_types.specs.declared.fault.Fault.{Fault}
use Rattle.calvin_types.specs.declared.limits.TheConstants.{MOST_REQUESTS, MOST_UNDECIDED}
use Rattle.calvin_types.specs.Deeds.{Deed, Refuses, Does}
use Rattle.calvin_order.specs.declared.held_back.ColdRequest.{ColdRequest}
use Rattle.calvin_order.specs.Merged.{Batch}
use Rattle.calvin_order.specs.Sequencing.{HeldBack, Sequencing, closed_in, is_decided, next_epoch, undecided, load}

module _ {Args : Type 0} where
  abbrev pub history_of : ℕ → List (ℕ × Batch Args) → List ℕ → Sequencing Args
  history_of opening closed decided = record { opening = opening; queue = []; closed = closed; decided = decided; held_back = [] }

  abbrev pub closed_len : List (ℕ × Batch Args) → ℕ → ℕ
  closed_len closed e = length (unwrap_or (closed_in closed e) [])

pub record History (Args : Type 0) : Type 0 where
  pub state : Sequencing Args
  pub closed_room : ℕ
  pub decided_room : ℕ

pub record IsHistory {Args : Type 0} (next count : ℕ) (s : Sequencing Args) : Type 0 where
  pub next_kept : next ≡ next_epoch s
  pub opens : s.opening ≤ 2 ^ 64
  -- each closed epoch has one batch
  pub once : IsDistinct nat_eq (map (λ c. c.0) s.closed)
  -- no later epoch is closed
  pub closed_before : (e : ℕ) → IsSome (closed_in s.closed e) → e < next
  pub decided_fit : (e : ℕ) → is_decided s e ≡ true → e < 2 ^ 64
  pub counted : count ≡ undecided (is_decided s) s.closed

module _ {Args : Type 0} where
  abbrev pub held_of : ℕ → List (ColdRequest Args) → List (HeldBack Args)
  held_of closings held = map (λ h. record { request = h.txn; closings = closings - h.since }) held

  abbrev pub InTurn : ℕ → ℕ → List (ColdRequest Args) → Type 0
  InTurn low high [] = low ≤ high
  InTurn low high (h ∷ hs) = (low ≤ h.since) × InTurn h.since high hs

  abbrev pub sequencing_of : Sequencing Args → Batch Args → List (ColdRequest Args) → Sequencing Args
  sequencing_of history queue held = record { opening = history.opening; queue = queue; closed = history.closed; decided = history.decided; held_back = held_of (length history.closed) held }

pub record Sequenced (Args : Type 0) : Type 0 where
  pub sequencing : Sequencing Args
  -- after how many closings a request that is held back joins the queue
  pub delay : ℕ
  -- how many requests can join the queue without growing, beside those held back, which have room there
  pub queue_room : ℕ
  -- how many more can be held back
  pub held_room : ℕ
  pub closed_room : ℕ
  pub decided_room : ℕ
  pub is_ready : Bool

module _ {Args : Type 0} where
  pub record IsSequenced (history : Sequencing Args) (queue : Batch Args) (held : List (ColdRequest Args)) (ready : Option (Batch Args)) : Type 0 where
    pub few : load (sequencing_of history queue held) ≤ MOST_UNDECIDED
    pub made : (batch : Batch Args) → ready ≡ Some batch → batch ≡ take MOST_REQUESTS queue
    pub in_turn : InTurn 0 (length history.closed) held

  abbrev pub can_submit : Sequenced Args → Bool
  can_submit s = nat_lt 0 s.queue_room

  abbrev pub can_submit_cold : Sequenced Args → Bool
  can_submit_cold s = nat_lt 0 s.queue_room && nat_lt 0 s.held_room

  abbrev pub can_close : Sequenced Args → Bool
  can_close s = nat_lt 0 s.closed_room && s.is_ready

  abbrev pub can_decide : Sequenced Args → ℕ → Bool
  can_decide s e = is_decided s.sequencing e || (nat_lt 0 s.decided_room && nat_le (closed_len s.sequencing.closed e) s.queue_room)

pub record KeepsRoom {Args : Type 0} (before after : Sequenced Args) : Type 0 where
  pub queue : before.queue_room ≤ after.queue_room
  pub held : before.held_room ≤ after.held_room
  pub closed : before.closed_room ≤ after.closed_room
  pub decided : before.decided_room ≤ after.decided_room
  pub ready : before.is_ready ≡ true → after.is_ready ≡ true

abbrev pub deed_of : {S Out : Type 0} → Result Out Fault → S → Deed S Out
deed_of (Ok out) next = Does next out
deed_of (Err fault) next = Refuses fault
