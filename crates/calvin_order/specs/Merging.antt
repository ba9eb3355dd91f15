-- What a merge holds (Thomson et al. 2012, section 3.1: a scheduler interleaves the batches of an epoch once it has them from
-- all sequencers).
--     Batches Args      the batches that are held, by their slots
--     Holding Args      these, and how many more are sure to find room
--     Merging Args      what the store is opened with, the epoch that is taken next, the batches held, and the memory reserved
--     batch_at held slot      the batch held for a slot, or the empty one
--     HoldsAll held e parts      each group below parts has a batch held for epoch e
--     held_by m      the assignment that m holds
--     IsComplete m      the next epoch can be taken: each group's batch is held
--     IsReady m      what is held for the next epoch fits the memory reserved
--     with_batch slot batch m      m with one more batch, unless the slot has one
--     without_epoch e g held      what is held besides the batches of epoch e of the groups below g
--     EpochsFit held      no batch is held for an epoch past 2^64 - 1
--     IsMerge held given      what is true of every merge: no epoch past the last is held, no request is kept back
use Rattle.std.specs.Prelude.{◌≡◌, ℕ, ◌-◌, ◌^◌, ◌<◌, ◌≤◌, ◌==◌, nat_lt, not, ◌&&◌, [], length, if◌then◌else◌, IsSome}
use Rattle.std.specs.Option.{unwrap_or}
use Rattle.std.specs.FinMap.{FinMap, get, contains_key, insert, retain_keys}
use Rattle.calvin_types.specs.declared.place.Slot.{Slot}
use Rattle.calvin_types.specs.Orders.{Order}
use Rattle.calvin_types.specs.Places.{slot_cmp}
use Rattle.calvin_order.specs.Configs.{Config}
use Rattle.calvin_order.specs.Merged.{Batch, Assignment, joined}

abbrev pub Batches : Type 0 → Type 0
Batches Args = FinMap slot_cmp (Batch Args)

pub record Holding (Args : Type 0) : Type 0 where
  pub batches : Batches Args
  pub room : ℕ

-- the merge of one node
pub record Merging (Args : Type 0) : Type 0 where
  -- how many groups there are, and which of their batches are woven
  pub config : Config
  -- the epoch that is taken next: 2^64 after the last
  pub next : ℕ
  pub held : Batches Args
  -- how many batches can be held without growing
  pub room : ℕ
  -- how many requests can be given without growing
  pub ready : ℕ

module _ {Args : Type 0} where
  abbrev pub batch_at : Batches Args → Assignment Args
  batch_at held slot = unwrap_or (get held slot) []

  abbrev pub HoldsAll : Batches Args → ℕ → ℕ → Type 0
  HoldsAll held e parts = (g : ℕ) → g < parts → IsSome (get held (record { epoch = e; group = g }))

  abbrev pub held_by : Merging Args → Assignment Args
  held_by m = batch_at m.held

  abbrev pub IsComplete : Merging Args → Type 0
  IsComplete m = HoldsAll m.held m.next m.config.partitions

  -- the requests held for the next epoch can be given without growing
  abbrev pub IsReady : Merging Args → Type 0
  IsReady m = length (joined (held_by m) m.next m.config.partitions) ≤ m.ready

  abbrev pub with_batch : Slot → Batch Args → Merging Args → Merging Args
  with_batch slot batch m = if contains_key m.held slot then m else record m { held = insert m.held slot batch; room = m.room - 1 }

  abbrev pub without_epoch : ℕ → ℕ → Batches Args → Batches Args
  without_epoch e g held = retain_keys held (λ slot. not (slot.epoch == e && nat_lt slot.group g))

  abbrev pub EpochsFit : Batches Args → Type 0
  EpochsFit held = (slot : Slot) → IsSome (get held slot) → slot.epoch < 2 ^ 64

  pub record IsMerge (held : Batches Args) (given : Order Args) : Type 0 where
    pub in_range : EpochsFit held
    pub none_kept : given ≡ []
