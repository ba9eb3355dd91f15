-- What a sequencer keeps, and what each call makes of it (Thomson et al. 2012, section 3.1: all requests that reach a
-- sequencer in one epoch are one batch; section 4: a request that may touch cold rows is held back, so that they can be warmed before it runs).
use Rattle.std.specs.Prelude.{ℕ, zero, suc, ◌+◌, Bool, ◌&&◌, ◌||◌, not, nat_eq, nat_le, nat_lt, if◌then◌else◌, List, [], ◌∷◌, ◌++◌, map, length, take, drop, Option, Some, None, is_some}
use Rattle.std.specs.List.{filter, list_any}
use Rattle.calvin_types.specs.declared.fault.Fault.TheVariants.{QueueFull, EmptySets, TooManyAttempts, EpochsSpent}
use Rattle.calvin_types.specs.declared.limits.TheConstants.{MOST_REQUESTS, MOST_UNDECIDED, MOST_EPOCHS}
use Rattle.calvin_types.specs.declared.txn.Txn.{Txn}
use Rattle.calvin_types.specs.Deeds.{Deed, Refuses, Does}
use Rattle.calvin_types.specs.Submitting.{has_key, is_attempt}
use Rattle.calvin_order.specs.Merged.{Batch}

-- a request that is held back, and how many closings it has seen
pub record HeldBack (Args : Type 0) : Type 0 where
  pub request : Txn Args
  pub closings : ℕ

-- the sequencer of one node
pub record Sequencing (Args : Type 0) : Type 0 where
  -- the first epoch since the last restart
  pub opening : ℕ
  pub queue : Batch Args
  -- the batches closed since then, each with its epoch, in the order of closing
  pub closed : List (ℕ × Batch Args)
  -- the epochs known as decided, in the order in which they were told
  pub decided : List ℕ
  -- the requests that are held back, in the order of submission
  pub held_back : List (HeldBack Args)

-- the least number, from the first one on, that doesn't pass, among so many, or the one after these
abbrev pub first_not : (ℕ → Bool) → ℕ → ℕ → ℕ
first_not passes first zero = first
first_not passes first (suc many) = if passes first then first_not passes (suc first) many else first

module _ {Args : Type 0} where
  -- nothing is queued, closed or decided
  abbrev pub sequencing_from : ℕ → Sequencing Args
  sequencing_from e = record { opening = e; queue = []; closed = []; decided = []; held_back = [] }

  -- the batch that was closed for an epoch, if one was
  abbrev pub closed_in : List (ℕ × Batch Args) → ℕ → Option (Batch Args)
  closed_in [] e = None
  closed_in (c ∷ cs) e = if nat_eq c.0 e then Some c.1 else closed_in cs e

  abbrev pub is_decided : Sequencing Args → ℕ → Bool
  is_decided s e = list_any (nat_eq e) s.decided

  -- the epoch was closed here, or is known as decided
  abbrev pub is_used : Sequencing Args → ℕ → Bool
  is_used s e = is_some (closed_in s.closed e) || is_decided s e

  -- the least epoch, from the first one on, that is neither: one of the first so many, since no more are closed or decided
  abbrev pub next_epoch : Sequencing Args → ℕ
  next_epoch s = first_not (is_used s) s.opening (length s.closed + length s.decided)

  -- how many requests of closed batches are undecided
  abbrev pub undecided : (ℕ → Bool) → List (ℕ × Batch Args) → ℕ
  undecided decided [] = 0
  undecided decided (c ∷ cs) = (if decided c.0 then 0 else length c.1) + undecided decided cs

  -- how many requests are queued, held back, or closed and undecided
  abbrev pub load : Sequencing Args → ℕ
  load s = length s.queue + length s.held_back + undecided (is_decided s) s.closed

  -- the same request and attempt
  abbrev pub same_attempt : Txn Args → Txn Args → Bool
  same_attempt t u = nat_eq t.id.client u.id.client && nat_eq t.id.number u.id.number && nat_eq t.attempt u.attempt

  -- the closed requests that aren't in the decided batch
  abbrev pub left_over : Option (Batch Args) → Batch Args → Batch Args
  left_over None batch = []
  left_over (Some closed) batch = filter (λ t. not (list_any (same_attempt t) batch)) closed

  -- ---- requests that are held back

  -- the requests that have seen so many closings
  abbrev pub ripe : ℕ → List (HeldBack Args) → Batch Args
  ripe delay hs = map (λ h. h.request) (filter (λ h. nat_le delay h.closings) hs)

  -- those that haven't
  abbrev pub unripe : ℕ → List (HeldBack Args) → List (HeldBack Args)
  unripe delay hs = filter (λ h. not (nat_le delay h.closings)) hs

  -- what has seen enough closings joins the queue's end
  abbrev pub ripened : ℕ → Sequencing Args → Sequencing Args
  ripened delay s = record s { queue = s.queue ++ ripe delay s.held_back; held_back = unripe delay s.held_back }

  -- each has seen one closing more
  abbrev pub ticked : Sequencing Args → Sequencing Args
  ticked s = record s { held_back = map (λ (h : HeldBack Args). record h { closings = suc h.closings }) s.held_back }

  -- a request is held back
  abbrev pub delayed : Txn Args → Sequencing Args → Sequencing Args
  delayed t s = record s { held_back = s.held_back ++ record { request = t; closings = 0 } ∷ [] }

  -- ---- the calls

  -- where a request is taken, this becomes of the sequencer
  abbrev pub submit_to : Txn Args → Sequencing Args → Sequencing Args → Deed (Sequencing Args) (Unit {0})
  submit_to t s next =
      if nat_lt (load s) MOST_UNDECIDED
      then (if has_key t.sets then (if is_attempt t.attempt then Does next tt else Refuses TooManyAttempts) else Refuses EmptySets)
      else Refuses QueueFull

  -- a request joins the queue's end
  abbrev pub submit : Txn Args → Sequencing Args → Deed (Sequencing Args) (Unit {0})
  submit t s = submit_to t s (record s { queue = s.queue ++ t ∷ [] })

  -- or does so after so many closings
  abbrev pub submit_cold : ℕ → Txn Args → Sequencing Args → Deed (Sequencing Args) (Unit {0})
  submit_cold delay t s = submit_to t s (ripened delay (delayed t s))

  -- as many requests from the queue's front as a batch has are the batch of the next epoch
  abbrev pub closing : Sequencing Args → Sequencing Args
  closing s = record s { queue = drop MOST_REQUESTS s.queue; closed = s.closed ++ (next_epoch s, take MOST_REQUESTS s.queue) ∷ [] }

  -- the next batch is closed, and its epoch told
  abbrev pub close : ℕ → Sequencing Args → Deed (Sequencing Args) ℕ
  close delay s = if nat_lt (next_epoch s) MOST_EPOCHS then Does (ripened delay (ticked (closing s))) (next_epoch s) else Refuses EpochsSpent

  -- the batch of an epoch is decided: closed requests that aren't in it stand at the queue's front again
  abbrev pub decide : ℕ → Batch Args → Sequencing Args → Sequencing Args
  decide e batch s =
      if is_decided s e then s
      else record s { queue = left_over (closed_in s.closed e) batch ++ s.queue; decided = s.decided ++ e ∷ [] }
