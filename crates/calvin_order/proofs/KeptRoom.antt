-- What a refused call of a sequencer keeps.
use Rattle.std.proofs.Common.{◌≡◌, ◌≤◌, true, Result, Ok, Err, OnErr, ap, ◌∙◌, arith}
use Rattle.calvin_types.specs.declared.fault.Fault.{Fault}
use Rattle.calvin_order.specs.Keeping.{Sequenced, KeepsRoom}

module _ {Args : Type 0} where
  pub kept_all : (s : Sequenced Args) → KeepsRoom s s
  kept_all s = record { queue = omega arith; held = omega arith; closed = omega arith; decided = omega arith; ready = λ is. is }

  module _ (s t : Sequenced Args) where
    -- there may be more room in the queue
    pub kept_queue : t ≡ record s { queue_room = t.queue_room } → s.queue_room ≤ t.queue_room → KeepsRoom s t
    kept_queue same queue = record {
      queue = queue;
      held = (let is = ap (λ v. v.held_room) same in omega (arith, is));
      closed = (let is = ap (λ v. v.closed_room) same in omega (arith, is));
      decided = (let is = ap (λ v. v.decided_room) same in omega (arith, is));
      ready = λ is. ap (λ v. v.is_ready) same ∙ is;
    }

    -- and for what is held back
    pub kept_cold : t ≡ record s { queue_room = t.queue_room; held_room = t.held_room } → s.queue_room ≤ t.queue_room → s.held_room ≤ t.held_room → KeepsRoom s t
    kept_cold same queue held = record {
      queue = queue;
      held = held;
      closed = (let is = ap (λ v. v.closed_room) same in omega (arith, is));
      decided = (let is = ap (λ v. v.decided_room) same in omega (arith, is));
      ready = λ is. ap (λ v. v.is_ready) same ∙ is;
    }

    -- or for what is closed, with the batch made ready
    pub kept_closing : t ≡ record s { closed_room = t.closed_room; is_ready = t.is_ready } → s.closed_room ≤ t.closed_room → (s.is_ready ≡ true → t.is_ready ≡ true) → KeepsRoom s t
    kept_closing same closed ready = record {
      queue = (let is = ap (λ v. v.queue_room) same in omega (arith, is));
      held = (let is = ap (λ v. v.held_room) same in omega (arith, is));
      closed = closed;
      decided = (let is = ap (λ v. v.decided_room) same in omega (arith, is));
      ready = ready;
    }

    -- or for what is decided
    pub kept_decided : t ≡ record s { queue_room = t.queue_room; decided_room = t.decided_room } → s.queue_room ≤ t.queue_room → s.decided_room ≤ t.decided_room → KeepsRoom s t
    kept_decided same queue decided = record {
      queue = queue;
      held = (let is = ap (λ v. v.held_room) same in omega (arith, is));
      closed = (let is = ap (λ v. v.closed_room) same in omega (arith, is));
      decided = decided;
      ready = λ is. ap (λ v. v.is_ready) same ∙ is;
    }

-- what is so holds where a call is refused
pub where_refused : {T : Type 0} (r : Result T Fault) (P : Type 0) → P → OnErr r P
where_refused (Ok out) P is = tt
where_refused (Err fault) P is = is
