-- A learner gives the batch of the slot that the message is about.
use Rattle.std.proofs.Common.{◌≡◌, ℕ, Bool, true, false, cond, Option, Some, None, sym, ap}
use Rattle.std.specs.Prelude.{nat_lt, max}
use Rattle.std.proofs.lemmas.Option.{none-some, same_Some}
use Rattle.calvin_types.specs.declared.place.Ballot.{Ballot}
use Rattle.calvin_types.specs.declared.place.Slot.{Slot}
use Rattle.calvin_types.specs.declared.fault.Fault.TheVariants.{NotCurrent, Known}
use Rattle.calvin_synod.specs.declared.attempt.Attempt.{Attempt}
use Rattle.calvin_synod.specs.declared.message.Message.{Message}
use Rattle.calvin_synod.specs.declared.message.Message.TheVariants.{Prepare, Promise, Accept, Refused, Accepted}
use Rattle.calvin_synod.specs.Roles.{promise_at, bars_prepare, bars_accept, batch_of, current, with_report, is_enough, counting, sending, refused_at, knows, completes, learned}
use Rattle.calvin_synod.specs.Cases.{slot_of, Replica, Silent, ToAll, Refuses, Does, prepare, accept, promise, handle}
use Rattle.calvin_synod.proofs.Cases.{Gives}

module _ {B : Type 0} (size from : ℕ) where
  pub gives_slot : (m : Message B) (x : Replica B) (slot : Slot) (b : B) → Gives (handle size from m x) slot b → slot ≡ slot_of m
  gives_slot (Prepare k ballot) x slot b g = go (bars_prepare (promise_at x.acceptor k) ballot) g
    where
      go : (bar : Option Ballot) → Gives (prepare from x k ballot bar) slot b → slot ≡ k
      go None g = absurd (none-some _ g)
      go (Some p) g = absurd (none-some _ g)
  gives_slot (Promise k ballot vote) x slot b g = go (current x.proposer from k ballot) g
    where
      go : (attempt : Option (Attempt B)) → Gives (promise size from x k ballot vote attempt) slot b → slot ≡ k
      go None g = absurd g
      go (Some t) g = at_test (is_enough size t) g
        where
          at_test : (c : Bool) → Gives (cond c (Does (record x { proposer = sending x.proposer k }) (ToAll (Accept k ballot (batch_of t.own (with_report t from vote)))) None) (Does (record x { proposer = counting x.proposer k t from vote }) Silent None)) slot b → slot ≡ k
          at_test true g = absurd (none-some _ g)
          at_test false g = absurd (none-some _ g)
  gives_slot (Accept k ballot batch) x slot b g = go (bars_accept (promise_at x.acceptor k) ballot) g
    where
      go : (bar : Option Ballot) → Gives (accept from x k ballot batch bar) slot b → slot ≡ k
      go None g = absurd (none-some _ g)
      go (Some p) g = absurd (none-some _ g)
  gives_slot (Refused k ballot p) x slot b g = at_test (nat_lt (max x.proposer.used x.proposer.seen) p.round) g
    where
      at_test : (c : Bool) → Gives (cond c (Does (record x { proposer = refused_at x.proposer p }) Silent None) (Refuses NotCurrent)) slot b → slot ≡ k
      at_test true g = absurd (none-some _ g)
      at_test false g = absurd g
  gives_slot (Accepted k ballot batch) x slot b g = at_test (knows x.learner from k ballot) (completes size x.learner k ballot) g
    where
      at_test : (c d : Bool) → Gives (cond c (Refuses Known) (Does (record x { learner = learned size x.learner from k ballot }) Silent (cond d (Some (k, batch)) None))) slot b → slot ≡ k
      at_test true d g = absurd g
      at_test false false g = absurd (none-some _ g)
      at_test false true g = sym (ap (λ (p : Slot × B). p.0) (same_Some _ _ g))
