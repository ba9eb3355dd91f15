-- Whatever a replica proposes is its own batch, or one that was voted for: so what holds of own batches and of votes holds of all proposals.
use Rattle.std.proofs.Common.{◌≡◌, ℕ, ◌+◌, Bool, true, false, cond, List, [], ◌∷◌, ◌++◌, inl, inr, refl, sym, ap, ◌∙◌, subst, Option, Some, None}
use Rattle.std.specs.Prelude.{nat_lt, max}
use Rattle.std.specs.Ordering.{is_lt}
use Rattle.std.specs.List.{AllByRecursion}
use Rattle.std.specs.FinMap.{get, insert, remove}
use Rattle.std.proofs.lemmas.Option.{none-some, same_Some}
use Rattle.calvin_types.specs.declared.fault.Fault.TheVariants.{NotCurrent, Known, RoundsSpent}
use Rattle.calvin_types.specs.declared.place.Slot.{Slot}
use Rattle.calvin_types.specs.declared.place.Ballot.{Ballot}
use Rattle.calvin_types.specs.Places.{ballot_cmp}
use Rattle.calvin_types.proofs.SlotMaps.{same_slot_or_not, get_here, get_other, gone_here, gone_other}
use Rattle.calvin_synod.specs.declared.vote.Vote.{Vote}
use Rattle.calvin_synod.specs.declared.attempt.Report.{Report}
use Rattle.calvin_synod.specs.declared.attempt.Attempt.{Attempt}
use Rattle.calvin_synod.specs.declared.message.Message.{Message}
use Rattle.calvin_synod.specs.declared.message.Message.TheVariants.{Prepare, Promise, Accept, Refused, Accepted}
use Rattle.calvin_synod.specs.Roles.{higher, highest, batch_or, batch_of, current, with_report, is_enough, counting, sending, promise_at, bars_prepare, bars_accept, knows, completes, learned, next_ballot, started, refused_at}
use Rattle.calvin_synod.specs.Cases.{slot_of, Replica, Letters, Silent, ToAll, Deed, Refuses, Does, prepare, accept, promise, refused, accepted, handle, has_round, propose}
use Rattle.calvin_synod.proofs.Core.{Proposes}
use Rattle.calvin_synod.proofs.Cases.{Says, current_is}

module _ {B : Type 0} where
  -- each vote that is reported has a batch of the kind
  abbrev pub AreGood : (B → Type 0) → List (Report B) → Type 0
  AreGood Good reports = AllByRecursion (λ (r : Report B). (u : Vote B) → r.vote ≡ Some u → Good u.batch) reports

  good_push : (Good : B → Type 0) (reports : List (Report B)) (r : Report B) → AreGood Good reports → ((u : Vote B) → r.vote ≡ Some u → Good u.batch) → AreGood Good (reports ++ r ∷ [])
  good_push Good [] r all last = (last, tt)
  good_push Good (a ∷ rs) r all last = (all.0, good_push Good rs r all.1 last)

  highest_good : (Good : B → Type 0) (reports : List (Report B)) → AreGood Good reports → (u : Vote B) → highest reports ≡ Some u → Good u.batch
  highest_good Good [] all u e = absurd (none-some _ e)
  highest_good Good (r ∷ rs) all u e = go r.vote (highest rs) all.0 (highest_good Good rs all.1) u e
    where
      go : (v w : Option (Vote B)) → ((u : Vote B) → v ≡ Some u → Good u.batch) → ((u : Vote B) → w ≡ Some u → Good u.batch) → (u : Vote B) → higher v w ≡ Some u → Good u.batch
      go None w left right u e = right u e
      go (Some v) None left right u e = left u e
      go (Some v) (Some w) left right u e = pick (is_lt (ballot_cmp v.ballot w.ballot)) e
        where
          pick : (b : Bool) → cond b (Some w) (Some v) ≡ Some u → Good u.batch
          pick true e = right u e
          pick false e = left u e

  batch_good : (Good : B → Type 0) (own : B) (reports : List (Report B)) → Good own → AreGood Good reports → Good (batch_of own reports)
  batch_good Good own reports good all = go (highest reports) refl
    where
      go : (h : Option (Vote B)) → highest reports ≡ h → Good (batch_or own (highest reports))
      go None e = subst (λ h. Good (batch_or own h)) (sym e) good
      go (Some u) e = subst (λ h. Good (batch_or own h)) (sym e) (highest_good Good reports all u e)

  module _ (Good : Slot → B → Type 0) (me : ℕ) (x : Replica B) (own : (k : Slot) (t : Attempt B) → get x.proposer.attempts k ≡ Some t → Good k t.own) where
    abbrev Owns : Replica B → Type 0
    Owns s = (k : Slot) (t : Attempt B) → get s.proposer.attempts k ≡ Some t → Good k t.own

    abbrev Proposals : Letters B → Type 0
    Proposals letters = (k : Slot) (b : Ballot) (v : B) → Says me letters k (Proposes b v) → Good k v

    abbrev pub IsGoodDeed : Deed B → Type 0
    IsGoodDeed (Refuses f) = Unit {0}
    IsGoodDeed (Does s letters given) = Owns s × Proposals letters

    accept_is : {k slot : Slot} {b c : Ballot} {v w : B} → Accept k b v ≡ Accept slot c w → (k ≡ slot) × (v ≡ w)
    accept_is e = (cc, cc)

    prepare_good : (from : ℕ) (k : Slot) (ballot : Ballot) (bar : Option Ballot) → IsGoodDeed (prepare from x k ballot bar)
    prepare_good from k ballot None = (own, λ j b v says. cc)
    prepare_good from k ballot (Some p) = (own, λ j b v says. cc)

    accept_good : (from : ℕ) (k : Slot) (ballot : Ballot) (batch : B) (bar : Option Ballot) → IsGoodDeed (accept from x k ballot batch bar)
    accept_good from k ballot batch None = (own, λ j b v says. cc)
    accept_good from k ballot batch (Some p) = (own, λ j b v says. cc)

    refused_good : (p : Ballot) → IsGoodDeed (refused x p)
    refused_good p = go (nat_lt (max x.proposer.used x.proposer.seen) p.round)
      where
        go : (b : Bool) → IsGoodDeed (cond b (Does (record x { proposer = refused_at x.proposer p }) Silent None) (Refuses NotCurrent))
        go true = (own, λ j b v says. absurd says)
        go false = tt

    accepted_good : (size from : ℕ) (k : Slot) (ballot : Ballot) (batch : B) → IsGoodDeed (accepted size from x k ballot batch)
    accepted_good size from k ballot batch = go (knows x.learner from k ballot)
      where
        go : (b : Bool) → IsGoodDeed (cond b (Refuses Known) (Does (record x { learner = learned size x.learner from k ballot }) Silent (cond (completes size x.learner k ballot) (Some (k, batch)) None)))
        go true = tt
        go false = (own, λ j b v says. absurd says)

    inserted : (k : Slot) (t : Attempt B) → Good k t.own → (j : Slot) (u : Attempt B) → get (insert x.proposer.attempts k t) j ≡ Some u → Good j u.own
    inserted k t good j u e = elim (same_slot_or_not j k) [
      | inl same ↦ let is : t ≡ u = same_Some _ _ (sym (get_here x.proposer.attempts k t) ∙ ap (get (insert x.proposer.attempts k t)) (sym same) ∙ e) in subst (λ (z : Slot × Attempt B). Good z.0 z.1.own) (λ i. (sym same i, is i)) good
      | inr apart ↦ own j u (sym (get_other x.proposer.attempts k t j apart) ∙ e)
    ]

    removed : (k : Slot) (j : Slot) (u : Attempt B) → get (remove x.proposer.attempts k) j ≡ Some u → Good j u.own
    removed k j u e = elim (same_slot_or_not j k) [
      | inl same ↦ absurd (none-some _ (sym (gone_here x.proposer.attempts k) ∙ ap (get (remove x.proposer.attempts k)) (sym same) ∙ e))
      | inr apart ↦ own j u (sym (gone_other x.proposer.attempts k j apart) ∙ e)
    ]

    promise_good : (size from : ℕ) (k : Slot) (ballot : Ballot) (vote : Option (Vote B)) → ((u : Vote B) → vote ≡ Some u → Good k u.batch) → (attempt : Option (Attempt B)) → current x.proposer from k ballot ≡ attempt
        → ((t : Attempt B) → get x.proposer.attempts k ≡ Some t → AreGood (Good k) t.counted) → IsGoodDeed (promise size from x k ballot vote attempt)
    promise_good size from k ballot vote reported None e counted_good = tt
    promise_good size from k ballot vote reported (Some t) e counted_good = go (is_enough size t)
      where
        there : get x.proposer.attempts k ≡ Some t
        there = (current_is (get x.proposer.attempts k) from ballot t e).0

        go : (c : Bool) → IsGoodDeed (cond c (Does (record x { proposer = sending x.proposer k }) (ToAll (Accept k ballot (batch_of t.own (with_report t from vote)))) None) (Does (record x { proposer = counting x.proposer k t from vote }) Silent None))
        go false = (inserted k (record t { counted = with_report t from vote }) (own k t there), λ j b v says. absurd says)
        go true = (
          removed k,
          λ j b v says.
              let is = accept_is says in
              subst (λ (z : Slot × B). Good z.0 z.1) (λ i. (sym is.0 i, sym is.1 i))
              (batch_good (Good k) t.own (with_report t from vote) (own k t there) (good_push (Good k) t.counted (record { from = from; vote = vote }) (counted_good t there) reported)),
        )

    pub handle_good : (size from : ℕ) (m : Message B) → ((k : Slot) (b : Ballot) (u : Vote B) → m ≡ Promise k b (Some u) → Good k u.batch) → ((t : Attempt B) → get x.proposer.attempts (slot_of m) ≡ Some t → AreGood (Good (slot_of m)) t.counted) → IsGoodDeed (handle size from m x)
    handle_good size from (Prepare k b) heard counted = prepare_good from k b (bars_prepare (promise_at x.acceptor k) b)
    handle_good size from (Promise k b v) heard counted = promise_good size from k b v (λ u e. heard k b u (ap (Promise k b) e)) (current x.proposer from k b) refl counted
    handle_good size from (Accept k b v) heard counted = accept_good from k b v (bars_accept (promise_at x.acceptor k) b)
    handle_good size from (Refused k b p) heard counted = refused_good p
    handle_good size from (Accepted k b v) heard counted = accepted_good size from k b v

    pub propose_good : (k : Slot) (batch : B) → Good k batch → IsGoodDeed (propose me k batch x)
    propose_good k batch good = go (has_round x)
      where
        go : (b : Bool) → IsGoodDeed (cond b (Does (record x { proposer = started me x.proposer k batch }) (ToAll (Prepare k (next_ballot me x.proposer))) None) (Refuses RoundsSpent))
        go true = (inserted k (record { ballot = next_ballot me x.proposer; own = batch; counted = [] }) good, λ j b v says. cc)
        go false = tt
