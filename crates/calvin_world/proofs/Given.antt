-- What a learner gave is held: what a synod's deed gives more is the batch that comes with it, and that is held.
use Rattle.std.proofs.Common.{◌≡◌, ◌≢◌, ℕ, Bool, true, false, cond, [], ◌∷◌, ◌++◌, ◌⊎◌, inl, inr, sym, ap, ◌∙◌, Option, Some, None}
use Rattle.std.specs.Prelude.{nat_lt, max, ◌+◌, ◌^◌}
use Rattle.std.specs.FinMap.{get, insert, remove}
use Rattle.calvin_node_acts.specs.Handling.{counted}
use Rattle.calvin_node_acts.specs.NodeStates.{NodeState, holding}
use Rattle.calvin_order.specs.Merged.{Batch}
use Rattle.calvin_synod.specs.Cases.{Replica, Silent, ToAll, Deed, Refuses, Does, prepare, accept, promise, handle, propose}
use Rattle.calvin_synod.specs.Roles.{promise_at, bars_prepare, bars_accept, batch_of, current, with_report, is_enough, counting, sending, refused_at, knows, completes, voters_of, next_ballot, started}
use Rattle.calvin_synod.specs.declared.attempt.Attempt.{Attempt}
use Rattle.calvin_synod.specs.declared.message.Message.{Message}
use Rattle.calvin_synod.specs.declared.message.Message.TheVariants.{Prepare, Promise, Accept, Refused, Accepted}
use Rattle.calvin_types.proofs.SlotMaps.{same_slot_or_not, get_here, get_other}
use Rattle.calvin_types.specs.declared.fault.Fault.TheVariants.{NotCurrent, Known, RoundsSpent}
use Rattle.calvin_types.specs.declared.place.Ballot.{Ballot}
use Rattle.calvin_types.specs.declared.place.Slot.{Slot}

some_not_none : {X : Type 0} {x : X} → Some x ≡ None → ⊥
some_not_none e = cc

module _ {B : Type 0} (x : Replica B) where
  -- what the learner gave after the deed it gave before, or with the deed
  abbrev pub GivesAll : Deed B → Type 0
  GivesAll (Refuses f) = Unit {0}
  GivesAll (Does next letters given) = (slot : Slot) → get next.learner.given slot ≢ None → (get x.learner.given slot ≢ None) ⊎ ((b : B) × (given ≡ Some (slot, b)))

  pub handle_gives_all : (size from : ℕ) (m : Message B) → GivesAll (handle size from m x)
  handle_gives_all size from (Prepare k ballot) = go (bars_prepare (promise_at x.acceptor k) ballot)
    where
      go : (bar : Option Ballot) → GivesAll (prepare from x k ballot bar)
      go None = λ slot g. inl g
      go (Some p) = λ slot g. inl g
  handle_gives_all size from (Promise k ballot vote) = go (current x.proposer from k ballot)
    where
      go : (attempt : Option (Attempt B)) → GivesAll (promise size from x k ballot vote attempt)
      go None = tt
      go (Some t) = at_test (is_enough size t)
        where
          at_test : (c : Bool) → GivesAll (cond c (Does (record x { proposer = sending x.proposer k }) (ToAll (Accept k ballot (batch_of t.own (with_report t from vote)))) None) (Does (record x { proposer = counting x.proposer k t from vote }) Silent None))
          at_test true = λ slot g. inl g
          at_test false = λ slot g. inl g
  handle_gives_all size from (Accept k ballot batch) = go (bars_accept (promise_at x.acceptor k) ballot)
    where
      go : (bar : Option Ballot) → GivesAll (accept from x k ballot batch bar)
      go None = λ slot g. inl g
      go (Some p) = λ slot g. inl g
  handle_gives_all size from (Refused k ballot p) = at_test (nat_lt (max x.proposer.used x.proposer.seen) p.round)
    where
      at_test : (c : Bool) → GivesAll (cond c (Does (record x { proposer = refused_at x.proposer p }) Silent None) (Refuses NotCurrent))
      at_test true = λ slot g. inl g
      at_test false = tt
  handle_gives_all size from (Accepted k ballot batch) = at_test (knows x.learner from k ballot) (completes size x.learner k ballot)
    where
      at_test : (c d : Bool) → GivesAll (cond c (Refuses Known) (Does (record x {
        learner = cond d (record { counted = remove x.learner.counted (record { slot = k; ballot = ballot }); given = insert x.learner.given k ballot })
            (record { counted = insert x.learner.counted (record { slot = k; ballot = ballot }) (voters_of x.learner k ballot ++ from ∷ []); given = x.learner.given });
      }) Silent (cond d (Some (k, batch)) None)))
      at_test true d = tt
      at_test false false = λ slot g. inl g
      at_test false true = λ slot g. elim (same_slot_or_not slot k) [
        | inl e ↦ inr (batch, λ i. Some (sym e i, batch))
        | inr apart ↦ inl (λ none. g (get_other x.learner.given k ballot slot apart ∙ none))
      ]

  pub propose_gives_all : (me : ℕ) (k : Slot) (batch : B) → GivesAll (propose me k batch x)
  propose_gives_all me k batch = at_test (nat_lt (max x.proposer.used x.proposer.seen + 1) (2 ^ 32))
    where
      at_test : (c : Bool) → GivesAll (cond c (Does (record x { proposer = started me x.proposer k batch }) (ToAll (Prepare k (next_ballot me x.proposer))) None) (Refuses RoundsSpent))
      at_test true = λ slot g. inl g
      at_test false = tt

module _ {Args Row : Type 0} where
  -- what is held stays held
  pub holding_grows : (y : NodeState Args Row) (slot : Slot) (batch : Batch Args) (k : Slot) → get y.held k ≢ None → get (holding y slot batch).held k ≢ None
  holding_grows y slot batch k some none = elim (same_slot_or_not k slot) [
    | inl e ↦ some_not_none (sym (ap (get (insert y.held slot batch)) e ∙ get_here y.held slot batch) ∙ none)
    | inr apart ↦ some (sym (get_other y.held slot batch k apart) ∙ none)
  ]

  pub counted_grows : (y : NodeState Args Row) (o : Option (Slot × Batch Args)) (k : Slot) → get y.held k ≢ None → get (counted y o).held k ≢ None
  counted_grows y None k some = some
  counted_grows y (Some g) k some = holding_grows y g.0 g.1 k some

  -- and what is given comes to be held
  pub given_held : (y : NodeState Args Row) (o : Option (Slot × Batch Args)) (k : Slot) (b : Batch Args) → o ≡ Some (k, b) → get (counted y o).held k ≢ None
  given_held y o k b e none = some_not_none (sym (ap (λ o. get (counted y o).held k) e ∙ get_here y.held k b) ∙ none)
