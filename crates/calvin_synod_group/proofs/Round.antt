-- One ballot of three replicas, of which one hears nothing, gives its batch.
use Rattle.std.proofs.Common.{◌≡◌, ℕ, ◌+◌, ◌||◌, cond, List, [], ◌∷◌, ◌++◌, length, inl, inr, ◌⊎◌, ⊎_elim, true≢false, refl, sym, ap, ◌∙◌, subst, arith, Option, Some, None}
use Rattle.std.specs.Prelude.{slice_get, nat_eq, nat_le, is_some}
use Rattle.std.specs.Option.{unwrap_or}
use Rattle.std.specs.List.{list_any}
use Rattle.std.specs.FinMap.{get, insert, remove, empty, get-empty}
use Rattle.calvin_types.specs.declared.place.Ballot.{Ballot}
use Rattle.calvin_types.specs.declared.place.Slot.{Slot}
use Rattle.calvin_types.specs.Places.{slot_cmp}
use Rattle.calvin_types.specs.declared.fault.Fault.TheVariants.{Known}
use Rattle.calvin_synod.specs.declared.vote.Vote.{Vote}
use Rattle.calvin_synod.specs.declared.vote.Recorded.{Recorded}
use Rattle.calvin_synod.specs.declared.attempt.Attempt.{Attempt}
use Rattle.calvin_synod.specs.declared.tallies.Proposal.{Proposal}
use Rattle.calvin_synod.specs.declared.message.Message.TheVariants.{Prepare, Promise, Accept, Accepted}
use Rattle.calvin_synod.specs.Quorums.{IsIn, IsMajority, majority}
use Rattle.calvin_synod.specs.Roles.{promise_in, vote_in, bars_prepare, bars_accept, if_counts, counting, sending, voted, proposal_cmp, voters_of}
use Rattle.calvin_synod.specs.Cases.{Replica, Silent, ToOne, ToAll, Deed, Refuses, Does, prepare, accept, promise, handle, propose, fresh}
use Rattle.calvin_types.proofs.SlotMaps.{get_here}
use Rattle.calvin_synod.proofs.Proposals.{voters_here}
use Rattle.calvin_synod.proofs.Majorities.{is_in_cases, distinct_one_more, distinct_none}
use Rattle.calvin_synod_group.specs.declared.packet.Packet.{Packet}
use Rattle.calvin_synod_group.specs.declared.event.GroupEvent.TheVariants.{Propose, Deliver}
use Rattle.calvin_synod_group.specs.declared.event.Outcome.TheVariants.{Done, Gave}
use Rattle.calvin_synod_group.specs.Groups.{GroupState, opening, carry_out, at_replica, deliver, Step, Leads, Cast, Chosen}

-- ---- each case, where nothing stands in its way

module _ {B : Type 0} (size : ℕ) (x : Replica B) (slot : Slot) (ballot : Ballot) where
  -- the first promise of a slot
  prepares : (from : ℕ) → get x.acceptor slot ≡ None → handle size from (Prepare slot ballot) x ≡ Does (record x { acceptor = insert x.acceptor slot (record { promise = ballot; vote = None }) }) (ToOne from (Promise slot ballot None)) None
  prepares from e =
      ap (λ r. prepare from x slot ballot (bars_prepare (promise_in r) ballot)) e
      ∙ ap (λ v. Does (record x { acceptor = insert x.acceptor slot (record { promise = ballot; vote = v }) }) (ToOne from (Promise slot ballot v)) None) (ap vote_in e)

  -- a promise, by what is under way
  promises : (from : ℕ) (t : Attempt B) → get x.proposer.attempts slot ≡ Some t → handle size from (Promise slot ballot None) x ≡ promise size from x slot ballot None (if_counts (Some t) from ballot)
  promises from t e = ap (λ a. promise size from x slot ballot None (if_counts a from ballot)) e

  -- an accept, by what is recorded
  accepts : (from : ℕ) (batch : B) (r : Recorded B) → get x.acceptor slot ≡ Some r → handle size from (Accept slot ballot batch) x ≡ accept from x slot ballot batch (bars_accept (Some r.promise) ballot)
  accepts from batch r e = ap (λ a. accept from x slot ballot batch (bars_accept (promise_in a) ballot)) e

  -- a vote, by what is given and counted
  abbrev counted_with : ℕ → B → Option Ballot → List ℕ → Deed B
  counted_with from batch given voters =
      cond (is_some given || list_any (nat_eq from) voters) (Refuses Known)
      (Does
      (record x {
        learner = cond (nat_le (majority size) (length voters + 1))
            (record { counted = remove x.learner.counted (record { slot = slot; ballot = ballot }); given = insert x.learner.given slot ballot })
            (record { counted = insert x.learner.counted (record { slot = slot; ballot = ballot }) (voters ++ from ∷ []); given = x.learner.given });
      })
      Silent (cond (nat_le (majority size) (length voters + 1)) (Some (slot, batch)) None))

  learns : (from : ℕ) (batch : B) (voters : List ℕ) → get x.learner.given slot ≡ None → voters_of x.learner slot ballot ≡ voters → handle size from (Accepted slot ballot batch) x ≡ counted_with from batch None voters
  learns from batch voters e f = λ i. counted_with from batch (e i) (f i)

-- ---- and its event

module _ {B : Type 0} (w : GroupState B) where
  proposed : (me : ℕ) (slot : Slot) (batch : B) (x : Replica B) (deed : Deed B) → slice_get w.replicas me ≡ Some x → propose me slot batch x ≡ deed → Step w (Propose me slot batch) (carry_out w me deed).0 (carry_out w me deed).1
  proposed me slot batch x deed e d = inl (sym (ap (at_replica w me (propose me slot batch)) e ∙ ap (carry_out w me) d))

  delivered : (number : ℕ) (p : Packet B) (x : Replica B) (deed : Deed B) → slice_get w.packets number ≡ Some p → slice_get w.replicas p.to ≡ Some x → handle (length w.replicas) p.from p.message x ≡ deed → Step w (Deliver number) (carry_out w p.to deed).0 (carry_out w p.to deed).1
  delivered number p x deed c e d = inl (sym (ap (deliver w) c ∙ ap (at_replica w p.to (handle (length w.replicas) p.from p.message)) e ∙ ap (carry_out w p.to) d))

-- ---- the round

module _ {B : Type 0} (slot : Slot) (batch : B) where
  abbrev ballot : Ballot
  ballot = record { round = 1; replica = 0 }

  abbrev proposal : Proposal
  proposal = record { slot = slot; ballot = ballot }

  abbrev attempt : Attempt B
  attempt = record { ballot = ballot; own = batch; counted = [] }

  abbrev attempt_counted : Attempt B
  attempt_counted = record { ballot = ballot; own = batch; counted = record { from = 0; vote = None } ∷ [] }

  abbrev promise_made : Recorded B
  promise_made = record { promise = ballot; vote = None }

  abbrev vote : Vote B
  vote = record { ballot = ballot; batch = batch }

  unpromised : get (fresh {B = B}).acceptor slot ≡ None
  unfolding fresh
  unpromised = get-empty slot_cmp slot

  ungiven : get (fresh {B = B}).learner.given slot ≡ None
  unfolding fresh
  ungiven = get-empty slot_cmp slot

  uncounted : voters_of (fresh {B = B}).learner slot ballot ≡ []
  unfolding fresh
  uncounted = ap (λ o. unwrap_or o []) (get-empty proposal_cmp proposal)

  -- replica 0, which proposes and learns, after each of its events
  abbrev first_1 : Replica B
  first_1 = record fresh { proposer = record { used = 1; seen = 0; attempts = insert empty slot attempt } }

  abbrev first_2 : Replica B
  first_2 = record first_1 { acceptor = insert first_1.acceptor slot promise_made }

  abbrev first_3 : Replica B
  first_3 = record first_2 { proposer = counting first_2.proposer slot attempt 0 None }

  abbrev first_4 : Replica B
  first_4 = record first_3 { proposer = sending first_3.proposer slot }

  abbrev first_5 : Replica B
  first_5 = record first_4 { acceptor = voted first_4.acceptor slot vote }

  abbrev first_6 : Replica B
  first_6 = record first_5 { learner = record { counted = insert first_5.learner.counted proposal (0 ∷ []); given = first_5.learner.given } }

  abbrev first_7 : Replica B
  first_7 = record first_6 { learner = record { counted = remove first_6.learner.counted proposal; given = insert first_6.learner.given slot ballot } }

  -- replica 1, which promises and votes
  abbrev second_1 : Replica B
  second_1 = record fresh { acceptor = insert fresh.acceptor slot promise_made }

  abbrev second_2 : Replica B
  second_2 = record second_1 { acceptor = voted second_1.acceptor slot vote }

  -- the group after each event
  abbrev after : GroupState B → ℕ → Deed B → GroupState B
  after w me deed = (carry_out w me deed).1

  abbrev group_0 : GroupState B
  group_0 = opening 3

  abbrev group_1 : GroupState B
  group_1 = after group_0 0 (Does first_1 (ToAll (Prepare slot ballot)) None)

  abbrev group_2 : GroupState B
  group_2 = after group_1 0 (Does first_2 (ToOne 0 (Promise slot ballot None)) None)

  abbrev group_3 : GroupState B
  group_3 = after group_2 1 (Does second_1 (ToOne 0 (Promise slot ballot None)) None)

  abbrev group_4 : GroupState B
  group_4 = after group_3 0 (Does first_3 Silent None)

  abbrev group_5 : GroupState B
  group_5 = after group_4 0 (Does first_4 (ToAll (Accept slot ballot batch)) None)

  abbrev group_6 : GroupState B
  group_6 = after group_5 0 (Does first_5 (ToAll (Accepted slot ballot batch)) None)

  abbrev group_7 : GroupState B
  group_7 = after group_6 1 (Does second_2 (ToAll (Accepted slot ballot batch)) None)

  abbrev group_8 : GroupState B
  group_8 = after group_7 0 (Does first_6 Silent None)

  abbrev group_9 : GroupState B
  group_9 = after group_8 0 (Does first_7 Silent (Some (slot, batch)))

  begins : propose 0 slot batch fresh ≡ Does first_1 (ToAll (Prepare slot ballot)) None
  unfolding fresh
  begins = refl

  event_1 : Step group_0 (Propose 0 slot batch) Done group_1
  event_1 = proposed group_0 0 slot batch fresh _ refl begins

  event_2 : Step group_1 (Deliver 0) Done group_2
  event_2 = delivered group_1 0 (record { from = 0; to = 0; message = Prepare slot ballot }) first_1 _ refl refl (prepares 3 first_1 slot ballot 0 unpromised)

  event_3 : Step group_2 (Deliver 1) Done group_3
  event_3 = delivered group_2 1 (record { from = 0; to = 1; message = Prepare slot ballot }) fresh _ refl refl (prepares 3 fresh slot ballot 0 unpromised)

  event_4 : Step group_3 (Deliver 3) Done group_4
  event_4 = delivered group_3 3 (record { from = 0; to = 0; message = Promise slot ballot None }) first_2 _ refl refl (promises 3 first_2 slot ballot 0 attempt (get_here empty slot attempt))

  event_5 : Step group_4 (Deliver 4) Done group_5
  event_5 = delivered group_4 4 (record { from = 1; to = 0; message = Promise slot ballot None }) first_3 _ refl refl (promises 3 first_3 slot ballot 1 attempt_counted (get_here first_2.proposer.attempts slot attempt_counted))

  event_6 : Step group_5 (Deliver 5) Done group_6
  event_6 = delivered group_5 5 (record { from = 0; to = 0; message = Accept slot ballot batch }) first_4 _ refl refl (accepts 3 first_4 slot ballot 0 batch promise_made (get_here first_1.acceptor slot promise_made))

  event_7 : Step group_6 (Deliver 6) Done group_7
  event_7 = delivered group_6 6 (record { from = 0; to = 1; message = Accept slot ballot batch }) second_1 _ refl refl (accepts 3 second_1 slot ballot 0 batch promise_made (get_here (fresh {B = B}).acceptor slot promise_made))

  event_8 : Step group_7 (Deliver 8) Done group_8
  event_8 = delivered group_7 8 (record { from = 0; to = 0; message = Accepted slot ballot batch }) first_5 _ refl refl (learns 3 first_5 slot ballot 0 batch [] ungiven uncounted)

  event_9 : Step group_8 (Deliver 11) (Gave slot batch) group_9
  event_9 = delivered group_8 11 (record { from = 1; to = 0; message = Accepted slot ballot batch }) first_6 _ refl refl (learns 3 first_6 slot ballot 1 batch (0 ∷ []) ungiven (voters_here first_5.learner.counted slot ballot (0 ∷ [])))

  -- ---- what it leads to

  abbrev voters : List ℕ
  voters = 0 ∷ 1 ∷ []

  first_or_second : (a : ℕ) → IsIn a voters → (a ≡ 0) ⊎ (a ≡ 1)
  first_or_second a i = ⊎_elim (λ (e : a ≡ 0). inl e) (λ (j : IsIn a (1 ∷ [])). ⊎_elim (λ (e : a ≡ 1). inr e) (λ (k : IsIn a []). absurd (true≢false (sym k))) (is_in_cases a 1 [] j)) (is_in_cases a 0 (1 ∷ []) i)

  two_of_three : IsMajority 3 voters
  two_of_three = record {
    distinct = distinct_one_more 0 (1 ∷ []) (λ i. true≢false (sym i)) (distinct_one_more 1 [] (λ i. true≢false (sym i)) distinct_none);
    within = λ a i. ⊎_elim (λ (e : a ≡ 0). omega (e, arith)) (λ (e : a ≡ 1). omega (e, arith)) (first_or_second a i);
    enough = omega arith;
  }

  voted_by : (a : ℕ) → IsIn a voters → Cast group_9 slot a ballot batch
  voted_by a i =
      ⊎_elim
      (λ (e : a ≡ 0). subst (λ r. Cast group_9 slot r ballot batch) (sym e) (0, (8, omega arith, refl)))
      (λ (e : a ≡ 1). subst (λ r. Cast group_9 slot r ballot batch) (sym e) (0, (11, omega arith, refl)))
      (first_or_second a i)

  pub round_chooses : (w : GroupState B) × Leads (opening 3) (Propose 0 slot batch ∷ Deliver 0 ∷ Deliver 1 ∷ Deliver 3 ∷ Deliver 4 ∷ Deliver 5 ∷ Deliver 6 ∷ Deliver 8 ∷ Deliver 11 ∷ []) (Done ∷ Done ∷ Done ∷ Done ∷ Done ∷ Done ∷ Done ∷ Done ∷ Gave slot batch ∷ []) w × Chosen w slot batch
  round_chooses = (group_9, (group_1, event_1, (group_2, event_2, (group_3, event_3, (group_4, event_4, (group_5, event_5, (group_6, event_6, (group_7, event_7, (group_8, event_8, (group_9, event_9, refl))))))))), (ballot, voters, two_of_three, voted_by))
