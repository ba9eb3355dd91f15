-- Every case of the synod is right at every slot, in whatever world it happens.
use Rattle.std.proofs.Common.{◌≡◌, ◌≢◌, ℕ, ◌+◌, ◌<◌, ◌≤◌, Bool, true, false, true≢false, cond, [], ◌∷◌, ◌++◌, ◌⊎◌, inl, ⊎_elim, refl, sym, ap, ◌∙◌, subst, arith, Option, Some, None, List}
use Rattle.std.specs.Prelude.{nat_eq, nat_lt, max, is_some}
use Rattle.std.specs.Option.{unwrap_or}
use Rattle.std.specs.List.{list_any, IsDistinct}
use Rattle.std.specs.FinMap.{get, insert, remove, empty, get-empty}
use Rattle.std.proofs.lemmas.Bool.{or_parts}
use Rattle.std.proofs.lemmas.Option.{none-some, same_Some}
use Rattle.calvin_types.specs.declared.place.Ballot.{Ballot}
use Rattle.calvin_types.specs.declared.place.Slot.{Slot}
use Rattle.calvin_types.specs.Places.{slot_cmp}
use Rattle.calvin_types.specs.declared.fault.Fault.TheVariants.{NotCurrent, Known, RoundsSpent}
use Rattle.calvin_synod.specs.declared.vote.Vote.{Vote}
use Rattle.calvin_synod.specs.declared.vote.Recorded.{Recorded}
use Rattle.calvin_synod.specs.declared.message.Message.{Message}
use Rattle.calvin_synod.specs.declared.message.Message.TheVariants.{Prepare, Promise, Accept, Refused, Accepted}
use Rattle.calvin_synod.specs.Quorums.{IsIn, IsChosen}
use Rattle.calvin_synod.specs.declared.attempt.Attempt.{Attempt}
use Rattle.calvin_synod.specs.Roles.{promise_in, vote_in, promise_at, vote_at, bars_prepare, bars_accept, promised, voted, batch_of, counts, if_counts, current, with_report, is_enough, counting, sending, next_ballot, started, refused_at, proposal_cmp, Learning, voters_of, knows, completes, learned}
use Rattle.calvin_synod.specs.Cases.{slot_of, Replica, Letters, Silent, ToOne, ToAll, Deed, Refuses, Does, prepare, accept, counted, promise, refused, accepted, handle, has_round, propose, restart, fresh}
use Rattle.calvin_types.proofs.SlotMaps.{same_slot_or_not, get_here, get_other, gone_here, gone_other}
use Rattle.calvin_synod.proofs.Proposals.{voters_here, voters_other, no_voters_here, no_voters_other}
use Rattle.calvin_synod.proofs.Core.{Said, Reports, Proposes, Votes, Sound, sound_at_first}
use Rattle.calvin_synod.proofs.Majorities.{distinct_none}
use Rattle.calvin_synod.proofs.Replicas.{Seat, Learned, Holds, HoldsAt, holds_at, AcceptorMoves, ProposerMoves, LearnerMoves, moves_keep}
use Rattle.calvin_synod.proofs.Roles.{countable, accepts_still, accepts_prepare, accepts_vote, proposing_still, proposing_start, proposing_count, proposing_send, learning_still, learning_nothing, learning_fewer, learning_vote, vote_chooses}

-- what a replica shows of a slot
abbrev pub seat_of : {B : Type 0} → Replica B → Slot → Seat B
seat_of x slot = record {
  promise = promise_at x.acceptor slot;
  vote = vote_at x.acceptor slot;
  used = x.proposer.used;
  attempt = get x.proposer.attempts slot;
  voters = voters_of x.learner slot;
}

-- what a message of me says of a slot, and what letters say
abbrev pub Tells : {B : Type 0} → ℕ → Message B → Slot → Said B → Type 0
Tells me m slot (Reports a b r) = (a ≡ me) × (Promise slot b r ≡ m)
Tells me m slot (Proposes b x) = Accept slot b x ≡ m
Tells me m slot (Votes a b x) = (a ≡ me) × (Accepted slot b x ≡ m)

abbrev pub Says : {B : Type 0} → ℕ → Letters B → Slot → Said B → Type 0
Says me Silent slot x = ⊥
Says me (ToOne to m) slot x = Tells me m slot x
Says me (ToAll m) slot x = Tells me m slot x

-- nothing that bears on agreement is said
abbrev Mute : {B : Type 0} → (Said B → Type 0) → Type 0
Mute {B} New = (x : Said B) → New x → ⊥

mute_elsewhere : {B : Type 0} (me : ℕ) (m : Message B) (slot : Slot) → slot ≢ slot_of m → Mute (Tells me m slot)
mute_elsewhere me m slot apart (Reports a b r) t = apart (ap slot_of t.1)
mute_elsewhere me m slot apart (Proposes b y) t = apart (ap slot_of t)
mute_elsewhere me m slot apart (Votes a b y) t = apart (ap slot_of t.1)

mute_prepare : {B : Type 0} (me : ℕ) (s : Slot) (b : Ballot) (slot : Slot) → Mute (Tells {B = B} me (Prepare s b) slot)
mute_prepare me s b slot (Reports a c r) t = let e = t.1 in cc
mute_prepare me s b slot (Proposes c y) t = cc
mute_prepare me s b slot (Votes a c y) t = let e = t.1 in cc

mute_refused : {B : Type 0} (me : ℕ) (s : Slot) (b p : Ballot) (slot : Slot) → Mute (Tells {B = B} me (Refused s b p) slot)
mute_refused me s b p slot (Reports a c r) t = let e = t.1 in cc
mute_refused me s b p slot (Proposes c y) t = cc
mute_refused me s b p slot (Votes a c y) t = let e = t.1 in cc

-- a fresh learner has counted nobody's vote
nobody_counted : (slot : Slot) (b : Ballot) → unwrap_or (get (empty {X = List ℕ} {R = proposal_cmp}) (record { slot = slot; ballot = b })) [] ≡ []
nobody_counted slot b = ap (λ o. unwrap_or o []) (get-empty proposal_cmp (record { slot = slot; ballot = b }))

-- the attempt for which a promise counts is the one under way
pub current_is : {B : Type 0} (attempt : Option (Attempt B)) (from : ℕ) (ballot : Ballot) (t : Attempt B) → if_counts attempt from ballot ≡ Some t → (attempt ≡ Some t) × (counts t from ballot ≡ true)
current_is None from ballot t e = absurd (none-some _ e)
current_is {B} (Some u) from ballot t e = at_test (counts u from ballot) refl e
  where
    at_test : (b : Bool) → counts u from ballot ≡ b → cond b (Some u) None ≡ Some t → (Some u ≡ Some t) × (counts t from ballot ≡ true)
    at_test true c e = (e, subst (λ (v : Attempt B). counts v from ballot ≡ true) (same_Some _ _ e) c)
    at_test false c e = absurd (none-some _ e)

-- what a step of me, with what it says, owes at a slot
abbrev pub Rightly : {B : Type 0} → ℕ → (Said B → Type 0) → Slot → ℕ → Replica B → Replica B → (Said B → Type 0) → Type 0
Rightly size Sent slot me mine next New =
    AcceptorMoves Sent New me (seat_of mine slot) (seat_of next slot)
    × ProposerMoves size Sent New me (seat_of mine slot) (seat_of next slot)
    × LearnerMoves Sent (seat_of next slot)

abbrev pub RightDeed : {B : Type 0} → ℕ → (Said B → Type 0) → Slot → ℕ → Replica B → Deed B → Type 0
RightDeed size Sent slot me mine (Refuses f) = Unit {0}
RightDeed size Sent slot me mine (Does next letters given) = Rightly size Sent slot me mine next (Says me letters slot)

module _ {B : Type 0} {size : ℕ} {Sent : Said B → Type 0} {promises : ℕ → Option Ballot} {votes : ℕ → Option (Vote B)} (sound : Sound size Sent promises votes) (slot : Slot) (me : ℕ) (mine : Replica B) (h : HoldsAt size Sent me (seat_of mine slot)) where
  -- a step after which the seat is what it was, but for the rounds, and that says nothing
  quiet : (next : Replica B) (New : Said B → Type 0) → Mute New → promise_at next.acceptor slot ≡ promise_at mine.acceptor slot → vote_at next.acceptor slot ≡ vote_at mine.acceptor slot → mine.proposer.used ≤ next.proposer.used → get next.proposer.attempts slot ≡ get mine.proposer.attempts slot
      → ((b : Ballot) → voters_of next.learner slot b ≡ voters_of mine.learner slot b) → Rightly size Sent slot me mine next New
  quiet next New mute e f used a l = (
    accepts_still Sent New me _ _ e f (λ x b r n. mute (Reports x b r) n) (λ x b v n. mute (Votes x b v) n),
    proposing_still sound New me _ _ h used (λ t k. sym a ∙ k) (λ b x n. mute (Proposes b x) n),
    learning_still sound New me (seat_of mine slot) (seat_of next slot) h l,
  )

  -- by whether the case is at this slot
  at_slot : (P : Slot → Type 0) (k : Slot) → P slot → (slot ≢ k → P k) → P k
  at_slot P k here elsewhere = ⊎_elim (λ (e : slot ≡ k). subst P e here) (λ (apart : slot ≢ k). elsewhere apart) (same_slot_or_not slot k)

  prepare_right : (from : ℕ) (k : Slot) (ballot : Ballot) (bar : Option Ballot) → bars_prepare (promise_at mine.acceptor k) ballot ≡ bar → RightDeed size Sent slot me mine (prepare from mine k ballot bar)
  prepare_right from k ballot (Some p) e = quiet mine _ (mute_refused me k ballot p slot) refl refl (omega arith) refl (λ b. refl)
  prepare_right from k ballot None e =
      at_slot (λ k. bars_prepare (promise_at mine.acceptor k) ballot ≡ None → RightDeed size Sent slot me mine (prepare from mine k ballot None)) k
      (λ e.
      let kept : Recorded B = record { promise = ballot; vote = vote_at mine.acceptor slot } in (
        accepts_prepare Sent _ me _ _ ballot e (ap promise_in (get_here mine.acceptor slot kept)) (ap vote_in (get_here mine.acceptor slot kept)) (λ a b r n. let f = n.1 in (n.0, cc, cc)) (λ a b x n. let f = n.1 in cc),
        proposing_still sound _ me _ _ h (omega arith) (λ t k. k) (λ b x n. cc),
        learning_still sound (Says me (ToOne from (Promise slot ballot (vote_at mine.acceptor slot))) slot) me (seat_of mine slot) (seat_of (record mine { acceptor = promised mine.acceptor slot ballot }) slot) h (λ b. refl),
      ))
      (λ apart e.
      let kept : Recorded B = record { promise = ballot; vote = vote_at mine.acceptor k } in
      quiet (record mine { acceptor = promised mine.acceptor k ballot }) _ (mute_elsewhere me (Promise k ballot (vote_at mine.acceptor k)) slot apart) (ap promise_in (get_other mine.acceptor k kept slot apart)) (ap vote_in (get_other mine.acceptor k kept slot apart)) (omega arith) refl (λ b. refl))
      e

  accept_right : (from : ℕ) (k : Slot) (ballot : Ballot) (batch : B) → (slot ≡ k → Sent (Proposes ballot batch)) → (bar : Option Ballot) → bars_accept (promise_at mine.acceptor k) ballot ≡ bar → RightDeed size Sent slot me mine (accept from mine k ballot batch bar)
  accept_right from k ballot batch heard (Some p) e = quiet mine _ (mute_refused me k ballot p slot) refl refl (omega arith) refl (λ b. refl)
  accept_right from k ballot batch heard None e =
      let vote : Vote B = record { ballot = ballot; batch = batch } in
      let kept : Recorded B = record { promise = ballot; vote = Some vote } in
      at_slot (λ k. (slot ≡ k → Sent (Proposes ballot batch)) → bars_accept (promise_at mine.acceptor k) ballot ≡ None → RightDeed size Sent slot me mine (accept from mine k ballot batch None)) k
      (λ heard e. (
        accepts_vote Sent _ me _ _ vote e (heard refl) (ap promise_in (get_here mine.acceptor slot kept)) (ap vote_in (get_here mine.acceptor slot kept)) (λ a b r n. let f = n.1 in cc) (λ a b x n. let f = n.1 in (n.0, cc, cc)) (refl, refl),
        proposing_still sound _ me _ _ h (omega arith) (λ t k. k) (λ b x n. cc),
        learning_still sound (Says me (ToAll (Accepted slot ballot batch)) slot) me (seat_of mine slot) (seat_of (record mine { acceptor = voted mine.acceptor slot vote }) slot) h (λ b. refl),
      ))
      (λ apart heard e. quiet (record mine { acceptor = voted mine.acceptor k vote }) _ (mute_elsewhere me (Accepted k ballot batch) slot apart) (ap promise_in (get_other mine.acceptor k kept slot apart)) (ap vote_in (get_other mine.acceptor k kept slot apart)) (omega arith) refl (λ b. refl))
      heard e

  -- a promise that counts, at this slot
  count_here : (t : Attempt B) (from : ℕ) (ballot : Ballot) (vote : Option (Vote B)) → get mine.proposer.attempts slot ≡ Some t → t.ballot ≡ ballot → counts t from t.ballot ≡ true → Sent (Reports from t.ballot vote) → (b : Bool) → is_enough size t ≡ b
      → RightDeed size Sent slot me mine (cond b (Does (record mine { proposer = sending mine.proposer slot }) (ToAll (Accept slot ballot (batch_of t.own (with_report t from vote)))) None) (Does (record mine { proposer = counting mine.proposer slot t from vote }) Silent None))
  count_here t from ballot vote at same ok sent true e = (
    accepts_still Sent _ me _ _ refl refl (λ a b r n. let f = n.1 in cc) (λ a b x n. let f = n.1 in cc),
    proposing_send sound _ me _ _ h t (record { from = from; vote = vote }) at ok sent e refl (gone_here mine.proposer.attempts slot) (λ b x n. (cc, cc)),
    learning_still sound (Says me (ToAll (Accept slot ballot (batch_of t.own (with_report t from vote)))) slot) me (seat_of mine slot) (seat_of (record mine { proposer = sending mine.proposer slot }) slot) h (λ b. refl),
  )
  count_here t from ballot vote at same ok sent false e = (
    accepts_still Sent _ me _ _ refl refl (λ a b r n. n) (λ a b x n. n),
    proposing_count sound _ me _ _ h t (record { from = from; vote = vote }) at ok sent refl (get_here mine.proposer.attempts slot (record t { counted = with_report t from vote })) (λ b x n. n),
    learning_still sound (Says me Silent slot) me (seat_of mine slot) (seat_of (record mine { proposer = counting mine.proposer slot t from vote }) slot) h (λ b. refl),
  )

  -- and elsewhere
  count_elsewhere : (k : Slot) → slot ≢ k → (t : Attempt B) (from : ℕ) (ballot : Ballot) (vote : Option (Vote B)) (b : Bool)
      → RightDeed size Sent slot me mine (cond b (Does (record mine { proposer = sending mine.proposer k }) (ToAll (Accept k ballot (batch_of t.own (with_report t from vote)))) None) (Does (record mine { proposer = counting mine.proposer k t from vote }) Silent None))
  count_elsewhere k apart t from ballot vote true =
      quiet (record mine { proposer = sending mine.proposer k }) _ (mute_elsewhere me (Accept k ballot (batch_of t.own (with_report t from vote))) slot apart) refl refl (omega arith) (gone_other mine.proposer.attempts k slot apart) (λ b. refl)
  count_elsewhere k apart t from ballot vote false =
      quiet (record mine { proposer = counting mine.proposer k t from vote }) _ (λ x n. n) refl refl (omega arith) (get_other mine.proposer.attempts k (record t { counted = with_report t from vote }) slot apart) (λ b. refl)

  promise_right : (from : ℕ) (k : Slot) (ballot : Ballot) (vote : Option (Vote B)) → (slot ≡ k → Sent (Reports from ballot vote)) → (attempt : Option (Attempt B)) → current mine.proposer from k ballot ≡ attempt → RightDeed size Sent slot me mine (promise size from mine k ballot vote attempt)
  promise_right from k ballot vote heard None e = tt
  promise_right from k ballot vote heard (Some t) e =
      let under_way = current_is (get mine.proposer.attempts k) from ballot t e in
      let same = (countable t from ballot under_way.1).same in
      at_slot (λ k. (slot ≡ k → Sent (Reports from ballot vote)) → get mine.proposer.attempts k ≡ Some t → RightDeed size Sent slot me mine (counted size from mine k ballot vote t)) k
      (λ heard e. count_here t from ballot vote e same (subst (λ b. counts t from b ≡ true) (sym same) under_way.1) (subst (λ b. Sent (Reports from b vote)) (sym same) (heard refl)) (is_enough size t) refl)
      (λ apart heard e. count_elsewhere k apart t from ballot vote (is_enough size t))
      heard under_way.0

  refused_right : (p : Ballot) → RightDeed size Sent slot me mine (refused mine p)
  refused_right p = at_test (nat_lt (max mine.proposer.used mine.proposer.seen) p.round)
    where
      at_test : (b : Bool) → RightDeed size Sent slot me mine (cond b (Does (record mine { proposer = refused_at mine.proposer p }) Silent None) (Refuses NotCurrent))
      at_test false = tt
      at_test true = quiet (record mine { proposer = refused_at mine.proposer p }) _ (λ x n. n) refl refl (omega arith) refl (λ b. refl)

  -- a vote that counts, at this slot
  learned_here : (from : ℕ) (ballot : Ballot) (batch : B) → Sent (Votes from ballot batch) → list_any (nat_eq from) (voters_of mine.learner slot ballot) ≡ false → (c : Bool) → completes size mine.learner slot ballot ≡ c → (next : Learning)
      → next ≡ cond c (record { counted = remove mine.learner.counted (record { slot = slot; ballot = ballot }); given = insert mine.learner.given slot ballot }) (record { counted = insert mine.learner.counted (record { slot = slot; ballot = ballot }) (voters_of mine.learner slot ballot ++ from ∷ []); given = mine.learner.given })
      → LearnerMoves Sent (seat_of (record mine { learner = next }) slot)
  learned_here from ballot batch sent out true c next is = subst (λ (l : Learning). LearnerMoves Sent (seat_of (record mine { learner = l }) slot)) (sym is)
      (learning_fewer sound (Says {B = B} me Silent slot) me (seat_of mine slot) (seat_of (record mine { learner = record { counted = remove mine.learner.counted (record { slot = slot; ballot = ballot }); given = insert mine.learner.given slot ballot } }) slot) h ballot
      (no_voters_here mine.learner.counted slot ballot)
      (λ b apart. no_voters_other mine.learner.counted slot ballot slot b (λ _ f. apart f)))
  learned_here from ballot batch sent out false c next is = subst (λ (l : Learning). LearnerMoves Sent (seat_of (record mine { learner = l }) slot)) (sym is)
      (learning_vote sound (Says {B = B} me Silent slot) me (seat_of mine slot) (seat_of (record mine { learner = record { counted = insert mine.learner.counted (record { slot = slot; ballot = ballot }) (voters_of mine.learner slot ballot ++ from ∷ []); given = mine.learner.given } }) slot) h from ballot batch sent out
      (voters_here mine.learner.counted slot ballot (voters_of mine.learner slot ballot ++ from ∷ []))
      (λ b apart. voters_other mine.learner.counted slot ballot (voters_of mine.learner slot ballot ++ from ∷ []) slot b (λ _ f. apart f)))

  -- and elsewhere
  learned_elsewhere : (from : ℕ) (k : Slot) (ballot : Ballot) → slot ≢ k → (c : Bool) (b : Ballot)
      → voters_of (cond c (record { counted = remove mine.learner.counted (record { slot = k; ballot = ballot }); given = insert mine.learner.given k ballot }) (record { counted = insert mine.learner.counted (record { slot = k; ballot = ballot }) (voters_of mine.learner k ballot ++ from ∷ []); given = mine.learner.given })) slot b ≡ voters_of mine.learner slot b
  learned_elsewhere from k ballot apart true b = no_voters_other mine.learner.counted k ballot slot b (λ f _. apart f)
  learned_elsewhere from k ballot apart false b = voters_other mine.learner.counted k ballot (voters_of mine.learner k ballot ++ from ∷ []) slot b (λ f _. apart f)

  accepted_right : (from : ℕ) (k : Slot) (ballot : Ballot) (batch : B) → (slot ≡ k → Sent (Votes from ballot batch)) → RightDeed size Sent slot me mine (accepted size from mine k ballot batch)
  accepted_right from k ballot batch heard = at_test (knows mine.learner from k ballot) refl
    where
      here : Sent (Votes from ballot batch) → list_any (nat_eq from) (voters_of mine.learner slot ballot) ≡ false → Rightly size Sent slot me mine (record mine { learner = learned size mine.learner from slot ballot }) (Says me Silent slot)
      here sent out = (
        accepts_still Sent _ me _ _ refl refl (λ x b r n. n) (λ x b v n. n),
        proposing_still sound _ me _ _ h (omega arith) (λ t k. k) (λ b x n. n),
        learned_here from ballot batch sent out (completes size mine.learner slot ballot) refl (learned size mine.learner from slot ballot) refl,
      )

      at_test : (b : Bool) → knows mine.learner from k ballot ≡ b → RightDeed size Sent slot me mine (cond b (Refuses Known) (Does (record mine { learner = learned size mine.learner from k ballot }) Silent (cond (completes size mine.learner k ballot) (Some (k, batch)) None)))
      at_test true c = tt
      at_test false c =
          at_slot (λ k. (slot ≡ k → Sent (Votes from ballot batch)) → knows mine.learner from k ballot ≡ false → Rightly size Sent slot me mine (record mine { learner = learned size mine.learner from k ballot }) (Says me Silent slot)) k
          (λ heard out. here (heard refl) (or_parts (is_some (get mine.learner.given slot)) (list_any (nat_eq from) (voters_of mine.learner slot ballot)) out).1)
          (λ apart heard out. quiet (record mine { learner = learned size mine.learner from k ballot }) _ (λ x n. n) refl refl (omega arith) refl (λ b. learned_elsewhere from k ballot apart (completes size mine.learner k ballot) b))
          heard c

  -- Every message is handled rightly, where what it says of this slot was said.
  pub handle_right : (from : ℕ) (m : Message B) → ((x : Said B) → Tells from m slot x → Sent x) → RightDeed size Sent slot me mine (handle size from m mine)
  handle_right from (Prepare k ballot) heard = prepare_right from k ballot (bars_prepare (promise_at mine.acceptor k) ballot) refl
  handle_right from (Promise k ballot vote) heard = promise_right from k ballot vote (λ e. heard (Reports from ballot vote) (refl, ap (λ s. Promise s ballot vote) e)) (current mine.proposer from k ballot) refl
  handle_right from (Accept k ballot batch) heard = accept_right from k ballot batch (λ e. heard (Proposes ballot batch) (ap (λ s. Accept s ballot batch) e)) (bars_accept (promise_at mine.acceptor k) ballot) refl
  handle_right from (Refused k ballot p) heard = refused_right p
  handle_right from (Accepted k ballot batch) heard = accepted_right from k ballot batch (λ e. heard (Votes from ballot batch) (refl, ap (λ s. Accepted s ballot batch) e))

  -- and so is a restart,
  pub restart_right : RightDeed size Sent slot me mine (restart mine)
  restart_right = (
    accepts_still Sent _ me _ _ refl refl (λ x b r n. n) (λ x b v n. n),
    proposing_still sound _ me _ _ h (omega arith) (λ t k. let e : get (empty {X = Attempt B} {R = slot_cmp}) slot ≡ None = get-empty slot_cmp slot in absurd (none-some _ (sym e ∙ k))) (λ b x n. n),
    learning_nothing sound (Says me Silent slot) me (seat_of mine slot) (seat_of (record { acceptor = mine.acceptor; proposer = record { used = mine.proposer.used; seen = 0; attempts = empty }; learner = record { counted = empty; given = empty } }) slot) h (nobody_counted slot),
  )

  -- and a new attempt.
  pub propose_right : (k : Slot) (batch : B) → RightDeed size Sent slot me mine (propose me k batch mine)
  propose_right k batch = at_test (has_round mine)
    where
      at_test : (b : Bool) → RightDeed size Sent slot me mine (cond b (Does (record mine { proposer = started me mine.proposer k batch }) (ToAll (Prepare k (next_ballot me mine.proposer))) None) (Refuses RoundsSpent))
      at_test false = tt
      at_test true =
          let t : Attempt B = record { ballot = next_ballot me mine.proposer; own = batch; counted = [] } in
          at_slot (λ k. RightDeed size Sent slot me mine (Does (record mine { proposer = started me mine.proposer k batch }) (ToAll (Prepare k (next_ballot me mine.proposer))) None)) k (
            accepts_still Sent _ me _ _ refl refl (λ x b r n. mute_prepare me slot (next_ballot me mine.proposer) slot (Reports x b r) n) (λ x b v n. mute_prepare me slot (next_ballot me mine.proposer) slot (Votes x b v) n),
            proposing_start sound _ me _ _ h t (get_here mine.proposer.attempts slot t) refl (omega arith) (omega arith) refl (λ b x n. mute_prepare me slot (next_ballot me mine.proposer) slot (Proposes b x) n),
            learning_still sound (Says {B = B} me (ToAll (Prepare slot (next_ballot me mine.proposer))) slot) me (seat_of mine slot) (seat_of (record mine { proposer = started me mine.proposer slot batch }) slot) h (λ b. refl),
          )
          (λ apart. quiet (record mine { proposer = started me mine.proposer k batch }) _ (mute_prepare me k (next_ballot me mine.proposer) slot) refl refl (omega arith) (get_other mine.proposer.attempts k t slot apart) (λ b. refl))

-- what a deed's learner gives for a slot
abbrev pub Gives : {B : Type 0} → Deed B → Slot → B → Type 0
Gives (Refuses f) slot x = ⊥
Gives (Does next letters given) slot x = given ≡ Some (slot, x)

-- What a learner gives for a slot is chosen for it.
module _ {B : Type 0} {size : ℕ} {Sent : Said B → Type 0} {promises : ℕ → Option Ballot} {votes : ℕ → Option (Vote B)} (sound : Sound size Sent promises votes) (slot : Slot) (me : ℕ) (mine : Replica B) (h : HoldsAt size Sent me (seat_of mine slot)) where
  accepted_gives : (from : ℕ) (k : Slot) (ballot : Ballot) (batch : B) → (slot ≡ k → Sent (Votes from ballot batch)) → (x : B) → Gives (accepted size from mine k ballot batch) slot x → IsChosen size (λ a b y. Sent (Votes a b y)) x
  accepted_gives from k ballot batch heard x = at_test (knows mine.learner from k ballot) (completes size mine.learner k ballot) refl refl
    where
      here : Sent (Votes from ballot batch) → knows mine.learner from slot ballot ≡ false → completes size mine.learner slot ballot ≡ true → IsChosen size (λ a b y. Sent (Votes a b y)) batch
      here sent out enough = vote_chooses sound (λ _. ⊥) me (seat_of mine slot) (seat_of mine slot) h from ballot batch sent (or_parts (is_some (get mine.learner.given slot)) (list_any (nat_eq from) (voters_of mine.learner slot ballot)) out).1 enough

      at_test : (b c : Bool) → knows mine.learner from k ballot ≡ b → completes size mine.learner k ballot ≡ c → Gives (cond b (Refuses Known) (Does (record mine { learner = learned size mine.learner from k ballot }) Silent (cond c (Some (k, batch)) None))) slot x → IsChosen size (λ a b y. Sent (Votes a b y)) x
      at_test true c out enough g = absurd g
      at_test false false out enough g = absurd (none-some _ g)
      at_test false true out enough g =
          let at : k ≡ slot = ap (λ (p : Slot × B). p.0) (same_Some _ _ g) in
          let is : batch ≡ x = ap (λ (p : Slot × B). p.1) (same_Some _ _ g) in
          subst (IsChosen size (λ a b y. Sent (Votes a b y))) is (here (heard (sym at)) (subst (λ s. knows mine.learner from s ballot ≡ false) at out) (subst (λ s. completes size mine.learner s ballot ≡ true) at enough))

  prepare_gives : (from : ℕ) (k : Slot) (ballot : Ballot) (bar : Option Ballot) (x : B) → Gives (prepare from mine k ballot bar) slot x → ⊥
  prepare_gives from k ballot None x g = none-some _ g
  prepare_gives from k ballot (Some p) x g = none-some _ g

  accept_gives : (from : ℕ) (k : Slot) (ballot : Ballot) (batch : B) (bar : Option Ballot) (x : B) → Gives (accept from mine k ballot batch bar) slot x → ⊥
  accept_gives from k ballot batch None x g = none-some _ g
  accept_gives from k ballot batch (Some p) x g = none-some _ g

  promise_gives : (from : ℕ) (k : Slot) (ballot : Ballot) (vote : Option (Vote B)) (attempt : Option (Attempt B)) (x : B) → Gives (promise size from mine k ballot vote attempt) slot x → ⊥
  promise_gives from k ballot vote None x = λ g. g
  promise_gives from k ballot vote (Some t) x = at_test (is_enough size t)
    where
      at_test : (c : Bool) → Gives (cond c (Does (record mine { proposer = sending mine.proposer k }) (ToAll (Accept k ballot (batch_of t.own (with_report t from vote)))) None) (Does (record mine { proposer = counting mine.proposer k t from vote }) Silent None)) slot x → ⊥
      at_test true g = none-some _ g
      at_test false g = none-some _ g

  refused_gives : (p : Ballot) (x : B) → Gives (refused mine p) slot x → ⊥
  refused_gives p x = at_test (nat_lt (max mine.proposer.used mine.proposer.seen) p.round)
    where
      at_test : (b : Bool) → Gives (cond b (Does (record mine { proposer = refused_at mine.proposer p }) Silent None) (Refuses NotCurrent)) slot x → ⊥
      at_test false g = g
      at_test true g = none-some _ g

  pub handle_gives : (from : ℕ) (m : Message B) → ((x : Said B) → Tells from m slot x → Sent x) → (x : B) → Gives (handle size from m mine) slot x → IsChosen size (λ a b y. Sent (Votes a b y)) x
  handle_gives from (Prepare k ballot) heard x g = absurd (prepare_gives from k ballot (bars_prepare (promise_at mine.acceptor k) ballot) x g)
  handle_gives from (Promise k ballot vote) heard x g = absurd (promise_gives from k ballot vote (current mine.proposer from k ballot) x g)
  handle_gives from (Accept k ballot batch) heard x g = absurd (accept_gives from k ballot batch (bars_accept (promise_at mine.acceptor k) ballot) x g)
  handle_gives from (Refused k ballot p) heard x g = absurd (refused_gives p x g)
  handle_gives from (Accepted k ballot batch) heard x g = accepted_gives from k ballot batch (λ e. heard (Votes from ballot batch) (refl, ap (λ s. Accepted s ballot batch) e)) x g

-- nor does a new attempt give any, or a restart
pub propose_gives : {B : Type 0} (me : ℕ) (mine : Replica B) (k : Slot) (batch : B) (slot : Slot) (x : B) → Gives (propose me k batch mine) slot x → ⊥
propose_gives me mine k batch slot x = at_test (has_round mine)
  where
    at_test : (b : Bool) → Gives (cond b (Does (record mine { proposer = started me mine.proposer k batch }) (ToAll (Prepare k (next_ballot me mine.proposer))) None) (Refuses RoundsSpent)) slot x → ⊥
    at_test false g = g
    at_test true g = none-some _ g

pub restart_gives : {B : Type 0} (mine : Replica B) (slot : Slot) (x : B) → Gives (restart mine) slot x → ⊥
restart_gives mine slot x g = none-some _ g

-- The step of one replica in any world: what it did is right, and nothing else changed at the slot.
pub deed_keeps : {B : Type 0} {size : ℕ} {Sent Sent' : Said B → Type 0} {seats seats' : ℕ → Seat B} → Holds size Sent seats → (slot : Slot) (me : ℕ) (mine next : Replica B) (New : Said B → Type 0) → me < size → seats me ≡ seat_of mine slot → seats' me ≡ seat_of next slot
    → Rightly size Sent slot me mine next New → ((x : Said B) → Sent x → Sent' x) → ((x : Said B) → New x → Sent' x) → ((x : Said B) → Sent' x → Sent x ⊎ New x) → ((r : ℕ) → r ≢ me → seats' r ≡ seats r) → Holds size Sent' seats'
deed_keeps {B = B} {size = size} {Sent = Sent} {seats' = seats'} h slot me mine next New member was is right grows told only others = moves_keep h (record {
  member = member;
  accepts = subst (λ (o : Seat B). AcceptorMoves Sent New me o (seats' me)) (sym was) (subst (AcceptorMoves Sent New me (seat_of mine slot)) (sym is) right.0);
  proposing = subst (λ (o : Seat B). ProposerMoves size Sent New me o (seats' me)) (sym was) (subst (ProposerMoves size Sent New me (seat_of mine slot)) (sym is) right.1);
  learning = subst (LearnerMoves Sent) (sym is) right.2;
  grows = grows;
  told = told;
  only = only;
  others = others;
})

-- The step of a world that leaves the slot alone: nothing is said of it, and no seat changes.
pub idle_keeps : {B : Type 0} {size : ℕ} {Sent Sent' : Said B → Type 0} {seats seats' : ℕ → Seat B} → Holds size Sent seats → 0 < size
    → ((x : Said B) → Sent x → Sent' x) → ((x : Said B) → Sent' x → Sent x) → ((r : ℕ) → seats' r ≡ seats r) → Holds size Sent' seats'
idle_keeps {B = B} {size = size} {Sent = Sent} {seats = seats} {seats' = seats'} h some grows only same = moves_keep {New = λ _. ⊥} {me = 0} h (record {
  member = some;
  accepts = accepts_still Sent (λ _. ⊥) 0 (seats 0) (seats' 0) (ap (λ s. s.promise) (same 0)) (ap (λ s. s.vote) (same 0)) (λ a b r n. n) (λ a b x n. n);
  proposing = proposing_still h.sound (λ _. ⊥) 0 (seats 0) (seats' 0) (holds_at h 0 (seats 0) refl) (le_of_same (ap (λ s. s.used) (sym (same 0)))) (λ t e. sym (ap (λ s. s.attempt) (same 0)) ∙ e) (λ b x n. n);
  learning = learning_still h.sound (λ _. ⊥) 0 (seats 0) (seats' 0) (holds_at h 0 (seats 0) refl) (λ b. ap (λ (s : Seat B). s.voters b) (same 0));
  grows = grows;
  told = λ x n. absurd n;
  only = λ x s. inl (only x s);
  others = λ r apart. same r;
})
  where
    le_of_same : {m n : ℕ} → m ≡ n → m ≤ n
    le_of_same {m} {n} e = omega arith

-- A deed speaks of one slot alone.
abbrev pub SpeaksOf : {B : Type 0} → ℕ → Slot → Deed B → Type 0
SpeaksOf me k (Refuses f) = Unit {0}
SpeaksOf {B} me k (Does next letters given) = (slot : Slot) (x : Said B) → Says me letters slot x → slot ≡ k

tells_slot : {B : Type 0} (me : ℕ) (m : Message B) (slot : Slot) (x : Said B) → Tells me m slot x → slot ≡ slot_of m
tells_slot me m slot (Reports a b r) t = ap slot_of t.1
tells_slot me m slot (Proposes b y) t = ap slot_of t
tells_slot me m slot (Votes a b y) t = ap slot_of t.1

module _ {B : Type 0} (size me : ℕ) (mine : Replica B) where
  prepare_speaks : (from : ℕ) (k : Slot) (ballot : Ballot) (bar : Option Ballot) → SpeaksOf me k (prepare from mine k ballot bar)
  prepare_speaks from k ballot None = λ s x t. tells_slot me (Promise k ballot (vote_at mine.acceptor k)) s x t
  prepare_speaks from k ballot (Some p) = λ s x t. tells_slot me (Refused k ballot p) s x t

  accept_speaks : (from : ℕ) (k : Slot) (ballot : Ballot) (batch : B) (bar : Option Ballot) → SpeaksOf me k (accept from mine k ballot batch bar)
  accept_speaks from k ballot batch None = λ s x t. tells_slot me (Accepted k ballot batch) s x t
  accept_speaks from k ballot batch (Some p) = λ s x t. tells_slot {B = B} me (Refused k ballot p) s x t

  promise_speaks : (from : ℕ) (k : Slot) (ballot : Ballot) (vote : Option (Vote B)) (attempt : Option (Attempt B)) → SpeaksOf me k (promise size from mine k ballot vote attempt)
  promise_speaks from k ballot vote None = tt
  promise_speaks from k ballot vote (Some t) = at_test (is_enough size t)
    where
      at_test : (c : Bool) → SpeaksOf me k (cond c (Does (record mine { proposer = sending mine.proposer k }) (ToAll (Accept k ballot (batch_of t.own (with_report t from vote)))) None) (Does (record mine { proposer = counting mine.proposer k t from vote }) Silent None))
      at_test true = λ s x t'. tells_slot me (Accept k ballot (batch_of t.own (with_report t from vote))) s x t'
      at_test false = λ s x t'. absurd t'

  refused_speaks : (k : Slot) (p : Ballot) → SpeaksOf me k (refused mine p)
  refused_speaks k p = at_test (nat_lt (max mine.proposer.used mine.proposer.seen) p.round)
    where
      at_test : (b : Bool) → SpeaksOf me k (cond b (Does (record mine { proposer = refused_at mine.proposer p }) Silent None) (Refuses NotCurrent))
      at_test false = tt
      at_test true = λ s x t. absurd t

  accepted_speaks : (from : ℕ) (k : Slot) (ballot : Ballot) (batch : B) → SpeaksOf me k (accepted size from mine k ballot batch)
  accepted_speaks from k ballot batch = at_test (knows mine.learner from k ballot)
    where
      at_test : (b : Bool) → SpeaksOf me k (cond b (Refuses Known) (Does (record mine { learner = learned size mine.learner from k ballot }) Silent (cond (completes size mine.learner k ballot) (Some (k, batch)) None)))
      at_test true = tt
      at_test false = λ s x t. absurd t

  pub handle_speaks : (from : ℕ) (m : Message B) → SpeaksOf me (slot_of m) (handle size from m mine)
  handle_speaks from (Prepare k ballot) = prepare_speaks from k ballot (bars_prepare (promise_at mine.acceptor k) ballot)
  handle_speaks from (Promise k ballot vote) = promise_speaks from k ballot vote (current mine.proposer from k ballot)
  handle_speaks from (Accept k ballot batch) = accept_speaks from k ballot batch (bars_accept (promise_at mine.acceptor k) ballot)
  handle_speaks from (Refused k ballot p) = refused_speaks k p
  handle_speaks from (Accepted k ballot batch) = accepted_speaks from k ballot batch

pub propose_speaks : {B : Type 0} (me : ℕ) (mine : Replica B) (k : Slot) (batch : B) → SpeaksOf me k (propose me k batch mine)
propose_speaks {B} me mine k batch = at_test (has_round mine)
  where
    at_test : (b : Bool) → SpeaksOf me k (cond b (Does (record mine { proposer = started me mine.proposer k batch }) (ToAll (Prepare k (next_ballot me mine.proposer))) None) (Refuses RoundsSpent))
    at_test false = tt
    at_test true = λ s x t. tells_slot {B = B} me (Prepare k (next_ballot me mine.proposer)) s x t

-- Where nothing was sent and every replica is fresh, all that is asked holds.
pub holds_at_first : {B : Type 0} (size : ℕ) (Sent : Said B → Type 0) (slot : Slot) (seats : ℕ → Seat B) → ((x : Said B) → Sent x → ⊥) → ((r : ℕ) → seats r ≡ seat_of fresh slot) → Holds size Sent seats
unfolding fresh
holds_at_first {B} size Sent slot seats none same = record {
  sound = sound_at_first size Sent _ _ none (λ a. ap (λ s. s.vote) (same a) ∙ ap vote_in (get-empty slot_cmp slot));
  used_up = λ b x s. absurd (none (Proposes b x) s);
  fair = λ r t e. absurd (none-some _ (sym (ap (λ s. s.attempt) (same r) ∙ get-empty slot_cmp slot) ∙ e));
  learned = λ r. subst (λ (s : Seat B). Learned Sent s.voters) (sym (same r)) (record {
    distinct = λ b. subst (IsDistinct nat_eq) (sym (nobody_counted slot b)) distinct_none;
    cast = λ b a i. absurd (true≢false (sym (subst (IsIn a) (nobody_counted slot b) i)));
  });
}
