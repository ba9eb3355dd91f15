-- The cases of the three roles are steps that the core allows.
use Rattle.std.proofs.Common.{◌≡◌, ◌≢◌, ℕ, suc, ◌+◌, ◌<◌, ◌≤◌, Bool, true, false, true≢false, cond, not, List, [], ◌∷◌, ◌++◌, length, inl, inr, ⊎_elim, refl, sym, ap, ◌∙◌, subst, arith, Option, Some, None, length-append}
use Rattle.std.specs.Prelude.{nat_eq, nat_le}
use Rattle.std.specs.List.{list_any, IsDistinct, AllByRecursion}
use Rattle.std.specs.Ordering.{is_lt, eq_by_cmp}
use Rattle.std.proofs.lemmas.Bool.{not-true, leb-true}
use Rattle.std.proofs.lemmas.Option.{none-some, same_Some}
use Rattle.calvin_types.specs.declared.place.Ballot.{Ballot}
use Rattle.calvin_types.specs.Exact.{first, second}
use Rattle.calvin_types.specs.Places.{ballot_cmp}
use Rattle.calvin_synod.proofs.Ballots.{AtMost}
use Rattle.calvin_synod.specs.Quorums.{IsIn, majority, IsChosen}
use Rattle.calvin_synod.specs.declared.vote.Vote.{Vote}
use Rattle.calvin_synod.specs.declared.attempt.Report.{Report}
use Rattle.calvin_synod.specs.declared.attempt.Attempt.{Attempt}
use Rattle.calvin_synod.specs.Roles.{bars_prepare, bars_accept, batch_of, reporters, counts, is_enough}
use Rattle.calvin_synod.proofs.Order.{at_most_itself, at_most_of_below, at_most_trans, below_at_most, below_from_test, at_most_from_test, same_from_test, same_ballot_or_not}
use Rattle.calvin_synod.proofs.Majorities.{distinct_none, distinct_push, is_in_push_cases}
use Rattle.calvin_synod.proofs.Core.{Said, Reports, Proposes, Votes, Reaches, Open, VotedFrom, Grows, Sound, Backed}
use Rattle.calvin_synod.proofs.Replicas.{Seat, Fair, Learned, HoldsAt, AcceptorMoves, ProposerMoves, LearnerMoves}

-- ---- the acceptor

pub accepts_still : {B : Type 0} (Sent New : Said B → Type 0) (me : ℕ) (old next : Seat B) → next.promise ≡ old.promise → next.vote ≡ old.vote
    → ((a : ℕ) (b : Ballot) (r : Option (Vote B)) → New (Reports a b r) → ⊥) → ((a : ℕ) (b : Ballot) (x : B) → New (Votes a b x) → ⊥) → AcceptorMoves Sent New me old next
accepts_still Sent New me old next e f no_report no_vote = record {
  promises = subst (Grows old.promise) (sym e) (record { reaches = λ b h. h; passed = λ b h. h });
  reports = λ a b r n. absurd (no_report a b r n);
  votes = λ a b x n. absurd (no_vote a b x n);
  kept = inl f;
}

prepare_open : (p : Option Ballot) (b : Ballot) → bars_prepare p b ≡ None → Open p b
prepare_open None b h = tt
prepare_open (Some p) b h = at_test (is_lt (ballot_cmp p b)) refl h
  where
    at_test : (t : Bool) → is_lt (ballot_cmp p b) ≡ t → cond t None (Some p) ≡ None → AtMost p b
    at_test true e k = at_most_of_below (below_from_test e)
    at_test false e k = absurd (none-some _ (sym k))

accept_open : (p : Option Ballot) (b : Ballot) → bars_accept p b ≡ None → Open p b
accept_open None b h = tt
accept_open (Some p) b h = at_test (is_lt (ballot_cmp b p)) refl h
  where
    at_test : (t : Bool) → is_lt (ballot_cmp b p) ≡ t → cond t (Some p) None ≡ None → AtMost p b
    at_test true e k = absurd (none-some _ (sym k))
    at_test false e k = at_most_from_test e

grows_to : (p : Option Ballot) (b : Ballot) → Open p b → Grows p (Some b)
grows_to None b h = record { reaches = λ c k. absurd k; passed = λ c k. absurd k }
grows_to (Some p) b h = record { reaches = λ c k. at_most_trans k h; passed = λ c k. below_at_most k h }

pub accepts_prepare : {B : Type 0} (Sent New : Said B → Type 0) (me : ℕ) (old next : Seat B) (ballot : Ballot) → bars_prepare old.promise ballot ≡ None → next.promise ≡ Some ballot → next.vote ≡ old.vote
    → ((a : ℕ) (b : Ballot) (r : Option (Vote B)) → New (Reports a b r) → (a ≡ me) × (b ≡ ballot) × (r ≡ old.vote)) → ((a : ℕ) (b : Ballot) (x : B) → New (Votes a b x) → ⊥) → AcceptorMoves Sent New me old next
accepts_prepare Sent New me old next ballot free e f report no_vote = record {
  promises = subst (Grows old.promise) (sym e) (grows_to old.promise ballot (prepare_open old.promise ballot free));
  reports = λ a b r n. let x = report a b r n in (x.0, subst (λ p. Reaches p b) (sym e) (subst (λ c. AtMost c ballot) (sym x.1) (at_most_itself ballot)), x.2, λ c y k. no_vote a c y k);
  votes = λ a b x n. absurd (no_vote a b x n);
  kept = inl f;
}

pub accepts_vote : {B : Type 0} (Sent New : Said B → Type 0) (me : ℕ) (old next : Seat B) (v : Vote B) → bars_accept old.promise v.ballot ≡ None → Sent (Proposes v.ballot v.batch) → next.promise ≡ Some v.ballot → next.vote ≡ Some v
    → ((a : ℕ) (b : Ballot) (r : Option (Vote B)) → New (Reports a b r) → ⊥) → ((a : ℕ) (b : Ballot) (x : B) → New (Votes a b x) → (a ≡ me) × (b ≡ v.ballot) × (x ≡ v.batch)) → New (Votes me v.ballot v.batch) → AcceptorMoves Sent New me old next
accepts_vote {B = B} Sent New me old next v free proposed e f no_report vote told =
    let may : Open old.promise v.ballot = accept_open old.promise v.ballot free in
    record {
      promises = subst (Grows old.promise) (sym e) (grows_to old.promise v.ballot may);
      reports = λ a b r n. absurd (no_report a b r n);
      votes = λ a b x n. let y = vote a b x n in
          (y.0, subst (Open old.promise) (sym y.1) may, subst (λ (z : Ballot × B). Sent (Proposes z.0 z.1)) (λ i. (sym y.1 i, sym y.2 i)) proposed, subst (VotedFrom b) (sym f) (subst (λ c. AtMost c v.ballot) (sym y.1) (at_most_itself v.ballot)));
      kept = inr (v, f, may, subst (λ p. Reaches p v.ballot) (sym e) (at_most_itself v.ballot), told);
    }

-- ---- the proposer

-- what it takes for a report to count
pub record Countable {B : Type 0} (t : Attempt B) (from : ℕ) (ballot : Ballot) : Type 0 where
  pub same : t.ballot ≡ ballot
  pub out : IsIn from (reporters t.counted) → ⊥

pub countable : {B : Type 0} (t : Attempt B) (from : ℕ) (ballot : Ballot) → counts t from ballot ≡ true → Countable t from ballot
countable t from ballot h =
    let here : Bool = list_any (nat_eq from) (reporters t.counted) in
    record {
      same = same_from_test t.ballot ballot (first (eq_by_cmp ballot_cmp t.ballot ballot) (not here) h);
      out = λ k. true≢false (sym k ∙ not-true here (second (eq_by_cmp ballot_cmp t.ballot ballot) (not here) h));
    }

reporters_push : {B : Type 0} (c : List (Report B)) (r : Report B) → reporters (c ++ r ∷ []) ≡ reporters c ++ r.from ∷ []
reporters_push [] r = refl
reporters_push (x ∷ c) r = ap (λ q. x.from ∷ q) (reporters_push c r)

length_reporters : {B : Type 0} (c : List (Report B)) → length (reporters c) ≡ length c
length_reporters [] = refl
length_reporters (x ∷ c) = ap suc (length_reporters c)

all_push : {X : Type 0} (P : X → Type 0) (xs : List X) (x : X) → AllByRecursion P xs → P x → AllByRecursion P (xs ++ x ∷ [])
all_push P [] x all h = (h, tt)
all_push P (y ∷ xs) x all h = (all.0, all_push P xs x all.1 h)

module _ {B : Type 0} {size : ℕ} {Sent : Said B → Type 0} {promise : ℕ → Option Ballot} {vote : ℕ → Option (Vote B)} (s : Sound size Sent promise vote) (New : Said B → Type 0) (me : ℕ) (old next : Seat B) (h : HoldsAt size Sent me old) where
  -- the same attempt, or none
  pub proposing_still : old.used ≤ next.used → ((t : Attempt B) → next.attempt ≡ Some t → old.attempt ≡ Some t) → ((b : Ballot) (x : B) → New (Proposes b x) → ⊥) → ProposerMoves size Sent New me old next
  proposing_still used same none = record {
    used = used;
    proposals = λ b x n. absurd (none b x n);
    fair = λ t e.
        let f = h.fair t (same t e) in
        let within : t.ballot.round ≤ old.used = f.within in
        (record { owner = f.owner; within = omega arith; distinct = f.distinct; members = f.members; reported = f.reported; unsent = f.unsent }, λ x n. none t.ballot x n);
  }

  -- a new attempt
  pub proposing_start : (t : Attempt B) → next.attempt ≡ Some t → t.ballot.replica ≡ me → old.used < t.ballot.round → t.ballot.round ≤ next.used → t.counted ≡ [] → ((b : Ballot) (x : B) → New (Proposes b x) → ⊥) → ProposerMoves size Sent New me old next
  proposing_start t e owner above within nobody none = record {
    used = omega arith;
    proposals = λ b x n. absurd (none b x n);
    fair = λ u k. subst (λ y. Fair size Sent me next.used y × ((x : B) → New (Proposes y.ballot x) → ⊥)) (same_Some _ _ (sym e ∙ k)) (started, λ x n. none t.ballot x n);
  }
    where
      started : Fair size Sent me next.used t
      started = record {
        owner = owner;
        within = within;
        distinct = subst (λ c. IsDistinct nat_eq (reporters c)) (sym nobody) distinct_none;
        members = subst (λ c. (a : ℕ) → IsIn a (reporters c) → a < size) (sym nobody) (λ a i. absurd (true≢false (sym i)));
        reported = subst (AllByRecursion (λ (r : Report B). Sent (Reports r.from t.ballot r.vote))) (sym nobody) tt;
        unsent = λ x n. let up : t.ballot.round ≤ old.used = h.used_up t.ballot x n owner in
            omega arith;
      }

  -- one report more of the attempt under way
  module _ (t : Attempt B) (r : Report B) (at : old.attempt ≡ Some t) (ok : counts t r.from t.ballot ≡ true) (sent : Sent (Reports r.from t.ballot r.vote)) where
    f : Fair size Sent me old.used t
    f = h.fair t at

    distinct_more : IsDistinct nat_eq (reporters (t.counted ++ r ∷ []))
    distinct_more = subst (IsDistinct nat_eq) (sym (reporters_push t.counted r)) (distinct_push r.from (reporters t.counted) (countable t r.from t.ballot ok).out f.distinct)

    members_more : (a : ℕ) → IsIn a (reporters (t.counted ++ r ∷ [])) → a < size
    members_more a i = ⊎_elim (λ (k : a ≡ r.from). subst (λ z. z < size) (sym k) (s.reporter r.from t.ballot r.vote sent)) (λ (k : IsIn a (reporters t.counted)). f.members a k) (is_in_push_cases a r.from (reporters t.counted) (subst (IsIn a) (reporters_push t.counted r) i))

    reported_more : AllByRecursion (λ (q : Report B). Sent (Reports q.from t.ballot q.vote)) (t.counted ++ r ∷ [])
    reported_more = all_push (λ (q : Report B). Sent (Reports q.from t.ballot q.vote)) t.counted r f.reported sent

    -- without a majority the attempt goes on
    pub proposing_count : next.used ≡ old.used → next.attempt ≡ Some (record t { counted = t.counted ++ r ∷ [] }) → ((b : Ballot) (x : B) → New (Proposes b x) → ⊥) → ProposerMoves size Sent New me old next
    proposing_count used e none = record {
      used = omega arith;
      proposals = λ b x n. absurd (none b x n);
      fair = λ u k. subst (λ y. Fair size Sent me next.used y × ((x : B) → New (Proposes y.ballot x) → ⊥)) (same_Some _ _ (sym e ∙ k)) (
        record { owner = f.owner; within = subst (λ n. t.ballot.round ≤ n) (sym used) f.within; distinct = distinct_more; members = members_more; reported = reported_more; unsent = f.unsent },
        λ x n. none t.ballot x n,
      );
    }

    backed : is_enough size t ≡ true → Backed size Sent t.ballot (batch_of t.own (t.counted ++ r ∷ []))
    backed e = record {
      counted = t.counted ++ r ∷ [];
      own = t.own;
      enough = record {
        distinct = distinct_more;
        within = members_more;
        enough =
            let k : majority size ≤ length t.counted + 1 = leb-true (majority size) (length t.counted + 1) e in
            let m = length_reporters (t.counted ++ r ∷ []) in
            omega (arith, m, length-append t.counted (r ∷ []));
      };
      reported = reported_more;
      picked = refl;
    }

    -- with a majority the attempt ends, and its accept is sent
    pub proposing_send : is_enough size t ≡ true → next.used ≡ old.used → next.attempt ≡ None → ((b : Ballot) (x : B) → New (Proposes b x) → (b ≡ t.ballot) × (x ≡ batch_of t.own (t.counted ++ r ∷ []))) → ProposerMoves size Sent New me old next
    proposing_send enough used e one = record {
      used = omega arith;
      proposals = λ b x n. let y = one b x n in (
        subst (λ z. z.replica ≡ me) (sym y.0) f.owner,
        subst (λ z. z.round ≤ old.used) (sym y.0) f.within,
        λ z k. f.unsent z (subst (λ c. Sent (Proposes c z)) y.0 k),
        subst (λ (z : Ballot × B). Backed size Sent z.0 z.1) (λ i. (sym y.0 i, sym y.1 i)) (backed enough),
        λ z k. (one b z k).1 ∙ sym y.1,
      );
      fair = λ u k. absurd (none-some _ (sym e ∙ k));
    }

  -- ---- the learner

  pub learning_still : ((b : Ballot) → next.voters b ≡ old.voters b) → LearnerMoves Sent next
  learning_still same =
      let l = h.learned in
      record {
        distinct = λ b. subst (IsDistinct nat_eq) (sym (same b)) (l.distinct b);
        cast = λ b a i. l.cast b a (subst (IsIn a) (same b) i);
      }

  pub learning_nothing : ((b : Ballot) → next.voters b ≡ []) → LearnerMoves Sent next
  learning_nothing none = record {
    distinct = λ b. subst (IsDistinct nat_eq) (sym (none b)) distinct_none;
    cast = λ b a i. absurd (true≢false (sym (subst (IsIn a) (none b) i)));
  }

  -- a count that ends
  pub learning_fewer : (ballot : Ballot) → next.voters ballot ≡ [] → ((b : Ballot) → b ≢ ballot → next.voters b ≡ old.voters b) → LearnerMoves Sent next
  learning_fewer ballot none others = record {
    distinct = at_each (λ b q. IsDistinct nat_eq q) distinct_none h.learned.distinct;
    cast = at_each (λ b q. (a : ℕ) → IsIn a q → (x : B) × Sent (Votes a b x)) (λ a i. absurd (true≢false (sym i))) h.learned.cast;
  }
    where
      at_each : (P : Ballot → List ℕ → Type 0) → P ballot [] → ((b : Ballot) → P b (old.voters b)) → (b : Ballot) → P b (next.voters b)
      at_each P mine old b =
          ⊎_elim
          (λ (e : b ≡ ballot). subst (λ c. P c (next.voters c)) (sym e) (subst (P ballot) (sym none) mine))
          (λ (apart : b ≢ ballot). subst (P b) (sym (others b apart)) (old b))
          (same_ballot_or_not b ballot)

  -- a vote more
  module _ (from : ℕ) (ballot : Ballot) (batch : B) (sent : Sent (Votes from ballot batch)) (out : list_any (nat_eq from) (old.voters ballot) ≡ false) where
    l : Learned Sent old.voters
    l = h.learned

    voters_distinct : IsDistinct nat_eq (old.voters ballot ++ from ∷ [])
    voters_distinct = distinct_push from (old.voters ballot) (λ k. true≢false (sym k ∙ out)) (l.distinct ballot)

    voters_cast : (a : ℕ) → IsIn a (old.voters ballot ++ from ∷ []) → (x : B) × Sent (Votes a ballot x)
    voters_cast a i = ⊎_elim (λ (k : a ≡ from). (batch, subst (λ z. Sent (Votes z ballot batch)) (sym k) sent)) (λ (k : IsIn a (old.voters ballot)). l.cast ballot a k) (is_in_push_cases a from (old.voters ballot) i)

    pub learning_vote : next.voters ballot ≡ old.voters ballot ++ from ∷ [] → ((b : Ballot) → b ≢ ballot → next.voters b ≡ old.voters b) → LearnerMoves Sent next
    learning_vote here others = record {
      distinct = at_each (λ b q. IsDistinct nat_eq q) voters_distinct l.distinct;
      cast = at_each (λ b q. (a : ℕ) → IsIn a q → (x : B) × Sent (Votes a b x)) voters_cast l.cast;
    }
      where
        -- what holds of the new list, and of each old one, holds of each list
        at_each : (P : Ballot → List ℕ → Type 0) → P ballot (old.voters ballot ++ from ∷ []) → ((b : Ballot) → P b (old.voters b)) → (b : Ballot) → P b (next.voters b)
        at_each P mine old b =
            ⊎_elim
            (λ (e : b ≡ ballot). subst (λ c. P c (next.voters c)) (sym e) (subst (P ballot) (sym here) mine))
            (λ (apart : b ≢ ballot). subst (P b) (sym (others b apart)) (old b))
            (same_ballot_or_not b ballot)

    -- with the vote that makes a majority the batch is chosen
    pub vote_chooses : nat_le (majority size) (length (old.voters ballot) + 1) ≡ true → IsChosen size (λ a b y. Sent (Votes a b y)) batch
    vote_chooses e = (
      ballot,
      old.voters ballot ++ from ∷ [],
      record {
        distinct = voters_distinct;
        within = λ a i. let c = voters_cast a i in s.voter a ballot c.0 c.1;
        enough = let k : majority size ≤ length (old.voters ballot) + 1 = leb-true (majority size) (length (old.voters ballot) + 1) e in omega (arith, length-append (old.voters ballot) (from ∷ []));
      },
      λ a i. let c = voters_cast a i in subst (λ y. Sent (Votes a ballot y)) (s.one_batch ballot c.0 batch (s.vote_proposed a ballot c.0 c.1) (s.vote_proposed from ballot batch sent)) c.1,
    )
