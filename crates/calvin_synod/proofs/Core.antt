-- The core of the synod, for one slot: what was said of it, and what the acceptors keep.
-- It knows no packets, no replicas' data and no events. Whoever shows that each step is allowed has agreement.
use Rattle.std.proofs.Common.{◌≡◌, ℕ, ◌<◌, Bool, true, false, true≢false, cond, List, [], ◌∷◌, ◌⊎◌, inl, inr, ⊎_elim, refl, sym, ap, ◌∙◌, subst, Option, Some, None}
use Rattle.std.specs.List.{AllByRecursion}
use Rattle.std.specs.Ordering.{is_lt}
use Rattle.std.proofs.lemmas.Option.{none-some, same_Some}
use Rattle.calvin_types.specs.declared.place.Ballot.{Ballot}
use Rattle.calvin_types.specs.Places.{ballot_cmp}
use Rattle.calvin_synod.proofs.Ballots.{Below, AtMost}
use Rattle.calvin_synod.specs.Quorums.{IsIn, IsMajority, IsChosen}
use Rattle.calvin_synod.specs.declared.vote.Vote.{Vote}
use Rattle.calvin_synod.specs.declared.attempt.Report.{Report}
use Rattle.calvin_synod.specs.Roles.{higher, highest, batch_or, reporters}
use Rattle.calvin_synod.proofs.Order.{below_itself, at_most_of_below, at_most_trans, below_at_most, at_most_below, compare_ballots, below_from_test, at_most_from_test}
use Rattle.calvin_synod.proofs.Majorities.{majorities_share, majority_member, is_in_cases}

-- what can be said of a slot: a promise with its report, a proposal, a vote
pub data Said (B : Type 0) : Type 0 where
  Reports : (from : ℕ) (ballot : Ballot) (vote : Option (Vote B)) → Said B
  Proposes : (ballot : Ballot) (batch : B) → Said B
  Votes : (from : ℕ) (ballot : Ballot) (batch : B) → Said B

-- the promise is at least the ballot; above it; no greater than it
abbrev pub Reaches : Option Ballot → Ballot → Type 0
Reaches None ballot = ⊥
Reaches (Some promise) ballot = AtMost ballot promise

abbrev pub Passed : Option Ballot → Ballot → Type 0
Passed None ballot = ⊥
Passed (Some promise) ballot = Below ballot promise

abbrev pub Open : Option Ballot → Ballot → Type 0
Open None ballot = Unit {0}
Open (Some promise) ballot = AtMost promise ballot

-- the vote is at the ballot or later
abbrev pub VotedFrom : {B : Type 0} → Ballot → Option (Vote B) → Type 0
VotedFrom ballot None = ⊥
VotedFrom ballot (Some vote) = AtMost ballot vote.ballot

-- a promise only grows
pub record Grows (before after : Option Ballot) : Type 0 where
  pub reaches : (b : Ballot) → Reaches before b → Reaches after b
  pub passed : (b : Ballot) → Passed before b → Passed after b

-- the replica votes no more at the ballot, and voted for nothing but the batch
pub record Settled {B : Type 0} (Sent : Said B → Type 0) (promise : ℕ → Option Ballot) (ballot : Ballot) (batch : B) (a : ℕ) : Type 0 where
  pub passed : Passed (promise a) ballot
  pub agrees : (other : B) → Sent (Votes a ballot other) → other ≡ batch

-- at no lower ballot can another batch be chosen
abbrev pub IsSafe : {B : Type 0} → ℕ → (Said B → Type 0) → (ℕ → Option Ballot) → Ballot → B → Type 0
IsSafe size Sent promise ballot batch = (lower : Ballot) → Below lower ballot → (q : List ℕ) × IsMajority size q × ((a : ℕ) → IsIn a q → Settled Sent promise lower batch a)

-- what holds of a slot at any time
pub record Sound {B : Type 0} (size : ℕ) (Sent : Said B → Type 0) (promise : ℕ → Option Ballot) (vote : ℕ → Option (Vote B)) : Type 0 where
  pub voter : (a : ℕ) (b : Ballot) (v : B) → Sent (Votes a b v) → a < size
  pub reporter : (a : ℕ) (b : Ballot) (r : Option (Vote B)) → Sent (Reports a b r) → a < size
  pub promise_kept : (a : ℕ) (b : Ballot) (r : Option (Vote B)) → Sent (Reports a b r) → Reaches (promise a) b
  pub vote_kept : (a : ℕ) (b : Ballot) (v : B) → Sent (Votes a b v) → VotedFrom b (vote a)
  pub vote_cast : (a : ℕ) (u : Vote B) → vote a ≡ Some u → Sent (Votes a u.ballot u.batch)
  pub vote_promised : (a : ℕ) (u : Vote B) → vote a ≡ Some u → Reaches (promise a) u.ballot
  pub report_latest : (a : ℕ) (b c : Ballot) (r : Option (Vote B)) (v : B) → Sent (Reports a b r) → Sent (Votes a c v) → Below c b → VotedFrom c r
  pub report_cast : (a : ℕ) (b : Ballot) (u : Vote B) → Sent (Reports a b (Some u)) → Sent (Votes a u.ballot u.batch)
  pub vote_proposed : (a : ℕ) (b : Ballot) (v : B) → Sent (Votes a b v) → Sent (Proposes b v)
  pub one_batch : (b : Ballot) (v w : B) → Sent (Proposes b v) → Sent (Proposes b w) → v ≡ w
  pub safe : (b : Ballot) (v : B) → Sent (Proposes b v) → IsSafe size Sent promise b v

-- Agreement.
module _ {B : Type 0} {size : ℕ} {Sent : Said B → Type 0} {promise : ℕ → Option Ballot} {vote : ℕ → Option (Vote B)} (s : Sound size Sent promise vote) where
  -- a batch chosen at a lower ballot is the one voted for at a higher
  chosen_below : (b c : Ballot) (v w : B) (p q : List ℕ) → Below b c → IsMajority size p → ((a : ℕ) → IsIn a p → Sent (Votes a b v)) → IsMajority size q → ((a : ℕ) → IsIn a q → Sent (Votes a c w)) → v ≡ w
  chosen_below b c v w p q below m votes n others =
      let one = majority_member n in
      let proposed = s.vote_proposed one.0 c w (others one.0 one.1) in
      let safe = s.safe c w proposed b below in
      let shared = majorities_share m safe.1 in
      (safe.2 shared.0 shared.2).agrees v (votes shared.0 shared.1)

  pub agreement : (v w : B) → IsChosen size (λ a b x. Sent (Votes a b x)) v → IsChosen size (λ a b x. Sent (Votes a b x)) w → v ≡ w
  agreement v w (b, p, m, votes) (c, q, n, others) =
      ⊎_elim
      (λ (h : Below b c). chosen_below b c v w p q h m votes n others)
      (⊎_elim
      (λ (h : b ≡ c).
      let x = majority_member m in
      let y = majority_member n in
      s.one_batch b v w (s.vote_proposed x.0 b v (votes x.0 x.1)) (subst (λ d. Sent (Proposes d w)) (sym h) (s.vote_proposed y.0 c w (others y.0 y.1))))
      (λ (h : Below c b). sym (chosen_below c b w v q p h n others m votes)))
      (compare_ballots b c)

-- What a majority reports, and the batch that its highest vote names: with this a batch may be proposed.
pub record Backed {B : Type 0} (size : ℕ) (Sent : Said B → Type 0) (ballot : Ballot) (batch : B) : Type 0 where
  pub counted : List (Report B)
  pub own : B
  pub enough : IsMajority size (reporters counted)
  pub reported : AllByRecursion (λ (r : Report B). Sent (Reports r.from ballot r.vote)) counted
  pub picked : batch ≡ batch_or own (highest counted)

higher_left : {B : Type 0} (c : Ballot) (v w : Option (Vote B)) → VotedFrom c v → VotedFrom c (higher v w)
higher_left c None w h = absurd h
higher_left c (Some v) None h = h
higher_left c (Some v) (Some w) h = at_test (is_lt (ballot_cmp v.ballot w.ballot)) refl
  where
    at_test : (t : Bool) → is_lt (ballot_cmp v.ballot w.ballot) ≡ t → VotedFrom c (cond t (Some w) (Some v))
    at_test true e = at_most_trans h (at_most_of_below (below_from_test e))
    at_test false e = h

higher_right : {B : Type 0} (c : Ballot) (v w : Option (Vote B)) → VotedFrom c w → VotedFrom c (higher v w)
higher_right c None w h = h
higher_right c (Some v) None h = absurd h
higher_right c (Some v) (Some w) h = at_test (is_lt (ballot_cmp v.ballot w.ballot)) refl
  where
    at_test : (t : Bool) → is_lt (ballot_cmp v.ballot w.ballot) ≡ t → VotedFrom c (cond t (Some w) (Some v))
    at_test true e = h
    at_test false e = at_most_trans h (at_most_from_test e)

higher_is : {B : Type 0} (v w : Option (Vote B)) → (higher v w ≡ v) ⊎ (higher v w ≡ w)
higher_is None w = inr refl
higher_is (Some v) None = inl refl
higher_is (Some v) (Some w) = at_test (is_lt (ballot_cmp v.ballot w.ballot))
  where
    at_test : (t : Bool) → (cond t (Some w) (Some v) ≡ Some v) ⊎ (cond t (Some w) (Some v) ≡ Some w)
    at_test true = inr refl
    at_test false = inl refl

passed_from : (p : Option Ballot) (b c : Ballot) → Reaches p b → Below c b → Passed p c
passed_from None b c h k = h
passed_from (Some p) b c h k = below_at_most k h

open_not_passed : (p : Option Ballot) (b : Ballot) → Open p b → Passed p b → ⊥
open_not_passed None b h k = k
open_not_passed (Some p) b h k = below_itself (below_at_most k h)

open_not_above : (p : Option Ballot) (b c : Ballot) → Open p c → Reaches p b → Below c b → ⊥
open_not_above None b c h k m = k
open_not_above (Some p) b c h k m = below_itself (at_most_below (at_most_trans k h) m)

voted_at : {B : Type 0} (b : Ballot) (p : Option Ballot) (c : Ballot) (v : Option (Vote B)) → VotedFrom c v → ((u : Vote B) → v ≡ Some u → Reaches p u.ballot) → Open p b → AtMost c b
voted_at b p c None h up o = absurd h
voted_at b None c (Some u) h up o = absurd (up u refl)
voted_at b (Some p) c (Some u) h up o = at_most_trans h (at_most_trans (up u refl) o)

module _ {B : Type 0} (Sent : Said B → Type 0) (b : Ballot) where
  abbrev Reported : List (Report B) → Type 0
  Reported counted = AllByRecursion (λ (r : Report B). Sent (Reports r.from b r.vote)) counted

  -- each reporter's vote is no later than the highest
  up_to_highest : (counted : List (Report B)) → Reported counted → (a : ℕ) → IsIn a (reporters counted) → (r : Option (Vote B)) × Sent (Reports a b r) × ((c : Ballot) → VotedFrom c r → VotedFrom c (highest counted))
  up_to_highest [] all a h = absurd (true≢false (sym h))
  up_to_highest (r ∷ rs) all a h =
      ⊎_elim
      (λ (e : a ≡ r.from). (r.vote, subst (λ x. Sent (Reports x b r.vote)) (sym e) all.0, λ c k. higher_left c r.vote (highest rs) k))
      (λ (k : IsIn a (reporters rs)). let x = up_to_highest rs all.1 a k in (x.0, x.1, λ c m. higher_right c r.vote (highest rs) (x.2 c m)))
      (is_in_cases a r.from (reporters rs) h)

  highest_reported : (counted : List (Report B)) → Reported counted → (m : Vote B) → highest counted ≡ Some m → (a : ℕ) × Sent (Reports a b (Some m))
  highest_reported [] all m e = absurd (cc)
  highest_reported (r ∷ rs) all m e =
      ⊎_elim
      (λ (k : higher r.vote (highest rs) ≡ r.vote). (r.from, subst (λ x. Sent (Reports r.from b x)) (sym k ∙ e) all.0))
      (λ (k : higher r.vote (highest rs) ≡ highest rs). highest_reported rs all.1 m (sym k ∙ e))
      (higher_is r.vote (highest rs))

module _ {B : Type 0} {size : ℕ} {Sent : Said B → Type 0} {promise : ℕ → Option Ballot} {vote : ℕ → Option (Vote B)} (s : Sound size Sent promise vote) where
  pub backed_is_safe : (b : Ballot) (v : B) → Backed size Sent b v → IsSafe size Sent promise b v
  backed_is_safe b v k c below = at_highest (highest k.counted) refl
    where
      settled : ((w : B) (a : ℕ) → IsIn a (reporters k.counted) → Sent (Votes a c w) → w ≡ v) → (a : ℕ) → IsIn a (reporters k.counted) → Settled Sent promise c v a
      settled agrees a i =
          let x = up_to_highest Sent b k.counted k.reported a i in
          record { passed = passed_from (promise a) b c (s.promise_kept a b x.0 x.1) below; agrees = λ w cast. agrees w a i cast }

      later : (h : Option (Vote B)) → highest k.counted ≡ h → (w : B) (a : ℕ) → IsIn a (reporters k.counted) → Sent (Votes a c w) → VotedFrom c h
      later h e w a i cast =
          let x = up_to_highest Sent b k.counted k.reported a i in
          subst (VotedFrom c) e (x.2 c (s.report_latest a b c x.0 w x.1 cast below))

      at_highest : (h : Option (Vote B)) → highest k.counted ≡ h → (q : List ℕ) × IsMajority size q × ((a : ℕ) → IsIn a q → Settled Sent promise c v a)
      at_highest None e = (reporters k.counted, k.enough, settled (λ w a i cast. absurd (later None e w a i cast)))
      at_highest (Some m) e =
          let is : v ≡ m.batch = k.picked ∙ ap (batch_or k.own) e in
          let top = highest_reported Sent b k.counted k.reported m e in
          let proposed = s.vote_proposed top.0 m.ballot m.batch (s.report_cast top.0 b m top.1) in
          ⊎_elim
          (λ (h : Below c m.ballot). subst (λ x. (q : List ℕ) × IsMajority size q × ((a : ℕ) → IsIn a q → Settled Sent promise c x a)) (sym is) (s.safe m.ballot m.batch proposed c h))
          (⊎_elim
          (λ (h : c ≡ m.ballot). (reporters k.counted, k.enough, settled (λ w a i cast. s.one_batch c w m.batch (s.vote_proposed a c w cast) (subst (λ x. Sent (Proposes x m.batch)) (sym h) proposed) ∙ sym is)))
          (λ (h : Below m.ballot c). (reporters k.counted, k.enough, settled (λ w a i cast. absurd (below_itself (at_most_below (later (Some m) e w a i cast) h))))))
          (compare_ballots c m.ballot)

-- One step of whatever world the slot lives in. It is allowed where
pub record Allowed {B : Type 0} (size : ℕ) (Sent : Said B → Type 0) (promise : ℕ → Option Ballot) (vote : ℕ → Option (Vote B)) (Sent' : Said B → Type 0) (promise' : ℕ → Option Ballot) (vote' : ℕ → Option (Vote B)) : Type 0 where
  -- what was said stays said, and promises only grow;
  pub grows : (x : Said B) → Sent x → Sent' x
  pub promises : (a : ℕ) → Grows (promise a) (promise' a)
  -- a new report is a member's, is covered by its promise, and is of the vote kept before; its replica doesn't vote in the same step;
  pub reports : (a : ℕ) (b : Ballot) (r : Option (Vote B)) → Sent' (Reports a b r) → Sent (Reports a b r) ⊎ ((a < size) × Reaches (promise' a) b × (r ≡ vote a) × ((c : Ballot) (x : B) → Sent' (Votes a c x) → Sent (Votes a c x)))
  -- a new vote is a member's, for what was proposed, not below its promise, and is kept;
  pub votes : (a : ℕ) (b : Ballot) (x : B) → Sent' (Votes a b x) → Sent (Votes a b x) ⊎ ((a < size) × Open (promise a) b × Sent (Proposes b x) × VotedFrom b (vote' a))
  -- a vote kept anew was cast, not below the promise, and is promised;
  pub kept : (a : ℕ) → (vote' a ≡ vote a) ⊎ ((u : Vote B) × (vote' a ≡ Some u) × Open (promise a) u.ballot × Reaches (promise' a) u.ballot × Sent' (Votes a u.ballot u.batch))
  -- a new proposal is backed, and the one of its ballot.
  pub proposals : (b : Ballot) (x : B) → Sent' (Proposes b x) → Sent (Proposes b x) ⊎ (Backed size Sent b x × ((y : B) → Sent' (Proposes b y) → y ≡ x))

-- An allowed step keeps what holds.
module _ {B : Type 0} {size : ℕ} {Sent Sent' : Said B → Type 0} {promise promise' : ℕ → Option Ballot} {vote vote' : ℕ → Option (Vote B)} (s : Sound size Sent promise vote) (t : Allowed size Sent promise vote Sent' promise' vote') where
  safe_later : (b : Ballot) (v : B) → IsSafe size Sent promise b v → IsSafe size Sent' promise' b v
  safe_later b v safe c below =
      let x = safe c below in (
        x.0,
        x.1,
        λ a i. let y = x.2 a i in record {
          passed = (t.promises a).passed c y.passed;
          agrees = λ w cast. ⊎_elim (y.agrees w) (λ n. absurd (open_not_passed (promise a) c n.1 y.passed)) (t.votes a c w cast);
        },
      )

  pub allowed_keeps : Sound size Sent' promise' vote'
  allowed_keeps = record {
    voter = λ a b v h. ⊎_elim (s.voter a b v) (λ n. n.0) (t.votes a b v h);
    reporter = λ a b r h. ⊎_elim (s.reporter a b r) (λ n. n.0) (t.reports a b r h);
    promise_kept = λ a b r h. ⊎_elim (λ old. (t.promises a).reaches b (s.promise_kept a b r old)) (λ n. n.1) (t.reports a b r h);
    vote_kept = λ a b v h. ⊎_elim
        (λ old. ⊎_elim
        (λ e. subst (VotedFrom b) (sym e) (s.vote_kept a b v old))
        (λ n. subst (VotedFrom b) (sym n.1) (voted_at n.0.ballot (promise a) b (vote a) (s.vote_kept a b v old) (s.vote_promised a) n.2))
        (t.kept a))
        (λ n. n.3)
        (t.votes a b v h);
    vote_cast = λ a u h. ⊎_elim
        (λ e. t.grows _ (s.vote_cast a u (sym e ∙ h)))
        (λ n. subst (λ (x : Vote B). Sent' (Votes a x.ballot x.batch)) (same_Some _ _ (sym n.1 ∙ h)) n.4)
        (t.kept a);
    vote_promised = λ a u h. ⊎_elim
        (λ e. (t.promises a).reaches u.ballot (s.vote_promised a u (sym e ∙ h)))
        (λ n. subst (λ (x : Vote B). Reaches (promise' a) x.ballot) (same_Some _ _ (sym n.1 ∙ h)) n.3)
        (t.kept a);
    report_latest = λ a b c r v h k below. ⊎_elim
        (λ old. ⊎_elim
        (λ cast. s.report_latest a b c r v old cast below)
        (λ n. absurd (open_not_above (promise a) b c n.1 (s.promise_kept a b r old) below))
        (t.votes a c v k))
        (λ n. subst (VotedFrom c) (sym n.2) (s.vote_kept a c v (n.3 c v k)))
        (t.reports a b r h);
    report_cast = λ a b u h. ⊎_elim
        (λ old. t.grows _ (s.report_cast a b u old))
        (λ n. t.grows _ (s.vote_cast a u (sym n.2)))
        (t.reports a b (Some u) h);
    vote_proposed = λ a b v h. ⊎_elim (λ old. t.grows _ (s.vote_proposed a b v old)) (λ n. t.grows _ n.2) (t.votes a b v h);
    one_batch = λ b v w h k. ⊎_elim
        (λ old. ⊎_elim (λ old'. s.one_batch b v w old old') (λ n. n.1 v h) (t.proposals b w k))
        (λ n. sym (n.1 w k))
        (t.proposals b v h);
    safe = λ b v h. ⊎_elim (λ old. safe_later b v (s.safe b v old)) (λ n. safe_later b v (backed_is_safe s b v n.0)) (t.proposals b v h);
  }

-- Nothing was said yet.
pub sound_at_first : {B : Type 0} (size : ℕ) (Sent : Said B → Type 0) (promise : ℕ → Option Ballot) (vote : ℕ → Option (Vote B)) → ((x : Said B) → Sent x → ⊥) → ((a : ℕ) → vote a ≡ None) → Sound size Sent promise vote
sound_at_first size Sent promise vote none no_vote = record {
  voter = λ a b v h. absurd (none _ h);
  reporter = λ a b r h. absurd (none _ h);
  promise_kept = λ a b r h. absurd (none _ h);
  vote_kept = λ a b v h. absurd (none _ h);
  vote_cast = λ a u h. absurd (none-some u (sym (no_vote a) ∙ h));
  vote_promised = λ a u h. absurd (none-some u (sym (no_vote a) ∙ h));
  report_latest = λ a b c r v h k below. absurd (none _ h);
  report_cast = λ a b u h. absurd (none _ h);
  vote_proposed = λ a b v h. absurd (none _ h);
  one_batch = λ b v w h k. absurd (none _ h);
  safe = λ b v h. absurd (none _ h);
}
