-- One replica's step at one slot, in its three roles, and that such steps keep agreement.
use Rattle.std.proofs.Common.{◌≡◌, ◌≢◌, ℕ, ◌<◌, ◌≤◌, List, [], ◌∷◌, ◌⊎◌, inl, inr, ⊎_elim, refl, sym, ap, ◌∙◌, subst, arith, Option, Some}
use Rattle.std.specs.Prelude.{nat_eq}
use Rattle.std.specs.List.{IsDistinct, AllByRecursion}
use Rattle.std.proofs.lemmas.Bool.{cases_eq}
use Rattle.calvin_types.specs.declared.place.Ballot.{Ballot}
use Rattle.calvin_synod.specs.Quorums.{IsIn, IsChosen}
use Rattle.calvin_synod.specs.declared.vote.Vote.{Vote}
use Rattle.calvin_synod.specs.declared.attempt.Report.{Report}
use Rattle.calvin_synod.specs.declared.attempt.Attempt.{Attempt}
use Rattle.calvin_synod.specs.Roles.{reporters}
use Rattle.calvin_synod.proofs.Core.{Said, Reports, Proposes, Votes, Reaches, Open, VotedFrom, Grows, Sound, Backed, Allowed, allowed_keeps}

-- what a replica keeps for one slot, and the greatest round it used in any
pub record Seat (B : Type 0) : Type 0 where
  pub promise : Option Ballot
  pub vote : Option (Vote B)
  pub used : ℕ
  pub attempt : Option (Attempt B)
  pub voters : Ballot → List ℕ

-- what holds of a ballot under way at its replica
pub record Fair {B : Type 0} (size : ℕ) (Sent : Said B → Type 0) (me used : ℕ) (t : Attempt B) : Type 0 where
  pub owner : t.ballot.replica ≡ me
  pub within : t.ballot.round ≤ used
  pub distinct : IsDistinct nat_eq (reporters t.counted)
  pub members : (a : ℕ) → IsIn a (reporters t.counted) → a < size
  pub reported : AllByRecursion (λ (r : Report B). Sent (Reports r.from t.ballot r.vote)) t.counted
  pub unsent : (x : B) → Sent (Proposes t.ballot x) → ⊥

-- what holds of the votes that a replica counted
pub record Learned {B : Type 0} (Sent : Said B → Type 0) (voters : Ballot → List ℕ) : Type 0 where
  pub distinct : (b : Ballot) → IsDistinct nat_eq (voters b)
  pub cast : (b : Ballot) (a : ℕ) → IsIn a (voters b) → (x : B) × Sent (Votes a b x)

-- all that holds of a slot
pub record Holds {B : Type 0} (size : ℕ) (Sent : Said B → Type 0) (seats : ℕ → Seat B) : Type 0 where
  pub sound : Sound size Sent (λ a. (seats a).promise) (λ a. (seats a).vote)
  pub used_up : (b : Ballot) (x : B) → Sent (Proposes b x) → b.round ≤ (seats b.replica).used
  pub fair : (r : ℕ) (t : Attempt B) → (seats r).attempt ≡ Some t → Fair size Sent r (seats r).used t
  pub learned : (r : ℕ) → Learned Sent (seats r).voters

-- what of it concerns one replica's seat
pub record HoldsAt {B : Type 0} (size : ℕ) (Sent : Said B → Type 0) (me : ℕ) (seat : Seat B) : Type 0 where
  pub used_up : (b : Ballot) (x : B) → Sent (Proposes b x) → b.replica ≡ me → b.round ≤ seat.used
  pub fair : (t : Attempt B) → seat.attempt ≡ Some t → Fair size Sent me seat.used t
  pub learned : Learned Sent seat.voters

pub holds_at : {B : Type 0} {size : ℕ} {Sent : Said B → Type 0} {seats : ℕ → Seat B} → Holds size Sent seats → (me : ℕ) (seat : Seat B) → seats me ≡ seat → HoldsAt size Sent me seat
holds_at {size = size} {Sent = Sent} {seats = seats} h me seat is = subst (HoldsAt size Sent me) is (record {
  used_up = λ b x s e. subst (λ r. b.round ≤ (seats r).used) e (h.used_up b x s);
  fair = h.fair me;
  learned = h.learned me;
})

-- What a replica may do at a slot, going from one seat to the next, with new things said:
-- as an acceptor,
pub record AcceptorMoves {B : Type 0} (Sent New : Said B → Type 0) (me : ℕ) (old next : Seat B) : Type 0 where
  pub promises : Grows old.promise next.promise
  pub reports : (a : ℕ) (b : Ballot) (r : Option (Vote B)) → New (Reports a b r) → (a ≡ me) × Reaches next.promise b × (r ≡ old.vote) × ((c : Ballot) (x : B) → New (Votes a c x) → ⊥)
  pub votes : (a : ℕ) (b : Ballot) (x : B) → New (Votes a b x) → (a ≡ me) × Open old.promise b × Sent (Proposes b x) × VotedFrom b next.vote
  pub kept : (next.vote ≡ old.vote) ⊎ ((u : Vote B) × (next.vote ≡ Some u) × Open old.promise u.ballot × Reaches next.promise u.ballot × New (Votes me u.ballot u.batch))

-- as a proposer,
pub record ProposerMoves {B : Type 0} (size : ℕ) (Sent New : Said B → Type 0) (me : ℕ) (old next : Seat B) : Type 0 where
  pub used : old.used ≤ next.used
  pub proposals : (b : Ballot) (x : B) → New (Proposes b x) → (b.replica ≡ me) × (b.round ≤ old.used) × ((y : B) → Sent (Proposes b y) → ⊥) × Backed size Sent b x × ((y : B) → New (Proposes b y) → y ≡ x)
  pub fair : (t : Attempt B) → next.attempt ≡ Some t → Fair size Sent me next.used t × ((x : B) → New (Proposes t.ballot x) → ⊥)

-- and as a learner
abbrev pub LearnerMoves : {B : Type 0} → (Said B → Type 0) → Seat B → Type 0
LearnerMoves Sent next = Learned Sent next.voters

-- The step of replica me, while the others stay.
pub record Moves {B : Type 0} (size : ℕ) (Sent New Sent' : Said B → Type 0) (me : ℕ) (seats seats' : ℕ → Seat B) : Type 0 where
  pub member : me < size
  pub accepts : AcceptorMoves Sent New me (seats me) (seats' me)
  pub proposing : ProposerMoves size Sent New me (seats me) (seats' me)
  pub learning : LearnerMoves Sent (seats' me)
  pub grows : (x : Said B) → Sent x → Sent' x
  pub told : (x : Said B) → New x → Sent' x
  pub only : (x : Said B) → Sent' x → Sent x ⊎ New x
  pub others : (r : ℕ) → r ≢ me → seats' r ≡ seats r

all_more : {X : Type 0} {P Q : X → Type 0} → ((x : X) → P x → Q x) → (xs : List X) → AllByRecursion P xs → AllByRecursion Q xs
all_more up [] all = tt
all_more up (x ∷ xs) all = (up x all.0, all_more up xs all.1)

grows_itself : (p : Option Ballot) → Grows p p
grows_itself p = record { reaches = λ b h. h; passed = λ b h. h }

pub chosen_later : {B : Type 0} {size : ℕ} {Sent Sent' : Said B → Type 0} → ((x : Said B) → Sent x → Sent' x) → (v : B) → IsChosen size (λ a b y. Sent (Votes a b y)) v → IsChosen size (λ a b y. Sent' (Votes a b y)) v
chosen_later up v (b, q, m, cast) = (b, q, m, λ a i. up _ (cast a i))

learned_later : {B : Type 0} {Sent Sent' : Said B → Type 0} (voters : Ballot → List ℕ) → ((x : Said B) → Sent x → Sent' x) → Learned Sent voters → Learned Sent' voters
learned_later voters up l = record { distinct = l.distinct; cast = λ b a i. let c = l.cast b a i in (c.0, up _ c.1) }

module _ {B : Type 0} {size : ℕ} {Sent New Sent' : Said B → Type 0} {me : ℕ} {seats seats' : ℕ → Seat B} (h : Holds size Sent seats) (m : Moves size Sent New Sent' me seats seats') where
  is_me : (r : ℕ) → (r ≡ me) ⊎ (r ≢ me)
  is_me r = cases_eq r me

  -- what holds of the moved seat and of one that stays holds of each
  each_seat : (P : ℕ → Seat B → Seat B → Type 0) → P me (seats me) (seats' me) → ((r : ℕ) → r ≢ me → P r (seats r) (seats r)) → (r : ℕ) → P r (seats r) (seats' r)
  each_seat P mine others r =
      ⊎_elim
      (λ (e : r ≡ me). subst (λ x. P x (seats x) (seats' x)) (sym e) mine)
      (λ (apart : r ≢ me). subst (P r (seats r)) (sym (m.others r apart)) (others r apart))
      (is_me r)

  allowed : Allowed size Sent (λ a. (seats a).promise) (λ a. (seats a).vote) Sent' (λ a. (seats' a).promise) (λ a. (seats' a).vote)
  allowed = record {
    grows = m.grows;
    promises = each_seat (λ r o n. Grows o.promise n.promise) m.accepts.promises (λ r apart. grows_itself (seats r).promise);
    reports = λ a b r s. ⊎_elim inl
        (λ n. let x = m.accepts.reports a b r n in
        inr (subst (λ y. y < size) (sym x.0) m.member, subst (λ y. Reaches (seats' y).promise b) (sym x.0) x.1, x.2 ∙ ap (λ y. (seats y).vote) (sym x.0), λ c v k. ⊎_elim (λ old. old) (λ z. absurd (x.3 c v z)) (m.only _ k)))
        (m.only _ s);
    votes = λ a b v s. ⊎_elim inl
        (λ n. let x = m.accepts.votes a b v n in
        inr (subst (λ y. y < size) (sym x.0) m.member, subst (λ y. Open (seats y).promise b) (sym x.0) x.1, x.2, subst (λ y. VotedFrom b (seats' y).vote) (sym x.0) x.3))
        (m.only _ s);
    kept = each_seat (λ r o n. (n.vote ≡ o.vote) ⊎ ((u : Vote B) × (n.vote ≡ Some u) × Open o.promise u.ballot × Reaches n.promise u.ballot × Sent' (Votes r u.ballot u.batch)))
        (⊎_elim inl (λ n. inr (n.0, n.1, n.2, n.3, m.told _ n.4)) m.accepts.kept)
        (λ r apart. inl refl);
    proposals = λ b v s. ⊎_elim inl
        (λ n. let x = m.proposing.proposals b v n in inr (x.3, λ y k. ⊎_elim (λ old. absurd (x.2 y old)) (x.4 y) (m.only _ k)))
        (m.only _ s);
  }

  more_used : (r : ℕ) → (seats r).used ≤ (seats' r).used
  more_used = each_seat (λ r o n. o.used ≤ n.used) m.proposing.used (λ r apart. omega arith)

  still_fair : (r : ℕ) (t : Attempt B) (used : ℕ) → Fair size Sent r used t → ((x : B) → New (Proposes t.ballot x) → ⊥) → Fair size Sent' r used t
  still_fair r t used f fresh = record {
    owner = f.owner;
    within = f.within;
    distinct = f.distinct;
    members = f.members;
    reported = all_more (λ x k. m.grows _ k) t.counted f.reported;
    unsent = λ x k. ⊎_elim (f.unsent x) (fresh x) (m.only _ k);
  }

  pub moves_keep : Holds size Sent' seats'
  moves_keep = record {
    sound = allowed_keeps h.sound allowed;
    used_up = λ b x s. ⊎_elim
        (λ old. let u : b.round ≤ (seats b.replica).used = h.used_up b x old in let v = more_used b.replica in omega arith)
        (λ n. let y = m.proposing.proposals b x n in let u : b.round ≤ (seats b.replica).used = subst (λ z. b.round ≤ (seats z).used) (sym y.0) y.1 in let v = more_used b.replica in omega arith)
        (m.only _ s);
    fair = each_seat (λ r o n. (t : Attempt B) → n.attempt ≡ Some t → Fair size Sent' r n.used t)
        (λ t e. let f = m.proposing.fair t e in still_fair me t (seats' me).used f.0 f.1)
        (λ r apart t e. let f = h.fair r t e in still_fair r t (seats r).used f (λ x n. apart (sym f.owner ∙ (m.proposing.proposals t.ballot x n).0)));
    learned = each_seat (λ r o n. Learned Sent' n.voters)
        (learned_later _ m.grows m.learning)
        (λ r apart. learned_later _ m.grows (h.learned r));
  }
