-- The search for the first reply: a packet that is none is passed over, and so are packets of which none is.
--     drop_next, drop_all      lists from a number on
--     passed_over, found_there      one packet
--     first_joined, from_later      packets before others
use Rattle.std.proofs.Common.{◌≡◌, ℕ, zero, suc, ◌+◌, ◌<◌, ◌≤◌, inl, inr, true, false, List, [], ◌∷◌, ◌++◌, drop, take, length, max, Option, Some, None, refl, sym, ap, ◌∙◌, arith, slice_get}
use Rattle.std.specs.Prelude.{is_some}
use Rattle.std.specs.Option.{option_and_then}
use Rattle.std.proofs.Math.Nat.{max-eq_left, max-eq_right}
use Rattle.std.proofs.lemmas.Bool.{false≢true, cases_lt}
use Rattle.std.proofs.lemmas.List.{take-append-drop, drop-append-le, length-take-le}
use Rattle.calvin_types.specs.declared.place.Place.{Place}
use Rattle.calvin_types.specs.declared.place.RequestId.{RequestId}
use Rattle.calvin_app.specs.declared.answer.Answer.{Answer}
use Rattle.calvin_node_packets.specs.declared.packet.Packet.{Packet}
use Rattle.calvin_book.specs.Replies.{reply_in, or_later, first_reply}

module _ {X : Type 0} where
  pub drop_next : (xs : List X) (i : ℕ) (x : X) → slice_get xs i ≡ Some x → drop i xs ≡ x ∷ drop (suc i) xs
  drop_next [] i x h = absurd (cc)
  drop_next (a ∷ xs) zero x h = let e : a ≡ x = cc in ap (λ y. y ∷ xs) e
  drop_next (a ∷ xs) (suc i) x h = drop_next xs i x h

  pub drop_all : (xs : List X) → drop (length xs) xs ≡ []
  drop_all [] = refl
  drop_all (x ∷ xs) = drop_all xs

none_is : {X : Type 0} (o : Option X) → false ≡ is_some o → (later : Option X) → or_later o later ≡ later
none_is None e later = refl
none_is (Some r) e later = absurd (false≢true e)

some_is : {X : Type 0} (o : Option X) → true ≡ is_some o → (later : Option X) → or_later o later ≡ o
some_is None e later = absurd (false≢true (sym e))
some_is (Some r) e later = refl

module _ {Args Row Reply : Type 0} (id : RequestId) (attempt : ℕ) where
  passed : (ps : List (Packet Args Row Reply)) (i : ℕ) (o : Option (Place × Answer Reply)) → o ≡ option_and_then (λ p. reply_in id attempt p.content) (slice_get ps i) → false ≡ is_some o → first_reply id attempt (drop i ps) ≡ first_reply id attempt (drop (suc i) ps)
  passed [] zero o is none = refl
  passed [] (suc i) o is none = refl
  passed (p ∷ ps) zero o is none = ap (λ q. or_later q (first_reply id attempt ps)) (sym is) ∙ none_is o none (first_reply id attempt ps)
  passed (p ∷ ps) (suc i) o is none = passed ps i o is none

  -- a packet that is no reply to the request is passed over
  pub passed_over : (ps : List (Packet Args Row Reply)) (i : ℕ) (o : Option (Place × Answer Reply)) → o ≡ option_and_then (λ p. reply_in id attempt p.content) (slice_get ps i) → false ≡ is_some o → first_reply id attempt (drop i ps) ≡ first_reply id attempt (drop (i + 1) ps)
  passed_over ps i o is none = let next : suc i ≡ i + 1 = omega arith in passed ps i o is none ∙ ap (λ (k : ℕ). first_reply id attempt (drop k ps)) next

  -- the packet is a reply to the request: it is the first one from there on
  pub found_there : (ps : List (Packet Args Row Reply)) (i : ℕ) (o : Option (Place × Answer Reply)) → o ≡ option_and_then (λ p. reply_in id attempt p.content) (slice_get ps i) → true ≡ is_some o → first_reply id attempt (drop i ps) ≡ o
  found_there [] zero o is some = absurd (false≢true (sym (some ∙ ap is_some is)))
  found_there [] (suc i) o is some = absurd (false≢true (sym (some ∙ ap is_some is)))
  found_there (p ∷ ps) zero o is some = ap (λ q. or_later q (first_reply id attempt ps)) (sym is) ∙ some_is o some (first_reply id attempt ps)
  found_there (p ∷ ps) (suc i) o is some = found_there ps i o is some

  -- the reply among both is that among the first ones, or else that among the others
  pub first_joined : (ps qs : List (Packet Args Row Reply)) → first_reply id attempt (ps ++ qs) ≡ or_later (first_reply id attempt ps) (first_reply id attempt qs)
  first_joined [] qs = refl
  first_joined (p ∷ ps) qs = go (reply_in id attempt p.content) (first_joined ps qs)
    where
      go : (o : Option (Place × Answer Reply)) → first_reply id attempt (ps ++ qs) ≡ or_later (first_reply id attempt ps) (first_reply id attempt qs)
          → or_later o (first_reply id attempt (ps ++ qs)) ≡ or_later (or_later o (first_reply id attempt ps)) (first_reply id attempt qs)
      go (Some r) rest = refl
      go None rest = rest

  -- where there is none from n to k, it is that from the greater of the two on
  pub from_later : (ps : List (Packet Args Row Reply)) (n k : ℕ) → k ≤ length ps → first_reply id attempt (drop n (take k ps)) ≡ None → first_reply id attempt (drop (max k n) ps) ≡ first_reply id attempt (drop n ps)
  from_later ps n k high none = elim (cases_lt k n) [
    | inl less ↦ ap (λ j. first_reply id attempt (drop j ps)) (max-eq_right (let h = less in omega (arith, h)))
    | inr upto ↦
        ap (λ j. first_reply id attempt (drop j ps)) (max-eq_left upto)
        ∙ ap (λ o. or_later o (first_reply id attempt (drop k ps))) (sym none)
        ∙ sym (first_joined (drop n (take k ps)) (drop k ps))
        ∙ ap (first_reply id attempt) (
        sym (drop-append-le n (take k ps) (drop k ps) (let h = length-take-le k ps high in omega (arith, h, upto)))
        ∙ ap (drop n) (take-append-drop k ps)
        )
  ]
