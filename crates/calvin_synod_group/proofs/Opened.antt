-- New replicas are a group, at its opening.
use Rattle.std.proofs.Common.{◌≡◌, ℕ, zero, suc, ◌+◌, List, [], ◌∷◌, ◌++◌, map, replicate, arith, refl, sym, ap, ◌∙◌, subst, Some}
use Rattle.std.specs.Prelude.{slice_get}
use Rattle.std.specs.List.{range_with_len}
use Rattle.std.proofs.lemmas.List.FromFn.{map-range_with_len_more, length-map-range_with_len}
use Rattle.calvin_synod.specs.Cases.{fresh}
use Rattle.calvin_synod_group.specs.declared.packet.Packet.{Packet}
use Rattle.calvin_synod_group.specs.Groups.{GroupState, opening, IsReached}
use Rattle.calvin_synod.specs.Deeds.{MemberState}
use Rattle.calvin_synod_group.specs.Deeds.{IsGroup, group_of}

module _ {B : Type 0} (size : ℕ) where
  -- a new replica
  abbrev pub at_first : ℕ → MemberState B
  at_first me = record { size = size; me = me; replica = fresh }

  pub one_more_made : (n : ℕ) (made : MemberState B) (now after : List (MemberState B)) → now ≡ map at_first (range_with_len 0 n) → made ≡ at_first n → after ≡ now ++ made ∷ [] → after ≡ map at_first (range_with_len 0 (n + 1))
  one_more_made n made now after so_far new pushed = pushed ∙ (λ i. so_far i ++ new i ∷ []) ∙ sym (map-range_with_len_more at_first 0 n n (omega arith))

  each_new : (first n i : ℕ) (m : MemberState B) → slice_get (map at_first (range_with_len first n)) i ≡ Some m → (m.size ≡ size) × (m.me ≡ first + i)
  each_new first zero i m e = cc
  each_new first (suc n) zero m e = let own : at_first first ≡ m = cc in (ap (λ (x : MemberState B). x.size) (sym own), ap (λ (x : MemberState B). x.me) (sym own) ∙ omega arith)
  each_new first (suc n) (suc i) m e = let later = each_new (first + 1) n i m e in (later.0, later.1 ∙ omega arith)

  all_fresh : (first n : ℕ) → map (λ m. m.replica) (map at_first (range_with_len first n)) ≡ replicate n fresh
  all_fresh first zero = refl
  all_fresh first (suc n) = ap (λ xs. fresh ∷ xs) (all_fresh (first + 1) n)

  pub made_group : (members : List (MemberState B)) → members ≡ map at_first (range_with_len 0 size) → IsGroup size members
  made_group members e = subst (λ ms. IsGroup size ms) (sym e) (record {
    all_there = length-map-range_with_len at_first 0 size;
    each = λ i m there. let own = each_new 0 size i m there in (own.0, own.1 ∙ omega arith);
  })

  pub made_opening : (members : List (MemberState B)) (packets : List (Packet B)) → members ≡ map at_first (range_with_len 0 size) → packets ≡ [] → group_of members packets ≡ opening size
  made_opening members packets e p = λ i. record { replicas = (ap (λ ms. map (λ m. m.replica) ms) e ∙ all_fresh 0 size) i; packets = p i }

  pub opening_reached : (w : GroupState B) → w ≡ opening size → IsReached size w
  opening_reached w e = record { events = []; outcomes = []; led = e }
