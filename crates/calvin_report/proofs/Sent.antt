-- What was replied at a place, and what was sent.
use Rattle.std.proofs.Common.{◌≡◌, ℕ, Bool, true, false, cond, List, [], ◌∷◌, ◌++◌, inl, inr, refl, sym, ap, subst, ◌∙◌, Some, None}
use Rattle.std.specs.List.{flat_map, Contains}
use Rattle.std.specs.Ordering.{eq_by_cmp}
use Rattle.std.specs.FinMap.Entries.{find}
use Rattle.std.proofs.lemmas.Option.{none-some}
use Rattle.calvin_types.specs.declared.place.Place.{Place}
use Rattle.calvin_types.specs.declared.place.RequestId.{RequestId}
use Rattle.calvin_types.specs.Places.{place_cmp}
use Rattle.calvin_types.proofs.PlaceOrder.{one_place, same_itself}
use Rattle.calvin_app.specs.declared.answer.Answer.{Answer}
use Rattle.calvin_bench.proofs.Lists.{none_in, first_in, first_or_rest, rest_too}
use Rattle.calvin_node_packets.specs.declared.packet.Packet.{Packet}
use Rattle.calvin_node_packets.specs.declared.packet.Content.{Content}
use Rattle.calvin_node_packets.specs.declared.packet.Content.TheVariants as content
use Rattle.calvin_report.specs.Replies.{ByPlace, reply_in}

module _ {X : Type 0} where
  none_later : (xs ys : List (Place × X)) (q : Place) → find place_cmp q (xs ++ ys) ≡ None → find place_cmp q ys ≡ None
  none_later [] ys q none = none
  none_later (e ∷ xs) ys q none =
      elim (eq_by_cmp place_cmp q e.0) as (λ b. cond b (Some e.1) (find place_cmp q (xs ++ ys)) ≡ None → find place_cmp q ys ≡ None) [
        | true ↦ λ h. absurd (none-some e.1 (sym h))
        | false ↦ λ h. none_later xs ys q h
      ] none

module _ {Args Row Reply : Type 0} where
  abbrev pub told : List (Packet Args Row Reply) → ByPlace Reply
  told packets = flat_map (λ (p : Packet Args Row Reply). reply_in p.content) packets

  -- what is found at a place was sent
  abbrev IsSent : List (Packet Args Row Reply) → Place → RequestId × Answer Reply → Type 0
  IsSent packets q x = (p : Packet Args Row Reply) × Contains packets p × (attempt : ℕ) × (p.content ≡ content.Replies q x.0 attempt x.1)

  pub found_sent : (packets : List (Packet Args Row Reply)) (q : Place) (x : RequestId × Answer Reply) → find place_cmp q (told packets) ≡ Some x → IsSent packets q x
  found_sent [] q x is = absurd (none-some x is)
  found_sent (p ∷ ps) q x is = go p.content refl is (λ h. let s = found_sent ps q x h in (s.0, rest_too p ps s.0 s.1, s.2, s.3))
    where
      at_head : (r : Place) (id : RequestId) (attempt : ℕ) (answer : Answer Reply) → p.content ≡ content.Replies r id attempt answer
          → (b : Bool) → eq_by_cmp place_cmp q r ≡ b → cond b (Some (id, answer)) (find place_cmp q (told ps)) ≡ Some x → (find place_cmp q (told ps) ≡ Some x → IsSent (p ∷ ps) q x) → IsSent (p ∷ ps) q x
      at_head r id attempt answer says true same h later =
          let here : q ≡ r = one_place q r same in
          let both : (id, answer) ≡ x = cc in
          (p, first_in p ps, attempt, says ∙ (λ i. content.Replies (sym here i) ((both i).0) attempt ((both i).1)))
      at_head r id attempt answer says false same h later = later h

      go : (c : Content Args Row Reply) → p.content ≡ c → find place_cmp q (reply_in c ++ told ps) ≡ Some x → (find place_cmp q (told ps) ≡ Some x → IsSent (p ∷ ps) q x) → IsSent (p ∷ ps) q x
      go (content.Synod message) says h later = later h
      go (content.Decided slot batch) says h later = later h
      go (content.AskBatch slot) says h later = later h
      go (content.Reads r rows) says h later = later h
      go (content.AskReads r) says h later = later h
      go (content.Warm sets) says h later = later h
      go (content.Replies r id attempt answer) says h later = at_head r id attempt answer says (eq_by_cmp place_cmp q r) refl h later

  -- at a place at which nothing is found no reply was sent
  pub none_sent : (packets : List (Packet Args Row Reply)) (q : Place) → find place_cmp q (told packets) ≡ None
      → (p : Packet Args Row Reply) → Contains packets p → (id : RequestId) (attempt : ℕ) (answer : Answer Reply) → p.content ≡ content.Replies q id attempt answer → ⊥
  none_sent [] q none p c id attempt answer says = none_in p c
  none_sent (r ∷ rs) q none p c id attempt answer says = elim (first_or_rest r rs p c) [
    | inl is ↦ none-some (id, answer) (
        sym (subst (λ (c : Content Args Row Reply). find place_cmp q (reply_in c ++ told rs) ≡ None) (ap (λ (z : Packet Args Row Reply). z.content) is ∙ says) none)
        ∙ ap (λ b. cond b (Some (id, answer)) (find place_cmp q (told rs))) (same_itself q))
    | inr more ↦ none_sent rs q (none_later (reply_in r.content) (told rs) q none) p more id attempt answer says
  ]
