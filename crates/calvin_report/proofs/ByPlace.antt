-- What is found in entries by places, and the entries of a map of them when one more comes.
use Rattle.std.proofs.Common.{◌≡◌, Bool, true, false, cond, List, [], ◌∷◌, ◌++◌, refl, sym, ap, ◌∙◌, Option, Some, None}
use Rattle.std.specs.Ordering.{eq_by_cmp}
use Rattle.std.specs.FinMap.{entries, from_entries, get-entries, get-from_entries, entries-insert, from_entries_push, same_map}
use Rattle.std.specs.FinMap.Entries.{find, put}
use Rattle.std.specs.Option.{is_some}
use Rattle.std.proofs.lemmas.Bool.{false≢true}
use Rattle.calvin_types.specs.declared.place.Place.{Place}
use Rattle.calvin_types.specs.Places.{place_cmp}
use Rattle.calvin_types.proofs.PlaceOrder.{place_total, place_exact, one_place}
use Rattle.calvin_report.specs.FirstPut.{put_first}

module _ {X : Type 0} where
  other_find : (q k : Place) (v : X) → eq_by_cmp place_cmp q k ≡ false → (es : List (Place × X)) → find place_cmp q (es ++ (k, v) ∷ []) ≡ find place_cmp q es
  other_find q k v apart [] = ap (λ b. cond b (Some v) None) apart
  other_find q k v apart (e ∷ es) = ap (cond (eq_by_cmp place_cmp q e.0) (Some e.1)) (other_find q k v apart es)

  found_find : (q k : Place) (v : X) (es : List (Place × X)) → is_some (find place_cmp q es) ≡ true → find place_cmp q (es ++ (k, v) ∷ []) ≡ find place_cmp q es
  found_find q k v [] there = absurd (false≢true there)
  found_find q k v (e ∷ es) there =
      elim (eq_by_cmp place_cmp q e.0) as (λ b. is_some (cond b (Some e.1) (find place_cmp q es)) ≡ true → cond b (Some e.1) (find place_cmp q (es ++ (k, v) ∷ [])) ≡ cond b (Some e.1) (find place_cmp q es)) [
        | true ↦ λ h. refl
        | false ↦ λ h. found_find q k v es h
      ] there

  same_find : (q : Place) (es : List (Place × X)) (k : Place) (v : X) → is_some (find place_cmp k es) ≡ true → find place_cmp q (es ++ (k, v) ∷ []) ≡ find place_cmp q es
  same_find q es k v there = go (eq_by_cmp place_cmp q k) refl
    where
      go : (b : Bool) → eq_by_cmp place_cmp q k ≡ b → find place_cmp q (es ++ (k, v) ∷ []) ≡ find place_cmp q es
      go true is = found_find q k v es (ap (λ p. is_some (find place_cmp p es)) (one_place q k is) ∙ there)
      go false is = other_find q k v is es

  pub find_entries : (es : List (Place × X)) (q : Place) → find place_cmp q (entries (from_entries {R = place_cmp} es)) ≡ find place_cmp q es
  find_entries es q = sym (get-entries (from_entries {R = place_cmp} es) q) ∙ get-from_entries place_total es q

  -- of several values at a place the first one counts
  pub first_kept : (es : List (Place × X)) (k : Place) (v : X) → entries (from_entries {R = place_cmp} (es ++ (k, v) ∷ [])) ≡ put_first k v (entries (from_entries {R = place_cmp} es))
  first_kept es k v = go (find place_cmp k es) refl
    where
      now : List (Place × X)
      now = entries (from_entries {R = place_cmp} es)

      go : (o : Option X) → find place_cmp k es ≡ o → entries (from_entries {R = place_cmp} (es ++ (k, v) ∷ [])) ≡ cond (is_some (find place_cmp k (entries (from_entries {R = place_cmp} es)))) (entries (from_entries {R = place_cmp} es)) (put place_cmp k v (entries (from_entries {R = place_cmp} es)))
      go None is = ap entries (from_entries_push place_total place_exact es k v is) ∙ entries-insert place_total (from_entries es) k v
          ∙ sym (ap (λ (o : Option X). cond (is_some o) (entries (from_entries {R = place_cmp} es)) (put place_cmp k v (entries (from_entries {R = place_cmp} es)))) (find_entries es k ∙ is))
      go (Some x) is = ap entries (same_map place_total place_exact (from_entries {R = place_cmp} (es ++ (k, v) ∷ [])) (from_entries es) (λ q. get-from_entries place_total (es ++ (k, v) ∷ []) q ∙ same_find q es k v (ap is_some is) ∙ sym (get-from_entries place_total es q)))
          ∙ sym (ap (λ (o : Option X). cond (is_some o) (entries (from_entries {R = place_cmp} es)) (put place_cmp k v (entries (from_entries {R = place_cmp} es)))) (find_entries es k ∙ is))
