-- Entries whose keys rise, and the views that they are cut into.
use Rattle.std.proofs.Common.{◌≡◌, Bool, ℕ, zero, suc, ◌+◌, ◌-◌, ◌≤◌, true, List, [], ◌∷◌, ◌++◌, length, take, drop, add-one, Some, slice_get, refl, sym, ◌∙◌, ap, subst, arith, length-append}
use Rattle.std.specs.Prelude.{T}
use Rattle.std.proofs.lemmas.Option.{none-some, same_Some}
use Rattle.std.proofs.lemmas.List.{length-take, length-drop, drop-take, drop-append-le, take-append-le, take_all}
use Rattle.std.proofs.Math.Seq.{drop-append_seam}
use Rattle.std.specs.FinMap as map
use Rattle.std.specs.FinMap.Entries.{below_all, by_order}
use Rattle.std.specs.Ordering.{ordering_reverse}
use Rattle.std.specs.declared.cmp.Ordering.TheVariants.{Greater}
use Rattle.calvin_types.specs.declared.key.Key.{Key}
use Rattle.calvin_types.specs.Exact.{first, second, both}
use Rattle.calvin_types.specs.Keys.{key_cmp}
use Rattle.calvin_types.specs.KeyOrder.{key_cmp_total}
use Rattle.calvin_app.specs.Entries.{rising, shown}
use Rattle.calvin_app.specs.EntryLaws.{shown-put, len-shown}
use Rattle.calvin_view_list.specs.ViewLists.{begin, views_of, IsView, AreViews}
use Rattle.calvin_app.proofs.Ends.{holds, below_at}

stands : (b : Bool) → b ≡ true → T b
stands b h = subst T (sym h) tt

module _ {Row : Type 0} where
  below-take : (a : Key) (es : List (Key × Row)) (i : ℕ) → below_all key_cmp a es ≡ true → below_all key_cmp a (take i es) ≡ true
  below-take a es zero h = refl
  below-take a [] (suc i) h = refl
  below-take a (e ∷ es) (suc i) h = both _ _ (first _ _ h) (below-take a es i (second _ _ h))

  sorted-take : (es : List (Key × Row)) (i : ℕ) → map.is_sorted key_cmp es ≡ true → map.is_sorted key_cmp (take i es) ≡ true
  sorted-take es zero h = refl
  sorted-take [] (suc i) h = refl
  sorted-take (e ∷ es) (suc i) h = both _ _ (below-take e.0 es i (first _ _ h)) (sorted-take es i (second _ _ h))

  put-behind : (es : List (Key × Row)) (i : ℕ) (k : Key) (r : Row) → map.is_sorted key_cmp es ≡ true → slice_get es i ≡ Some (k, r) → map.put key_cmp k r (take i es) ≡ take (suc i) es
  put-behind [] i k r h here = absurd (none-some _ here)
  put-behind (e ∷ es) zero k r h here = ap (λ x. x ∷ []) (sym (same_Some e (k, r) here))
  put-behind (e ∷ es) (suc i) k r h here =
      let above : key_cmp k e.0 ≡ Greater = key_cmp_total.antisymm k e.0 ∙ ap ordering_reverse (below_at e.0 es i (k, r) (first _ _ h) here) in
      ap (λ o. by_order o ((k, r) ∷ e ∷ take i es) ((e.0, r) ∷ take i es) (e ∷ map.put key_cmp k r (take i es))) above
      ∙ ap (λ xs. e ∷ xs) (put-behind es i k r (second _ _ h) here)

  -- the view of one entry more
  pub shown-next : (es : List (Key × Row)) (i : ℕ) (k : Key) (r : Row) → rising es → slice_get es i ≡ Some (k, r) → map.insert (shown (take i es)) k r ≡ shown (take (i + 1) es)
  shown-next es i k r h here =
      sym (shown-put (take i es) k r (stands _ (sorted-take es i (holds _ h)))) ∙ ap shown (put-behind es i k r (holds _ h) here) ∙ ap (λ n. shown (take n es)) (sym (add-one i))

  -- so many keys have rows so far
  pub len-so-far : (es : List (Key × Row)) (i : ℕ) → rising es → i ≤ length es → map.len (shown (take i es)) ≡ i
  len-so-far es i h le = len-shown (take i es) (stands _ (sorted-take es i (holds _ h))) ∙ length-take i es ∙ omega (arith, le)

  -- so many views as ends
  pub length-views : (es : List (Key × Row)) (from : ℕ) (ends : List ℕ) → length (views_of es from ends) ≡ length ends
  length-views es from [] = refl
  length-views es from (e ∷ ends) = ap suc (length-views es e ends)

  -- what entries that come behind leave as it is, and where they stand
  piece-before : (es more : List (Key × Row)) (from end : ℕ) → from ≤ end → end ≤ length es → take (end - from) (drop from (es ++ more)) ≡ take (end - from) (drop from es)
  piece-before es more from end h within =
      let first_in : from ≤ length es = omega arith in
      let long : end - from ≤ length (drop from es) = omega (arith, length-drop from es) in
      ap (take (end - from)) (drop-append-le from es more first_in) ∙ take-append-le (end - from) (drop from es) more long

  piece-behind : (es more : List (Key × Row)) (from : ℕ) → length es ≡ from → take (length (es ++ more) - from) (drop from (es ++ more)) ≡ more
  piece-behind es more from h =
      let long : length more ≤ length (es ++ more) - from = omega (arith, length-append es more, h) in
      ap (take (length (es ++ more) - from)) (ap (λ n. drop n (es ++ more)) (sym h) ∙ drop-append_seam es more) ∙ take_all (length (es ++ more) - from) more long

  -- one view more, whose rows come behind those of the others
  pub views-push : (es more : List (Key × Row)) (from : ℕ) (ends : List ℕ) → AreViews es from ends → views_of (es ++ more) from (ends ++ length (es ++ more) ∷ []) ≡ views_of es from ends ++ shown more ∷ []
  views-push es more from [] h = ap (λ xs. shown xs ∷ []) (piece-behind es more from h)
  views-push es more from (e ∷ ends) h = λ i. shown (piece-before es more from e h.0.after h.0.within i) ∷ views-push es more e ends h.1 i

  IsView-before : (es more : List (Key × Row)) (from end : ℕ) → IsView es from end → IsView (es ++ more) from end
  IsView-before es more from end h = record {
    after = h.after;
    within = omega (arith, length-append es more, h.within);
    few = h.few;
    rises = subst rising (sym (piece-before es more from end h.after h.within)) h.rises;
  }

  IsView-behind : (es more : List (Key × Row)) (from : ℕ) → length es ≡ from → rising more → length more ≤ 16 → IsView (es ++ more) from (length (es ++ more))
  IsView-behind es more from h up few = record {
    after = omega (arith, length-append es more, h);
    within = omega arith;
    few = omega (arith, length-append es more, h);
    rises = subst rising (sym (piece-behind es more from h)) up;
  }

  pub AreViews-push : (es more : List (Key × Row)) (from : ℕ) (ends : List ℕ) → AreViews es from ends → rising more → length more ≤ 16 → AreViews (es ++ more) from (ends ++ length (es ++ more) ∷ [])
  AreViews-push es more from [] h up few = (IsView-behind es more from h up few, refl)
  AreViews-push es more from (e ∷ ends) h up few = (IsView-before es more from e h.0, AreViews-push es more e ends h.1 up few)

take-take_less : {X : Type 0} (n m : ℕ) (xs : List X) → n ≤ m → take n (take m xs) ≡ take n xs
take-take_less zero m xs h = refl
take-take_less (suc n) zero xs h = absurd (omega arith)
take-take_less (suc n) (suc m) [] h = refl
take-take_less (suc n) (suc m) (x ∷ xs) h = let less : n ≤ m = omega arith in ap (λ ys. x ∷ ys) (take-take_less n m xs less)

pub begin-next : (from : ℕ) (ends : List ℕ) (i e : ℕ) → slice_get ends i ≡ Some e → begin from ends (suc i) ≡ e
begin-next from [] i e here = absurd (none-some _ here)
begin-next from (x ∷ ends) zero e here = same_Some x e here
begin-next from (x ∷ ends) (suc i) e here = begin-next x ends i e here

module _ {Row : Type 0} (es : List (Key × Row)) where
  pub ends_within : (from : ℕ) (ends : List ℕ) → AreViews es from ends → from ≤ length es
  ends_within from [] h = omega (arith, h)
  ends_within from (e ∷ ends) h = omega (arith, h.0.after, h.0.within)

  pub begin-after : (from : ℕ) (ends : List ℕ) (i : ℕ) → AreViews es from ends → from ≤ begin from ends i
  begin-after from ends zero h = omega arith
  begin-after from [] (suc i) h = omega arith
  begin-after from (e ∷ ends) (suc i) h = omega (arith, h.0.after, begin-after e ends i h.1)

  pub begin-within : (from : ℕ) (ends : List ℕ) (i : ℕ) → AreViews es from ends → begin from ends i ≤ length es
  begin-within from ends zero h = ends_within from ends h
  begin-within from [] (suc i) h = ends_within from [] h
  begin-within from (e ∷ ends) (suc i) h = begin-within e ends i h.1

  pub view_at : (from : ℕ) (ends : List ℕ) (i e : ℕ) → AreViews es from ends → slice_get ends i ≡ Some e
      → (slice_get (views_of es from ends) i ≡ Some (shown (take (e - begin from ends i) (drop (begin from ends i) es)))) × IsView es (begin from ends i) e
  view_at from [] i e h here = absurd (none-some _ here)
  view_at from (x ∷ ends) zero e h here =
      (ap (λ n. Some (shown (take (n - from) (drop from es)))) (same_Some x e here), subst (IsView es from) (same_Some x e here) h.0)
  view_at from (x ∷ ends) (suc i) e h here = view_at x ends i e h.1 here

  -- a view before where the entries end is as it was
  take-before : (from e end : ℕ) → from ≤ e → e ≤ end → take (e - from) (drop from (take end es)) ≡ take (e - from) (drop from es)
  take-before from e end h le =
      let parts : end ≡ from + (end - from) = omega arith in
      let short : e - from ≤ end - from = omega arith in
      ap (λ n. take (e - from) (drop from (take n es))) parts ∙ ap (take (e - from)) (drop-take from (end - from) es) ∙ take-take_less (e - from) (end - from) (drop from es) short

  pub views-take : (from : ℕ) (ends : List ℕ) (n : ℕ) → AreViews es from ends → n ≤ length ends
      → (views_of (take (begin from ends n) es) from (take n ends) ≡ take n (views_of es from ends)) × AreViews (take (begin from ends n) es) from (take n ends)
  views-take from ends zero h le = (refl, length-take from es ∙ omega (arith, ends_within from ends h))
  views-take from [] (suc n) h le = absurd (omega arith)
  views-take from (e ∷ ends) (suc n) h le =
      let few : n ≤ length ends = omega arith in
      let rest = views-take e ends n h.1 few in
      let same = take-before from e (begin e ends n) h.0.after (begin-after e ends n h.1) in (
        (λ i. shown (same i) ∷ rest.0 i),
        (
          record {
            after = h.0.after;
            within = omega (arith, length-take (begin e ends n) es, begin-within e ends n h.1, begin-after e ends n h.1);
            few = h.0.few;
            rises = subst rising (sym same) h.0.rises;
          },
          rest.1,
        ),
      )
