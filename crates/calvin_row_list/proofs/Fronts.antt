-- Rising entries and those in front of a place.
use Rattle.std.proofs.Common.{◌≡◌, ℕ, ◌+◌, true, List, [], ◌∷◌, ◌++◌, take, drop, Some, slice_get, refl, sym, ◌∙◌, ap}
use Rattle.std.proofs.lemmas.List.{take-append-drop}
use Rattle.std.specs.Bool.{passes}
use Rattle.std.specs.FinMap as map
use Rattle.std.specs.FinMap.Entries.{below_all, by_order}
use Rattle.std.specs.Ordering.{ordering_reverse}
use Rattle.std.specs.declared.cmp.Ordering.TheVariants.{Less}
use Rattle.calvin_types.specs.declared.key.Key.{Key}
use Rattle.calvin_types.specs.Exact.{first, second, both}
use Rattle.calvin_types.specs.Keys.{key_cmp}
use Rattle.calvin_types.specs.KeyOrder.{key_cmp_total}
use Rattle.calvin_types.proofs.Fews.{take_at}
use Rattle.calvin_types.proofs.Risings.{less}
use Rattle.calvin_app.specs.Entries.{rising, shown}
use Rattle.calvin_app.specs.EntryLaws.{entries_kept, shown-put}
use Rattle.calvin_app.specs.Rows.{Rows}
use Rattle.calvin_app.proofs.Ends.{holds}

module _ {Row : Type 0} where
  -- the entries of a map show it
  pub shown-entries : (m : Rows Row) → shown (map.entries m) ≡ m
  shown-entries m = map.same_entries_map _ _ (entries_kept (map.entries m) (map.entries_sorted m))

  below_front : (a : Key) (es fs : List (Key × Row)) → below_all key_cmp a (es ++ fs) ≡ true → below_all key_cmp a es ≡ true
  below_front a [] fs h = refl
  below_front a (e ∷ es) fs h = both _ _ (first _ _ h) (below_front a es fs (second _ _ h))

  below_last : (a : Key) (es : List (Key × Row)) (e : Key × Row) → below_all key_cmp a (es ++ e ∷ []) ≡ true → key_cmp a e.0 ≡ Less
  below_last a [] e h = less _ (first _ _ h)
  below_last a (x ∷ es) e h = below_last a es e (second _ _ h)

  sorted_front : (es fs : List (Key × Row)) → map.is_sorted key_cmp (es ++ fs) ≡ true → map.is_sorted key_cmp es ≡ true
  sorted_front [] fs h = refl
  sorted_front (e ∷ es) fs h = both _ _ (below_front e.0 es fs (first _ _ h)) (sorted_front es fs (second _ _ h))

  -- an entry above all others is put at the end
  put_last : (es : List (Key × Row)) (k : Key) (r : Row) → map.is_sorted key_cmp (es ++ (k, r) ∷ []) ≡ true → map.put key_cmp k r es ≡ es ++ (k, r) ∷ []
  put_last [] k r h = refl
  put_last (e ∷ es) k r h =
      ap (λ o. by_order o ((k, r) ∷ e ∷ es) ((e.0, r) ∷ es) (e ∷ map.put key_cmp k r es)) (key_cmp_total.antisymm k e.0 ∙ ap ordering_reverse (below_last e.0 es (k, r) (first _ _ h)))
      ∙ ap (λ xs. e ∷ xs) (put_last es k r (second _ _ h))

  -- the entries in front of a place rise
  pub rising-take : (es : List (Key × Row)) (i : ℕ) → rising es → rising (take i es)
  rising-take es i h = passes _ (sorted_front (take i es) (drop i es) (ap (map.is_sorted key_cmp) (take-append-drop i es) ∙ holds _ h))

  -- and with the entry at that place they show one row more
  pub shown-next : (es : List (Key × Row)) (i : ℕ) (e : Key × Row) → rising es → slice_get es i ≡ Some e → map.insert (shown (take i es)) e.0 e.1 ≡ shown (take (i + 1) es)
  shown-next es i e h here =
      let next = take_at es i e here in
      sym (shown-put (take i es) e.0 e.1 (rising-take es i h))
      ∙ ap shown (put_last (take i es) e.0 e.1 (ap (map.is_sorted key_cmp) (sym next) ∙ holds _ (rising-take es (i + 1) h)) ∙ sym next)
