-- What the steps of the code find, push and cut.
use Rattle.std.proofs.Common.{◌≡◌, ℕ, zero, suc, ◌-◌, ◌≤◌, ◌<◌, List, [], ◌∷◌, ◌++◌, length, take, drop, get_or, slice_get, Some, refl, sym, ap, subst, ◌∙◌, arith}
use Rattle.std.proofs.lemmas.Option.{slice_get-get_or, slice_get_read}
use Rattle.std.specs.FinMap as map
use Rattle.calvin_types.specs.declared.key.Key.{Key}
use Rattle.calvin_app.specs.Entries.{rising, shown}
use Rattle.calvin_app.specs.EntryLaws.{entries_kept}
use Rattle.calvin_app.specs.Rows.{Rows}
use Rattle.calvin_view_list.specs.ViewLists.{begin, views_of, AreViews}
use Rattle.calvin_view_list.proofs.Cuts.{length-views, begin-next, view_at, views-push, AreViews-push, views-take}

-- a view begins where the one before it ends
pub begin-before : (ends : List ℕ) (n : ℕ) → 0 < n → n ≤ length ends → get_or ends (n - 1) 0 ≡ begin 0 ends n
begin-before ends zero h le = absurd (omega arith)
begin-before ends (suc i) h le =
    let here : i < length ends = omega arith in
    let back : suc i - 1 ≡ i = omega arith in
    ap (λ k. get_or ends k 0) back ∙ sym (begin-next 0 ends i (get_or ends i 0) (slice_get-get_or ends i 0 here))

module _ {Row : Type 0} (es : List (Key × Row)) (ends : List ℕ) (kept : AreViews es 0 ends) where
  -- where the code finds a view of these: there its entries stand
  pub record IsFound (xs : List (Key × Row)) (views : List (Rows Row)) (number from end : ℕ) : Type 0 where
    pub is : slice_get views number ≡ Some (shown (take (end - from) (drop from xs)))
    pub up_to : from ≤ end
    pub within : end ≤ length xs
    pub rises : rising (take (end - from) (drop from xs))
    pub few : end - from ≤ 16

  pub found : (read : List ℕ) (xs : List (Key × Row)) (views : List (Rows Row)) (number from end : ℕ) → read ≡ ends → xs ≡ es → views_of es 0 ends ≡ views → number < length views
      → from ≡ begin 0 read number → end ≡ get_or ends number end → IsFound xs views number from end
  found read xs views number from end same_ends same are h begins is =
      let lies : number < length ends = omega (arith, length-views es 0 ends, ap length are) in
      let ends_there : slice_get ends number ≡ Some end = slice_get_read ends (length ends) number end refl lies is in
      let there = view_at es 0 ends number end kept ends_there in
      subst (λ vs. IsFound xs vs number from end) are (subst (λ ys. IsFound ys (views_of es 0 ends) number from end) (sym same)
      (subst (λ k. IsFound es (views_of es 0 ends) number k end) (sym (begins ∙ ap (λ ns. begin 0 ns number) same_ends)) (record {
        is = there.0;
        up_to = there.1.after;
        within = there.1.within;
        rises = there.1.rises;
        few = omega (arith, there.1.few);
      })))

  -- the rows of one view more are pushed, and then where they end
  pub pushed : (xs : List (Key × Row)) (more : Rows Row) (end : ℕ) (new : List ℕ) → map.len more ≤ 16 → xs ≡ es ++ map.entries more → end ≡ length xs → new ≡ ends ++ end ∷ []
      → (views_of xs 0 new ≡ views_of es 0 ends ++ more ∷ []) × AreViews xs 0 new
  pushed xs more end new few same ends_there grown =
      let rows = map.entries more in
      let up : rising rows = map.entries_sorted more in
      let rows_few : length rows ≤ 16 = omega (arith, few, map.len-entries more) in
      let is : shown rows ≡ more = map.same_entries_map _ _ (entries_kept rows up) in
      let all : new ≡ ends ++ length (es ++ rows) ∷ [] = grown ∙ ap (λ k. ends ++ k ∷ []) (ends_there ∙ ap length same) in
      subst (λ ns. (views_of xs 0 ns ≡ views_of es 0 ends ++ more ∷ []) × AreViews xs 0 ns) (sym all)
      (subst (λ ys. (views_of ys 0 (ends ++ length (es ++ rows) ∷ []) ≡ views_of es 0 ends ++ more ∷ []) × AreViews ys 0 (ends ++ length (es ++ rows) ∷ [])) (sym same)
      (views-push es rows 0 ends kept ∙ ap (λ v. views_of es 0 ends ++ v ∷ []) is, AreViews-push es rows 0 ends kept up rows_few))

  -- the ends of the views after the first so many are cut off, and then their rows
  pub cut : (xs : List (Key × Row)) (number end : ℕ) (new : List ℕ) → number ≤ length ends → end ≡ begin 0 ends number → xs ≡ take end es → new ≡ take number ends
      → (views_of xs 0 new ≡ take number (views_of es 0 ends)) × AreViews xs 0 new
  cut xs number end new le begins same fewer =
      subst (λ ns. (views_of xs 0 ns ≡ take number (views_of es 0 ends)) × AreViews xs 0 ns) (sym fewer)
      (subst (λ ys. (views_of ys 0 (take number ends) ≡ take number (views_of es 0 ends)) × AreViews ys 0 (take number ends)) (sym (same ∙ ap (λ k. take k es) begins))
      (views-take es 0 ends number kept le))
