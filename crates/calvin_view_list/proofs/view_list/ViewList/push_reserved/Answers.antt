use Rattle.std.proofs.Common.{◌≡◌, ◌+◌, ◌++◌, ◌≤◌, ◌<◌, [], ◌∷◌, length, take, sym, ap, ◌∙◌, arith, append_assoc}
use Rattle.std.proofs.lemmas.List.{take_all, take_more}
use Rattle.std.proofs.lemmas.Option.{get_or_from_slice_get}
use Rattle.std.specs.FinMap as map
use Rattle.calvin_view_list.specs.ViewLists.{views_of, AreViews}
use Rattle.calvin_view_list.proofs.Steps.{pushed}
use Rattle.calvin_view_list.proofs.view_list.ViewList.push_reserved.Given as given
use Rattle.calvin_view_list.proofs.view_list.ViewList.push_reserved.Goals as goal

pub loop-i-preserved : goal.loop-i-preserved
loop-i-preserved g c = record {
  items =
      let rows = map.entries c.args.view.now in
      let i = c.loop-i.i in
      let row = c.at.result in
      let lies : i < length rows = omega (arith, c.loop-i-test.true, c.len-i-end.ensures.len, map.len-entries c.args.view.now) in
      let more : take (i + 1) rows ≡ take i rows ++ row ∷ [] = take_more rows i row lies ∙ ap (λ r. take i rows ++ r ∷ []) (get_or_from_slice_get rows i row row c.at.ensures) in
      c.push_reserved.ensures.items ∙ ap (λ xs. xs ++ row ∷ []) c.loop-i.invariant.items ∙ append_assoc c.self.inside.entries.items (take i rows) (row ∷ []) ∙ ap (λ xs. c.self.inside.entries.items ++ xs) (sym more);
  len = omega (arith, c.push_reserved.ensures.len, c.loop-i.invariant.len);
  capacity = c.push_reserved.ensures.capacity ∙ c.loop-i.invariant.capacity;
  ends = c.loop-i.invariant.ends;
}

-- the rows of the view stand behind those of the others, and where they end behind the other ends
stands : (g : given.Over) (c : goal.After-push_reserved-2 g)
    → (views_of c.loop-i.self-inside.entries.items 0 c.push_reserved-2.new.self.items ≡ views_of c.self.inside.entries.items 0 c.self.inside.ends.items ++ c.args.view.now ∷ [])
    × AreViews c.loop-i.self-inside.entries.items 0 c.push_reserved-2.new.self.items
stands g c =
    let rows = map.entries c.args.view.now in
    let es = c.self.inside.entries.items in
    let all : length rows ≤ c.loop-i.i = omega (arith, c.loop-i-test.false, c.len-i-end.ensures.len, map.len-entries c.args.view.now) in
    let same = c.loop-i.invariant.items ∙ ap (λ xs. es ++ xs) (take_all c.loop-i.i rows all) in
    let end : c.len-end.result ≡ length c.loop-i.self-inside.entries.items = omega (arith, c.len-end.ensures, c.loop-i.self-inside.entries.ok) in
    pushed es c.self.inside.ends.items c.self.invariant c.loop-i.self-inside.entries.items c.args.view.now c.len-end.result c.push_reserved-2.new.self.items c.len-i-end.ensures.at_most same end (c.push_reserved-2.ensures.items ∙ ap (λ xs. xs ++ c.len-end.result ∷ []) c.loop-i.invariant.ends)

pub invariant_of-self : goal.invariant_of-self
invariant_of-self g c = (stands g c).1

pub returns-clause-views : goal.returns-clause-views
returns-clause-views g c = (stands g c).0 ∙ ap (λ v. v.views ++ c.args.view.now ∷ []) c.self.view_is
