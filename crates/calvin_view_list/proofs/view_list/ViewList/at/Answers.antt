use Rattle.std.proofs.Common.{rules, length, sym, ap, ◌∙◌, arith, Some}
use Rattle.std.proofs.lemmas.List.{length-take}
use Rattle.calvin_types.specs.declared.key.Key.{Key}
use Rattle.calvin_view_list.proofs.Cuts.{length-views}
use Rattle.calvin_view_list.proofs.Steps.{found}
use Rattle.calvin_view_list.proofs.view_list.ViewList.at.Goals as goal

pub begin_of-from-requires : goal.begin_of-from-requires
begin_of-from-requires g c = omega (arith, c.requires, ap length c.as_slice.ensures.value, length-views c.self.inside.entries.items 0 c.self.inside.ends.items, ap (λ v. length v.views) c.self.view_is)

pub index-end-requires : goal.index-end-requires
index-end-requires g c = omega (arith, c.requires, c.self.inside.ends.ok, length-views c.self.inside.entries.items 0 c.self.inside.ends.items, ap (λ v. length v.views) c.self.view_is)

pub offset_bounds-as_slice-from : goal.offset_bounds-as_slice-from
offset_bounds-as_slice-from g c =
    let there = found _ _ c.self.invariant _ _ _ _ _ _ c.as_slice.ensures.value c.as_slice-2.ensures.value (ap (λ v. v.views) c.self.view_is) c.requires c.begin_of-from.ensures c.index-end.ensures in
    omega (arith, there.up_to, there.within)

pub slice_bounds-put_all-count : goal.slice_bounds-put_all-count
slice_bounds-put_all-count g c = (found _ _ c.self.invariant _ _ _ _ _ _ c.as_slice.ensures.value c.as_slice-2.ensures.value (ap (λ v. v.views) c.self.view_is) c.requires c.begin_of-from.ensures c.index-end.ensures).up_to

pub slice_bounds-put_all-start : goal.slice_bounds-put_all-start
slice_bounds-put_all-start g c =
    let there = found _ _ c.self.invariant _ _ _ _ _ _ c.as_slice.ensures.value c.as_slice-2.ensures.value (ap (λ v. v.views) c.self.view_is) c.requires c.begin_of-from.ensures c.index-end.ensures in
    search (rules, there.up_to)

pub slice_bounds-put_all-end : goal.slice_bounds-put_all-end
slice_bounds-put_all-end g c =
    let there = found _ _ c.self.invariant _ _ _ _ _ _ c.as_slice.ensures.value c.as_slice-2.ensures.value (ap (λ v. v.views) c.self.view_is) c.requires c.begin_of-from.ensures c.index-end.ensures in
    search (rules, there.within)

pub put_all-requires : goal.put_all-requires
put_all-requires g c =
    let there = found _ _ c.self.invariant _ _ _ _ _ _ c.as_slice.ensures.value c.as_slice-2.ensures.value (ap (λ v. v.views) c.self.view_is) c.requires c.begin_of-from.ensures c.index-end.ensures in
    (search rules, (c.new-view.ensures, (there.rises, omega (arith, there.few, length-take {A = Key × g.row.Row.Denot}))))

pub returns : goal.returns
returns g c =
    let there = found _ _ c.self.invariant _ _ _ _ _ _ c.as_slice.ensures.value c.as_slice-2.ensures.value (ap (λ v. v.views) c.self.view_is) c.requires c.begin_of-from.ensures c.index-end.ensures in
    there.is ∙ ap Some (sym c.put_all.ensures)
