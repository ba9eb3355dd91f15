use Rattle.std.proofs.Common.{◌≡◌, ◌≤◌, length, ap, ◌∙◌, arith, take}
use Rattle.calvin_view_list.specs.ViewLists.{begin}
use Rattle.calvin_view_list.proofs.Cuts.{length-views}
use Rattle.calvin_view_list.proofs.Steps.{cut}
use Rattle.calvin_view_list.proofs.view_list.ViewList.truncate.Goals as goal

pub begin_of-end-requires : goal.begin_of-end-requires
begin_of-end-requires g c = omega (arith, c.requires, ap length c.as_slice.ensures.value, length-views c.self.inside.entries.items 0 c.self.inside.ends.items, ap (λ v. length v.views) c.self.view_is)

pub invariant_of-self : goal.invariant_of-self
invariant_of-self g c =
    let es = c.self.inside.entries.items in
    let ends = c.self.inside.ends.items in
    let le : c.args.views ≤ length ends = omega (arith, c.requires, length-views es 0 ends, ap (λ v. length v.views) c.self.view_is) in
    let begins : c.begin_of-end.result ≡ begin 0 ends c.args.views = c.begin_of-end.ensures ∙ ap (λ xs. begin 0 xs c.args.views) c.as_slice.ensures.value in
    (cut es ends c.self.invariant c.truncate-2.new.self.items c.args.views c.begin_of-end.result c.truncate.new.self.items le begins c.truncate-2.ensures.items c.truncate.ensures.items).1

pub returns-clause-views : goal.returns-clause-views
returns-clause-views g c =
    let es = c.self.inside.entries.items in
    let ends = c.self.inside.ends.items in
    let le : c.args.views ≤ length ends = omega (arith, c.requires, length-views es 0 ends, ap (λ v. length v.views) c.self.view_is) in
    let begins : c.begin_of-end.result ≡ begin 0 ends c.args.views = c.begin_of-end.ensures ∙ ap (λ xs. begin 0 xs c.args.views) c.as_slice.ensures.value in
    (cut es ends c.self.invariant c.truncate-2.new.self.items c.args.views c.begin_of-end.result c.truncate.new.self.items le begins c.truncate-2.ensures.items c.truncate.ensures.items).0
    ∙ ap (λ v. take c.args.views v.views) c.self.view_is
