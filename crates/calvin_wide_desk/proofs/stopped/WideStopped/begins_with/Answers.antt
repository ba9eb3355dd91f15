-- The whole of a mark's node stands at the node's number.
use Rattle.std.proofs.Common.{◌≡◌, ◌<◌, Some, slice_get, length, sym, ap, subst, ◌∙◌, arith}
use Rattle.std.proofs.Math.ListN.{get_or}
use Rattle.calvin_wide_desk.specs.Stopping.{HaveLived}
use Rattle.calvin_wide_desk.proofs.Going.{numbered_length, whole_at}
use Rattle.calvin_wide_desk.proofs.stopped.WideStopped.begins_with.Goals as goal

pub index-whole-requires : goal.index-whole-requires
index-whole-requires g c =
    let same = ap length c.self.invariant.0 ∙ numbered_length 0 c.self.inside.histories.items ∙ c.self.invariant.1 in
    let below = c.node.ensures.below in
    let counted = c.self.inside.wholes.ok in
    omega (arith, same, below, counted)

pub covers-requires-after_bounds : goal.covers-requires-after_bounds
covers-requires-after_bounds g c κs within =
    let whole = c.index-whole.result.now in
    let less : c.node.result < length c.self.inside.histories.items = subst (λ n. c.node.result < n) (sym c.self.invariant.1) c.node.ensures.below in
    sym c.node.ensures.is ∙ sym (whole_at c.self.inside.histories.items c.node.result whole less (c.index-whole.ensures ∙ ap (λ ws. get_or ws c.node.result whole) c.self.invariant.0)).0

pub returns-clause-lived : goal.returns-clause-lived
returns-clause-lived g c = subst (HaveLived g.A.App.meaning g.J.WideFounding.config) c.self.view_is c.self.invariant.2

pub returns-clause-begins : goal.returns-clause-begins
returns-clause-begins g c =
    let whole = c.index-whole.result.now in
    let less : c.node.result < length c.self.inside.histories.items = subst (λ n. c.node.result < n) (sym c.self.invariant.1) c.node.ensures.below in
    let at = whole_at c.self.inside.histories.items c.node.result whole less (c.index-whole.ensures ∙ ap (λ ws. get_or ws c.node.result whole) c.self.invariant.0) in
    let there : slice_get c.self.inside.histories.items c.args.mark.now.0 ≡ Some whole.1 = ap (slice_get c.self.inside.histories.items) (sym c.node.ensures.is) ∙ at.1 in
    (whole.1, ap (λ hs. slice_get hs c.args.mark.now.0) (sym c.self.view_is) ∙ there, c.covers.ensures)
