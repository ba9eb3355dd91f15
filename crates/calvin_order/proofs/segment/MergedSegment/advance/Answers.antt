use Rattle.std.proofs.Common.{◌<◌, drop, length, refl, sym, ap, subst, ◌∙◌}
use Rattle.calvin_order.proofs.Segments.{some_left, without_first, none_after}
use Rattle.calvin_order.proofs.segment.MergedSegment.advance.Goals as goal

pub returns-then-self-size-clause-some : goal.returns-then-self-size-clause-some
returns-then-self-size-clause-some g c =
    let s = c.self.inside in
    subst (λ v. 0 < length v) c.self.view_is (some_left s.place.epoch s.place.n s.given s.requests c.self.invariant.0)

pub returns-then-self-size-clause-rest : goal.returns-then-self-size-clause-rest
returns-then-self-size-clause-rest g c =
    let s = c.self.inside in
    (ap (drop 1) (sym c.self.view_is) ∙ none_after s.place.epoch s.place.n s.given s.requests (c.if-self-size.true ∙ ap length c.as_slice-size.ensures), refl)

pub returns-clause-some : goal.returns-clause-some
returns-clause-some g c =
    let s = c.self.inside in
    subst (λ v. 0 < length v) c.self.view_is (some_left s.place.epoch s.place.n s.given s.requests c.self.invariant.0)

pub returns-clause-rest : goal.returns-clause-rest
returns-clause-rest g c =
    let s = c.self.inside in
    sym (ap (drop 1) (sym c.self.view_is) ∙ without_first s.place.epoch s.place.n s.given s.requests)
