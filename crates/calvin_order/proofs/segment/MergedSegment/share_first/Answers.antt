use Rattle.std.proofs.Common.{◌≡◌, ◌∷◌, drop, sym, ap, subst, ◌∙◌}
use Rattle.std.specs.List.{slice_get}
use Rattle.calvin_order.proofs.Segments.{first_left}
use Rattle.calvin_order.proofs.segment.MergedSegment.share_first.Goals as goal

pub returns-clause-first : goal.returns-clause-first
returns-clause-first g c =
    let s = c.self.inside in
    let found = ap (λ ts. slice_get ts s.given) (sym c.in_ok-requests.ensures) ∙ c.new.ensures in
    subst (λ v. v ≡ (s.place, c.new.result) ∷ drop 1 v) c.self.view_is (first_left s.place.epoch s.place.n s.given s.requests c.new.result found)
