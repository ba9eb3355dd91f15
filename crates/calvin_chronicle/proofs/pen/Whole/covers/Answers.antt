use Rattle.std.proofs.Common.{ap, subst, List, Option, ◌++◌, ◌∷◌, [], None, ◌∙◌}
use mathlib.Core.List.{IsPrefix}
use Rattle.calvin_chronicle.specs.Histories.{events_of, as_log}
use Rattle.calvin_chronicle.proofs.Prefixes.{covered}
use Rattle.calvin_chronicle.proofs.pen.Whole.covers.Goals as goal

pub returns : goal.returns
returns g c =
    let both = c.learn.new.self.log in
    let events = events_of c.self.inside.seen.log in
    let P : List (Option g.row.E.Denot) → Type 0 = λ l. IsPrefix l both in
    let whole : IsPrefix (as_log events ++ None ∷ []) both = subst P (ap (λ s. s.log) c.again-both.ensures ∙ c.self.invariant.1) c.learn.ensures.2 in
    rw (← c.self.view_is, ← c.mark.view_is) (covered events c.mark.inside.seen.log both whole c.learn.ensures.3 c.learn.ensures.4.1.legal)
