use Rattle.std.proofs.Common.{◌≡◌, ap, sym, subst, List, Option, ◌++◌, ◌∷◌, [], None, ◌∙◌}
use mathlib.Core.List.{IsPrefix}
use Rattle.calvin_chronicles.specs.Histories.{events_of, as_log, part_at}
use Rattle.calvin_chronicles.proofs.Prefixes.{covered}
use Rattle.calvin_chronicles.proofs.Parts.{part_at-prefix}
use Rattle.calvin_chronicles.proofs.pen.Whole.covers.Goals as goal

pub returns : goal.returns
returns g c =
    let both = c.learn.new.self.log in
    let node = c.self.inside.node in
    let marked = c.mark.inside.node in
    let events = events_of (part_at node c.self.inside.seen.log) in
    let all : IsPrefix (part_at node c.again-both.result.log) (part_at node both) = part_at-prefix node c.again-both.result.log both c.learn.ensures.2 in
    let P : List (Option g.row.E.Denot) → Type 0 = λ l. IsPrefix l (part_at node both) in
    let whole : IsPrefix (as_log events ++ None ∷ []) (part_at node both) = subst P (ap (λ s. part_at node s.log) c.again-both.ensures ∙ c.self.invariant.1) all in
    let same : marked ≡ node = ap (λ v. v.0) c.mark.view_is ∙ (c.requires ∙ sym (ap (λ v. v.0) c.self.view_is)) in
    let part : IsPrefix (part_at node c.mark.inside.seen.log) (part_at node both) = part_at-prefix node c.mark.inside.seen.log both c.learn.ensures.3 in
    let is : IsPrefix (events_of (part_at node c.mark.inside.seen.log)) events = covered events (part_at node c.mark.inside.seen.log) (part_at node both) whole part (c.learn.ensures.4.1.legal node) in
    rw (← c.self.view_is, ← c.mark.view_is, same) is
