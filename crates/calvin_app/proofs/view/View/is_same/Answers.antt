-- Both have the same entries.
use Rattle.std.proofs.Common.{◌≡◌, sym, ap, ◌∙◌}
use Rattle.std.specs.FinMap as map
use Rattle.calvin_app.specs.EntryLaws.{entries_kept}
use Rattle.calvin_app.proofs.view.View.is_same.Goals as goal

pub returns : goal.returns
returns g c =
    let mine : map.entries c.args.self.now ≡ c.self.inside.entries = ap map.entries (sym c.self.view_is) ∙ entries_kept c.self.inside.entries c.self.invariant in
    let theirs : map.entries c.args.other.now ≡ c.other.inside.entries = ap map.entries (sym c.other.view_is) ∙ entries_kept c.other.inside.entries c.other.invariant in
    rw (mine, theirs) c.eq.ensures
