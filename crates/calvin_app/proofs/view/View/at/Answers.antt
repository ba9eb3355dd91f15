use Rattle.std.proofs.Common.{slice_get, sym, ◌∙◌, ap, arith}
use Rattle.std.specs.FinMap as map
use Rattle.calvin_app.specs.EntryLaws.{len-shown, entries_kept}
use Rattle.calvin_app.proofs.view.View.at.Goals as goal

pub at-requires : goal.at-requires
at-requires g c = omega (arith, c.requires, len-shown c.self.inside.entries c.self.invariant, ap map.len c.self.view_is)

pub returns : goal.returns
returns g c =
    ap (λ m. slice_get (map.entries m) c.args.i) (sym c.self.view_is)
    ∙ ap (λ es. slice_get es c.args.i) (entries_kept c.self.inside.entries c.self.invariant)
    ∙ c.at.ensures
