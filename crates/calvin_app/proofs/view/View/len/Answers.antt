use Rattle.std.proofs.Common.{sym, ◌∙◌, ap, arith}
use Rattle.std.specs.FinMap as map
use Rattle.calvin_app.specs.EntryLaws.{len-shown}
use Rattle.calvin_app.proofs.view.View.len.Goals as goal

pub returns-clause-len : goal.returns-clause-len
returns-clause-len g c = c.len.ensures.len ∙ sym (len-shown c.self.inside.entries c.self.invariant) ∙ ap map.len c.self.view_is

pub returns-clause-at_most : goal.returns-clause-at_most
returns-clause-at_most g c = omega (arith, len-shown c.self.inside.entries c.self.invariant, ap map.len c.self.view_is, c.len.ensures.at_most)
