use Rattle.std.proofs.Common.{length, ◌∙◌, ap, ◌++◌, ◌∷◌, [], arith}
use Rattle.calvin_stock.proofs.LineLists.{lines-push, IsLineList-push}
use Rattle.calvin_stock.proofs.line_list.LineList.push.Goals as goal

pub invariant_of-self : goal.invariant_of-self
invariant_of-self c = IsLineList-push _ _ c.self.invariant c.args.line (omega (arith, ap length c.self.view_is, c.self.invariant.size_is))

pub returns : goal.returns
returns c = lines-push c.self.inside.places c.self.inside.size c.self.invariant c.args.line (omega (arith, ap length c.self.view_is, c.self.invariant.size_is)) ∙ ap (λ xs. xs ++ c.args.line ∷ []) c.self.view_is
