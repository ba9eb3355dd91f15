use Rattle.std.proofs.Common.{length, ◌∙◌, ap, ◌++◌, ◌∷◌, [], arith}
use Rattle.calvin_types.proofs.KeyLists.{keys-push, IsKeyList-push}
use Rattle.calvin_types.proofs.key_list.KeyList.push.Goals as goal

pub invariant_of-self : goal.invariant_of-self
invariant_of-self c = IsKeyList-push _ _ _ c.self.invariant c.args.key (omega (arith, ap length c.self.view_is, c.self.invariant.size_is))

pub returns : goal.returns
returns c = keys-push c.self.inside.tables c.self.inside.ids c.self.inside.size c.self.invariant c.args.key (omega (arith, ap length c.self.view_is, c.self.invariant.size_is)) ∙ ap (λ xs. xs ++ c.args.key ∷ []) c.self.view_is
