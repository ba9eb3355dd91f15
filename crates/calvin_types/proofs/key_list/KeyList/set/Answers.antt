use Rattle.std.proofs.Common.{length, ◌∙◌, ap, arith}
use Rattle.std.proofs.Math.ListN.{set}
use Rattle.calvin_types.proofs.KeyLists.{keys-set, IsKeyList-set}
use Rattle.calvin_types.proofs.key_list.KeyList.set.Goals as goal

pub invariant_of-self : goal.invariant_of-self
invariant_of-self c = IsKeyList-set _ _ _ c.self.invariant c.args.key c.args.i (omega (arith, ap length c.self.view_is, c.self.invariant.size_is))

pub returns : goal.returns
returns c = keys-set c.self.inside.tables c.self.inside.ids c.self.inside.size c.self.invariant c.args.key c.args.i (omega (arith, ap length c.self.view_is, c.self.invariant.size_is)) ∙ ap (λ xs. set xs c.args.i c.args.key) c.self.view_is
