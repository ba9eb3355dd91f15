use Rattle.std.proofs.Common.{refl, ap, ◌∙◌}
use Rattle.calvin_types.specs.Keys.{rises}
use Rattle.calvin_types.proofs.Risings.{rises-insert_key}
use Rattle.calvin_types.proofs.key_set.KeySet.add_or_clear.Goals as goal

pub invariant_of-self : goal.invariant_of-self
invariant_of-self c = ap rises (c.if-put_from_end.ensures.put refl) ∙ rises-insert_key c.args.key c.self.inside.keys c.self.invariant
