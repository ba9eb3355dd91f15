use Rattle.std.proofs.Common.{length, refl, sym, ◌∙◌, ap}
use Rattle.calvin_types.specs.Keys.{rises}
use Rattle.calvin_types.proofs.Risings.{rises-insert_key}
use Rattle.calvin_types.proofs.FromEnd.{at_end}
use Rattle.calvin_types.proofs.key_set.KeySet.put_last.Goals as goal

pub invariant_of-self : goal.invariant_of-self
invariant_of-self c =
    let missing = rw (← c.self.view_is) at c.requires.missing in
    ap rises (c.push.ensures ∙ at_end c.self.inside.keys (length c.self.inside.keys) c.args.key refl ∙ sym missing.insert_is)
    ∙ rises-insert_key c.args.key c.self.inside.keys c.self.invariant
