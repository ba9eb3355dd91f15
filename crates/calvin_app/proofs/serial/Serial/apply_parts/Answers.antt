use Rattle.std.proofs.Common.{sym, ap, ◌∙◌}
use Rattle.std.proofs.lemmas.Bool.{false≢true}
use Rattle.calvin_types.specs.SameKeys.{same_sets}
use Rattle.calvin_app.specs.Serial.{nameless}
use Rattle.calvin_app.proofs.Fresh.{is_current-needed}
use Rattle.calvin_app.proofs.serial.Serial.apply_parts.Goals as goal

pub returns-then-not-needs_only-clause-fresh : goal.returns-then-not-needs_only-clause-fresh
returns-then-not-needs_only-clause-fresh g c = λ needed _.
    let m = g.A.App.meaning in
    let txn = nameless c.args.args.now c.args.sets.now in
    false≢true (sym c.if-not-needs_only.true ∙ c.needs_only.ensures ∙ ap (λ v. same_sets (m.needs txn.args v) txn.sets) c.see.ensures ∙ is_current-needed m g.met.A.App.lawful txn c.args.self.now needed)
