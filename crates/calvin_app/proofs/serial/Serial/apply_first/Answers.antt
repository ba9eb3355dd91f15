use Rattle.std.proofs.Common.{◌∙◌, ap, sym, refl}
use Rattle.std.specs.FinMap as map
use Rattle.calvin_app.specs.declared.answer.Answer.TheVariants as answer
use Rattle.calvin_app.specs.Rows.{view, overwritten}
use Rattle.calvin_app.specs.Serial.{nameless}
use Rattle.calvin_app.proofs.Fresh.{is_current-first, answer_on-current, writes_on-current}
use Rattle.calvin_app.proofs.Results.{always, on_ok_so}
use Rattle.calvin_app.proofs.serial.Serial.apply_first.Goals as goal

pub returns-clause-answer : goal.returns-clause-answer
returns-clause-answer g c =
    let m = g.A.App.meaning in
    let txn = nameless c.args.args.now (m.needs c.args.args.now map.empty) in
    let current = is_current-first m g.met.A.App.lawful txn c.args.self.now c.requires.fixed refl in
    let seen = c.see.ensures ∙ ap (view c.args.self.now) (sym c.requires.first) in
    always _ c.run_seen.result
    (c.run_seen.ensures.answer ∙ ap (λ v. answer.Reply (m.outcome txn.args v).0) seen
    ∙ sym (answer_on-current m txn (view c.args.self.now txn.sets.reads) current))

pub returns-clause-ok : goal.returns-clause-ok
returns-clause-ok g c =
    let m = g.A.App.meaning in
    let txn = nameless c.args.args.now (m.needs c.args.args.now map.empty) in
    let current = is_current-first m g.met.A.App.lawful txn c.args.self.now c.requires.fixed refl in
    let seen = c.see.ensures ∙ ap (view c.args.self.now) (sym c.requires.first) in
    on_ok_so c.run_seen.result _ _ _ c.run_seen.ensures.ok
    (ap (λ v. overwritten c.args.self.now (m.outcome txn.args v).1) seen
    ∙ ap (overwritten c.args.self.now) (sym (writes_on-current m txn (view c.args.self.now txn.sets.reads) current)))

pub returns-clause-succeeds : goal.returns-clause-succeeds
returns-clause-succeeds g c =
    let m = g.A.App.meaning in
    let txn = nameless c.args.args.now (m.needs c.args.args.now map.empty) in
    let current = is_current-first m g.met.A.App.lawful txn c.args.self.now c.requires.fixed refl in
    let seen = c.see.ensures ∙ ap (view c.args.self.now) (sym c.requires.first) in
    λ none. c.run_seen.ensures.succeeds (ap (λ v. (m.outcome txn.args v).1) seen ∙ sym (writes_on-current m txn (view c.args.self.now txn.sets.reads) current) ∙ none)
