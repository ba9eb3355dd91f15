use Rattle.std.proofs.Common.{◌++◌, length, refl, sym, ap, subst}
use Rattle.std.proofs.lemmas.Option.{slice_get_read}
use Rattle.std.specs.FinMap as finmap
use Rattle.calvin_app.specs.Rows.{overwritten}
use Rattle.calvin_app.specs.Serial.{serial}
use Rattle.calvin_app.proofs.Runs.{next_rows, next_answers, last_rows, last_answers}
use Rattle.calvin_once.specs.Once.{once}
use Rattle.calvin_once.specs.ToldAgain.{ToldAgain, NewUntilTold}
use Rattle.calvin_once.proofs.Again.{told_again, new_until_told}
use Rattle.calvin_once.proofs.runs.run_on.Goals as goal

pub loop-txn-init : goal.loop-txn-init
loop-txn-init g c =
    let m = once g.A.App.meaning g.A.App.key_limit g.A.App.table_limit in
    record { rows = ap (λ rows. (serial m c.args.txns.now rows).0) c.in_ok-run.ensures.ok; answers = λ i. c.new-answers.ensures.items i ++ (serial m c.args.txns.now (c.in_ok-run.ensures.ok i)).1 }

pub loop-txn-preserved : goal.loop-txn-preserved
loop-txn-preserved g c =
    let m = once g.A.App.meaning g.A.App.key_limit g.A.App.table_limit in
    let so = c.loop-txn.invariant in
    let all = serial m c.args.txns.now (overwritten finmap.empty c.args.rows.now) in
    let here = slice_get_read c.args.txns.now (length c.args.txns.now) c.loop-txn.txn-index c.txn-item.result refl c.loop-txn-test.true c.txn-item.is in
    record {
      rows = next_rows m c.args.txns.now c.loop-txn.txn-index c.loop-txn.run c.loop-txn.answers.items all so.rows so.answers c.txn-item.result here c.apply.new.self c.in_ok-apply.ensures.ok;
      answers = next_answers m c.args.txns.now c.loop-txn.txn-index c.loop-txn.run c.loop-txn.answers.items all so.rows so.answers c.txn-item.result here c.apply.new.self c.in_ok-apply.ensures.ok c.in_ok-apply.field-0 c.push.new.self.items c.in_ok-apply.ensures.answer c.in_ok-push.ensures.items;
    }

pub returns-clause-rows : goal.returns-clause-rows
returns-clause-rows g c =
    let m = once g.A.App.meaning g.A.App.key_limit g.A.App.table_limit in
    last_rows m c.args.txns.now c.loop-txn.txn-index c.loop-txn.run c.loop-txn.answers.items (serial m c.args.txns.now (overwritten finmap.empty c.args.rows.now)) c.loop-txn.invariant.rows c.loop-txn.invariant.answers c.loop-txn-test.false

pub returns-clause-answers : goal.returns-clause-answers
returns-clause-answers g c =
    let m = once g.A.App.meaning g.A.App.key_limit g.A.App.table_limit in
    last_answers m c.args.txns.now c.loop-txn.txn-index c.loop-txn.run c.loop-txn.answers.items (serial m c.args.txns.now (overwritten finmap.empty c.args.rows.now)) c.loop-txn.invariant.rows c.loop-txn.invariant.answers c.loop-txn-test.false

pub returns-clause-again : goal.returns-clause-again
returns-clause-again g c =
    let m = once g.A.App.meaning g.A.App.key_limit g.A.App.table_limit in
    subst (ToldAgain m c.args.txns.now (overwritten finmap.empty c.args.rows.now))
    (sym (last_answers m c.args.txns.now c.loop-txn.txn-index c.loop-txn.run c.loop-txn.answers.items (serial m c.args.txns.now (overwritten finmap.empty c.args.rows.now)) c.loop-txn.invariant.rows c.loop-txn.invariant.answers c.loop-txn-test.false))
    (told_again g.A.App.meaning g.A.App.is_dependent g.A.App.key_limit g.A.App.table_limit g.met.A.App.lawful c.args.app.narrow c.args.txns.now (overwritten finmap.empty c.args.rows.now))

pub returns-clause-new : goal.returns-clause-new
returns-clause-new g c =
    let m = once g.A.App.meaning g.A.App.key_limit g.A.App.table_limit in
    subst (NewUntilTold m g.A.App.table_limit c.args.txns.now (overwritten finmap.empty c.args.rows.now))
    (sym (last_answers m c.args.txns.now c.loop-txn.txn-index c.loop-txn.run c.loop-txn.answers.items (serial m c.args.txns.now (overwritten finmap.empty c.args.rows.now)) c.loop-txn.invariant.rows c.loop-txn.invariant.answers c.loop-txn-test.false))
    (new_until_told g.A.App.meaning g.A.App.is_dependent g.A.App.key_limit g.A.App.table_limit g.met.A.App.lawful c.args.app.narrow c.args.txns.now (overwritten finmap.empty c.args.rows.now))
