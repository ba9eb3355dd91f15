use Rattle.std.proofs.Common.{◌≡◌, ◌+◌, ◌++◌, length, refl, sym, ap, ◌∙◌}
use Rattle.std.proofs.lemmas.Option.{slice_get_read}
use Rattle.std.specs.FinMap as finmap
use Rattle.calvin_app.specs.Rows.{Rows}
use Rattle.calvin_app.specs.Serial.{serial}
use Rattle.calvin_stock.specs.declared.rows.StockRow.{StockRow}
use Rattle.calvin_stock.specs.Stock.{stock}
use Rattle.calvin_stock.specs.Totals.{cents_in, paid, stock_at, added, ordered}
use Rattle.calvin_stock.proofs.CentsOfAll.{cents_hold}
use Rattle.calvin_stock.proofs.Pieces.{pieces_hold}
use Rattle.calvin_app.proofs.Runs.{next_rows, next_answers, last_rows, last_answers}
use Rattle.calvin_stock.proofs.totals.run_on_no_rows.Goals as goal

pub loop-txn-init : goal.loop-txn-init
loop-txn-init c = record {
  rows = ap (λ (rows : Rows StockRow). (serial stock c.args.txns.now rows).0) c.new-run.ensures;
  answers = λ i. c.new-answers.ensures.items i ++ (serial stock c.args.txns.now (c.new-run.ensures i)).1;
}

pub loop-txn-preserved : goal.loop-txn-preserved
loop-txn-preserved c =
    let so = c.loop-txn.invariant in
    let all = serial stock c.args.txns.now finmap.empty in
    let here = slice_get_read c.args.txns.now (length c.args.txns.now) c.loop-txn.txn-index c.txn-item.result refl c.loop-txn-test.true c.txn-item.is in
    record {
      rows = next_rows stock c.args.txns.now c.loop-txn.txn-index c.loop-txn.run c.loop-txn.answers.items all so.rows so.answers c.txn-item.result here c.apply.new.self c.in_ok-apply.ensures.ok;
      answers = next_answers stock c.args.txns.now c.loop-txn.txn-index c.loop-txn.run c.loop-txn.answers.items all so.rows so.answers c.txn-item.result here c.apply.new.self c.in_ok-apply.ensures.ok c.in_ok-apply.field-0 c.push.new.self.items c.in_ok-apply.ensures.answer c.in_ok-push.ensures.items;
    }

rows_are : (c : goal.After-loop-txn) → c.loop-txn.run ≡ (serial stock c.args.txns.now finmap.empty).0
rows_are c = last_rows stock c.args.txns.now c.loop-txn.txn-index c.loop-txn.run c.loop-txn.answers.items (serial stock c.args.txns.now finmap.empty) c.loop-txn.invariant.rows c.loop-txn.invariant.answers c.loop-txn-test.false

answers_are : (c : goal.After-loop-txn) → c.loop-txn.answers.items ≡ (serial stock c.args.txns.now finmap.empty).1
answers_are c = last_answers stock c.args.txns.now c.loop-txn.txn-index c.loop-txn.run c.loop-txn.answers.items (serial stock c.args.txns.now finmap.empty) c.loop-txn.invariant.rows c.loop-txn.invariant.answers c.loop-txn-test.false

pub returns-clause-rows : goal.returns-clause-rows
returns-clause-rows c = rows_are c

pub returns-clause-answers : goal.returns-clause-answers
returns-clause-answers c = answers_are c

pub returns-clause-cents : goal.returns-clause-cents
returns-clause-cents c = ap (paid c.args.txns.now) (answers_are c) ∙ cents_hold c.args.txns.now ∙ sym (ap cents_in (rows_are c))

pub returns-clause-pieces : goal.returns-clause-pieces
returns-clause-pieces c i =
    ap (added i c.args.txns.now) (answers_are c)
    ∙ pieces_hold i c.args.txns.now
    ∙ sym (λ j. stock_at (rows_are c j) i + ordered i c.args.txns.now (answers_are c j))
