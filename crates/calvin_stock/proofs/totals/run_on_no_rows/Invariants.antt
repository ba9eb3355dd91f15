use Rattle.std.proofs.Common.{◌≡◌, ◌++◌, drop}
use Rattle.std.specs.FinMap as finmap
use Rattle.calvin_app.specs.Serial.{serial}
use Rattle.calvin_stock.specs.Stock.{stock}
use Rattle.calvin_stock.proofs.totals.run_on_no_rows.Given as goal

-- the rest of the run ends as the whole run does, and its answers follow those that there are
abbrev pub invariant-loop-txn : goal.invariant-loop-txn
invariant-loop-txn l = record {
  rows : (serial stock (drop l.txn-index l.txns) l.run).0 ≡ (serial stock l.txns finmap.empty).0;
  answers : l.answers.items ++ (serial stock (drop l.txn-index l.txns) l.run).1 ≡ (serial stock l.txns finmap.empty).1;
}
