use Rattle.std.proofs.Common.{◌≡◌, ◌++◌, drop}
use Rattle.std.specs.FinMap as finmap
use Rattle.calvin_app.specs.Rows.{overwritten}
use Rattle.calvin_app.specs.Serial.{serial}
use Rattle.calvin_once.specs.Once.{once}
use Rattle.calvin_once.proofs.runs.run_on.Given as goal

-- the rest of the run ends as the whole run does, and its answers follow those that there are
abbrev pub invariant-loop-txn : goal.invariant-loop-txn
invariant-loop-txn g l = record {
  rows : (serial (once g.A.App.meaning g.A.App.key_limit g.A.App.table_limit) (drop l.txn-index l.txns) l.run).0 ≡ (serial (once g.A.App.meaning g.A.App.key_limit g.A.App.table_limit) l.txns (overwritten finmap.empty l.fn.rows)).0;
  answers : l.answers.items ++ (serial (once g.A.App.meaning g.A.App.key_limit g.A.App.table_limit) (drop l.txn-index l.txns) l.run).1 ≡ (serial (once g.A.App.meaning g.A.App.key_limit g.A.App.table_limit) l.txns (overwritten finmap.empty l.fn.rows)).1;
}
