-- So far each node is new, and has its name.
use Rattle.std.proofs.Common.{◌≡◌, ◌≤◌, ℕ, [], length, Some}
use Rattle.std.specs.Prelude.{slice_get}
use Rattle.calvin_order.specs.Configs.{config_of}
use Rattle.calvin_histories.specs.Locked.{Lived, lived_at}
use Rattle.calvin_histories.proofs.opening.new_nodes.Given as goal

abbrev pub invariant-loop-at : goal.invariant-loop-at
invariant-loop-at g l = record {
  number : length l.nodes.items ≡ l.at;
  bound : l.at ≤ l.number;
  each : (i : ℕ) (n : Lived g.row.A-Args.Denot g.row.A-Row.Denot g.row.A-Reply.Denot) → slice_get l.nodes.items i ≡ Some n → n ≡ lived_at g.A.App.meaning (record { config = config_of l.config g.S.Rows.points g.S.Rows.cold; events = [] }) i;
}
