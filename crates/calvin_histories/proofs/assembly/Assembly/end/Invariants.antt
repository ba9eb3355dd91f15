-- All entries of the nodes up to here are taken.
use Rattle.std.proofs.Common.{◌≡◌, ◌<◌, ◌≤◌, ℕ, List, length, Some}
use Rattle.std.specs.Prelude.{slice_get}
use Rattle.calvin_histories.specs.declared.entry.Entry.{Entry}
use Rattle.calvin_histories.proofs.assembly.Assembly.end.Given as goal

abbrev pub invariant-loop-at : goal.invariant-loop-at
invariant-loop-at g l = (i n : ℕ) (history : List (Entry g.row.A-Args.Denot g.row.A-Row.Denot g.row.A-Reply.Denot)) → i < l.at → slice_get l.taken.items i ≡ Some n → slice_get l.histories i ≡ Some history → length history ≤ n
