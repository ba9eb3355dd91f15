-- So many empty lists.
use Rattle.std.proofs.Common.{◌≡◌, ◌≤◌, ℕ, List, [], length, Some}
use Rattle.std.specs.Prelude.{slice_get}
use Rattle.calvin_histories.proofs.senders.Senders.new.Given as goal

abbrev pub invariant-loop-node : goal.invariant-loop-node
invariant-loop-node l = record {
  number : length l.lists.items ≡ l.node;
  bound : l.node ≤ l.nodes;
  empty : (i : ℕ) (numbers : List ℕ) → slice_get l.lists.items i ≡ Some numbers → numbers ≡ [];
}
