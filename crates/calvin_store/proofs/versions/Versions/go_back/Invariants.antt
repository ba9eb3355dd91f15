use Rattle.std.proofs.Common.{◌≡◌, ◌≤◌, ◌++◌, take, drop, vec_len}
use Rattle.calvin_store.specs.Versions.{before_pairs}
use Rattle.calvin_store.proofs.versions.Versions.go_back.Given as goal

-- what is left so far, and what will be left of the pairs to come, is what is left of all
abbrev pub invariant-loop-i : goal.invariant-loop-i
invariant-loop-i g l = record {
  so_far : take l.left l.pairs.items ++ before_pairs l.self.before.rows (drop l.i l.pairs.items) ≡ before_pairs l.self.before.rows l.fn.pairs.items;
  behind : l.left ≤ l.i;
  len : vec_len l.pairs ≡ vec_len l.fn.pairs;
}
