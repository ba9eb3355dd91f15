use Rattle.std.proofs.Common.{◌≡◌, length}
use Rattle.std.specs.List.{insert}
use Rattle.calvin_types.proofs.key_list.KeyList.insert.Given as goal

abbrev pub invariant-loop-j : goal.invariant-loop-j
invariant-loop-j l = record {
  to_come : insert l.self l.j l.carried ≡ insert l.fn.self l.fn.i l.fn.key;
  as_long : length l.self ≡ length l.fn.self;
}
