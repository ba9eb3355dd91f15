use Rattle.std.proofs.Common.{◌≡◌, ◌+◌, ◌++◌, take, vec_len, vec_capacity}
use Rattle.std.specs.FinMap as map
use Rattle.calvin_view_list.proofs.view_list.ViewList.push_reserved.Given as goal

-- the first so many rows of the view stand behind those of the others, in room that was there, and the ends are as they were
abbrev pub invariant-loop-i : goal.invariant-loop-i
invariant-loop-i g l = record {
  items : l.self-inside.entries.items ≡ l.initial.self-inside.entries.items ++ take l.i (map.entries l.view);
  len : vec_len l.self-inside.entries ≡ vec_len l.initial.self-inside.entries + l.i;
  capacity : vec_capacity l.self-inside.entries ≡ vec_capacity l.initial.self-inside.entries;
  ends : l.self-inside.ends.items ≡ l.initial.self-inside.ends.items;
}
