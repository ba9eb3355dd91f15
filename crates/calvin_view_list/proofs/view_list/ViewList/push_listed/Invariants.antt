use Rattle.std.proofs.Common.{◌≡◌, ◌+◌, ◌++◌, take, vec_len, vec_capacity}
use Rattle.calvin_view_list.proofs.view_list.ViewList.push_listed.Given as goal

-- the first so many rows of the list stand behind those of the views, in room that was there, and the ends are as they were
abbrev pub invariant-loop-entry : goal.invariant-loop-entry
invariant-loop-entry g l = record {
  items : l.self-inside.entries.items ≡ l.initial.self-inside.entries.items ++ take l.entry-index l.entry-items;
  len : vec_len l.self-inside.entries ≡ vec_len l.initial.self-inside.entries + l.entry-index;
  capacity : vec_capacity l.self-inside.entries ≡ vec_capacity l.initial.self-inside.entries;
  ends : l.self-inside.ends.items ≡ l.initial.self-inside.ends.items;
}
