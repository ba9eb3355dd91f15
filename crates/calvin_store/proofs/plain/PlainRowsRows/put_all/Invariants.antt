use Rattle.std.proofs.Common.{◌≡◌, ◌+◌, drop}
use Rattle.calvin_app.specs.Rows.{overwritten}
use Rattle.calvin_store.proofs.plain.PlainRowsRows.put_all.Given as goal

-- what is left to write makes of the rows what all writes make of the rows before; each write takes one from the room
abbrev pub invariant-loop-i : goal.invariant-loop-i
invariant-loop-i g l = record {
  so_far : overwritten l.self-inside.table.rows (drop l.i l.writes) ≡ overwritten l.fn.self.rows l.writes;
  room : l.self-inside.table.room + l.i ≡ l.fn.self.room;
}
