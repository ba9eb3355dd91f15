-- A packet fits in memory.
use Rattle.std.proofs.Common.{◌≡◌, take}
use Rattle.calvin_wide_desk.proofs.desk.write_all.Given as goal

-- what is written so far
abbrev pub invariant-loop-entry : goal.invariant-loop-entry
invariant-loop-entry g l = l.pen ≡ (l.fn.pen.0, take l.entry-index l.entries)
