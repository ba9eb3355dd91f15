use Rattle.std.proofs.Common.{◌≡◌, take}
use Rattle.calvin_app.specs.Entries.{shown}
use Rattle.calvin_view_list.proofs.view_list.put_all.Given as goal

abbrev pub invariant-loop-i : goal.invariant-loop-i
invariant-loop-i g l = l.view ≡ shown (take l.i l.entries)
