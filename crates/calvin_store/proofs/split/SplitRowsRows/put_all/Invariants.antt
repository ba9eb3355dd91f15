use Rattle.std.proofs.Common.{◌≡◌, ◌+◌, ◌≤◌, drop}
use Rattle.calvin_app.specs.Stores.{put_at}
use Rattle.calvin_store.specs.Kept.{split_store}
use Rattle.calvin_store.proofs.split.SplitRowsRows.put_all.Given as goal

-- what is left to write makes of the store what all writes make of the store before; each write takes one from the room at most
abbrev pub invariant-loop-i : goal.invariant-loop-i
invariant-loop-i g l = record {
  so_far : put_at l.place (drop l.i l.writes) (split_store l.self) ≡ put_at l.place l.writes (split_store l.fn.self);
  room : l.fn.self.room ≤ l.self.room + l.i;
}
