use Rattle.std.proofs.Common.{◌≡◌, ◌+◌, ◌≤◌, length, drop}
use Rattle.calvin_app.specs.Stores.{without}
use Rattle.calvin_store.specs.Tiers.{both, names_of, AreApart, cold_of}
use Rattle.calvin_store.proofs.tiers.warm.Given as goal

-- the rows stay, the keys that are left make of the cold keys what all keys make of those before, and of the room is left what
-- those that are cold need
abbrev pub invariant-loop-i : goal.invariant-loop-i
invariant-loop-i g l = record {
  apart : AreApart l.hot.rows l.cold.rows;
  rows : both l.hot.rows l.cold.rows ≡ both l.fn.hot.rows l.fn.cold.rows;
  so_far : without (names_of l.cold.rows) (drop l.i l.keys) ≡ without (names_of l.fn.cold.rows) l.keys;
  room : l.fn.hot.room + length (cold_of (names_of l.cold.rows) (drop l.i l.keys)) ≤ l.hot.room + length (cold_of (names_of l.fn.cold.rows) l.keys);
}
