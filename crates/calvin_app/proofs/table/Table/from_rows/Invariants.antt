use Rattle.std.proofs.Common.{◌≡◌, ◌≤◌, ◌-◌, true, length, take, drop}
use Rattle.std.specs.Option.{is_some}
use Rattle.std.specs.FinMap as map
use Rattle.std.specs.HashMap.{spare}
use Rattle.calvin_types.specs.declared.key.Key.{Key}
use Rattle.calvin_types.specs.Keys.{key_cmp, has, are_distinct}
use Rattle.calvin_app.specs.Rows.{overwritten}
use Rattle.calvin_app.specs.Writing.{keys_of}
use Rattle.calvin_app.proofs.table.Table.from_rows.Given as goal

abbrev pub invariant-loop-key : goal.invariant-loop-key
invariant-loop-key g l = record {
  so_far : overwritten (map.from_entries l.all.entries) (drop l.key-index l.rows) ≡ overwritten map.empty l.rows;
  there : (q : Key) → is_some (map.get (map.from_entries {R = key_cmp} l.all.entries) q) ≡ has (keys_of (take l.key-index l.rows)) q;
  distinct : are_distinct (keys_of (take l.key-index l.rows)) ≡ true;
  room : length l.rows - l.key-index ≤ spare l.all;
}
