-- Lemmas: what rising entries and the map that they show have to do with each other.
--     entries_kept      rising entries are those of the map that they show
--     rising-put      entries rise after one is put among them
--     shown-put      and then they show the map with this row
--     get-shown, len-shown      the map's row of a key is that of the entries;  it has as many keys as they are
use Rattle.std.specs.Prelude.{◌≡◌, List, length}
use Rattle.std.proofs.Common.{sym, ap, ◌∙◌}
use Rattle.std.specs.FinMap as map
use Rattle.calvin_types.specs.declared.key.Key.{Key}
use Rattle.calvin_types.specs.Keys.{key_cmp}
use Rattle.calvin_types.specs.KeyOrder.{key_cmp_total}
use Rattle.calvin_app.specs.Entries.{rising, shown}

pub entries_kept : {Row : Type 0} (es : List (Key × Row)) → rising es → map.entries (shown es) ≡ es
entries_kept es h = map.entries-from_sorted key_cmp es h

pub rising-put : {Row : Type 0} (es : List (Key × Row)) (k : Key) (r : Row) → rising es → rising (map.put key_cmp k r es)
rising-put es k r h = Rattle.std.specs.FinMap.Entries.is_sorted-put key_cmp key_cmp_total k r es h

pub shown-put : {Row : Type 0} (es : List (Key × Row)) (k : Key) (r : Row) → rising es → shown (map.put key_cmp k r es) ≡ map.insert (shown es) k r
shown-put es k r h = map.same_entries_map _ _ (entries_kept _ (rising-put es k r h) ∙ ap (map.put key_cmp k r) (sym (entries_kept es h)) ∙ sym (map.entries-insert key_cmp_total (shown es) k r))

pub get-shown : {Row : Type 0} (es : List (Key × Row)) (k : Key) → rising es → map.get (shown es) k ≡ map.find key_cmp k es
get-shown es k h = map.get-from_sorted key_cmp es k h

pub len-shown : {Row : Type 0} (es : List (Key × Row)) → rising es → map.len (shown es) ≡ length es
len-shown es h = map.len-entries _ ∙ ap length (entries_kept es h)
