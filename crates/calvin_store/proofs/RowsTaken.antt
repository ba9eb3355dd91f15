-- Rows in a hash map, of which one was taken out.
use Rattle.std.proofs.Common.{◌≡◌, List, None, cond}
use Rattle.std.specs.Map.{lookup}
use Rattle.std.specs.FinMap as map
use Rattle.calvin_types.specs.declared.key.Key.{Key}
use Rattle.calvin_types.specs.Keys.{key_cmp}
use Rattle.calvin_types.specs.KeyOrder.{key_cmp_exact, key_cmp_total}
use Rattle.calvin_types.specs.SameKeys.{equal_keys}
use Rattle.calvin_types.specs.SameKeysLaws.{equal_keys_exact, equal_keys_self}
use Rattle.calvin_types.proofs.HashMaps.{one_removed}

pub row_taken : {Row : Type 0} (es fs : List (Key × Row)) (k : Key) → ((q : Key) → lookup (equal_keys q) fs ≡ cond (equal_keys k q) None (lookup (equal_keys q) es)) → map.from_entries {R = key_cmp} fs ≡ map.remove (map.from_entries es) k
row_taken es fs k h = one_removed equal_keys key_cmp key_cmp_total key_cmp_exact equal_keys_exact equal_keys_self es fs k h
