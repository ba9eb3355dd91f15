-- Rows in a hash map beside the finite map that they are.
use Rattle.std.proofs.Common.{◌≡◌, List, Some, cond}
use Rattle.std.specs.Map.{lookup}
use Rattle.std.specs.FinMap as map
use Rattle.calvin_types.specs.declared.key.Key.{Key}
use Rattle.calvin_types.specs.Keys.{key_cmp}
use Rattle.calvin_types.specs.KeyOrder.{key_cmp_exact, key_cmp_total}
use Rattle.calvin_types.specs.SameKeys.{equal_keys}
use Rattle.calvin_types.specs.SameKeysLaws.{equal_keys_exact, equal_keys_self}
use Rattle.calvin_types.proofs.HashMaps.{get-entries, same_entries, one_put}

module _ {Row : Type 0} (es : List (Key × Row)) where
  pub get-row : (q : Key) → map.get (map.from_entries {R = key_cmp} es) q ≡ lookup (equal_keys q) es
  get-row q = get-entries equal_keys key_cmp key_cmp_total key_cmp_exact equal_keys_exact equal_keys_self es q

  pub same_rows : (fs : List (Key × Row)) → ((q : Key) → lookup (equal_keys q) fs ≡ lookup (equal_keys q) es) → map.from_entries {R = key_cmp} fs ≡ map.from_entries es
  same_rows fs h = same_entries equal_keys key_cmp key_cmp_total key_cmp_exact equal_keys_exact equal_keys_self es fs h

  pub row_put : (fs : List (Key × Row)) (k : Key) (v : Row) → ((q : Key) → lookup (equal_keys q) fs ≡ cond (equal_keys k q) (Some v) (lookup (equal_keys q) es)) → map.from_entries {R = key_cmp} fs ≡ map.insert (map.from_entries es) k v
  row_put fs k v h = one_put equal_keys key_cmp key_cmp_total key_cmp_exact equal_keys_exact equal_keys_self es fs k v h
