-- Rows: a finite map from keys to rows (Thomson et al. 2012, section 3: the store is a map, divided into partitions).
--     Rows Row      a finite map from keys to rows
--     view rows keys      the rows cut down to these keys
--     part count p rows      the rows of the partition p, of so many partitions
--     overwritten rows writes      the rows with each of the writes put in, in order
use Rattle.std.specs.Prelude.{ℕ, ◌==◌, List, [], ◌∷◌}
use Rattle.std.specs.FinMap.{FinMap, insert, retain_keys}
use Rattle.calvin_types.specs.declared.key.Key.{Key}
use Rattle.calvin_types.specs.Keys.{key_cmp, has, partition_of}

abbrev pub Rows : Type 0 → Type 0
Rows Row = FinMap {K = Key} key_cmp Row

-- the rows cut down to some keys: a key that isn't among them has no row there
abbrev pub view : {Row : Type 0} → Rows Row → List Key → Rows Row
view rows keys = retain_keys rows (has keys)

abbrev pub part : {Row : Type 0} → ℕ → ℕ → Rows Row → Rows Row
part count p rows = retain_keys rows (λ k. partition_of count k == p)

abbrev pub overwritten : {Row : Type 0} → Rows Row → List (Key × Row) → Rows Row
overwritten rows [] = rows
overwritten rows (w ∷ ws) = overwritten (insert rows w.0 w.1) ws
