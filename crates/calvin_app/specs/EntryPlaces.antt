-- Where a key stands among entries in order, or among writes, or where it would.
--     IsAt key entries i      the key stands at the place i
--     IsMissingAt key entries i      the key is missing, and would stand at the place i
--     IsUnwritten key writes      the key isn't written yet, and one more write of it stands at the end
--     IsWrittenAt key writes i      the key is written at the place i
use Rattle.calvin_app.specs.Writing.{with_write, keys_of}
use Rattle.std.specs.Prelude.{true, false, [], ◌∷◌, ◌++◌, ◌≡◌, ℕ, ◌<◌, ◌≤◌, List, length, slice_set}
use Rattle.std.specs.List.{insert}
use Rattle.std.specs.FinMap as map
use Rattle.calvin_types.specs.declared.key.Key.{Key}
use Rattle.calvin_types.specs.Keys.{key_cmp, has}

pub record IsAt {Row : Type 0} (key : Key) (entries : List (Key × Row)) (i : ℕ) : Type 0 where
  pub within : i < length entries
  pub put_is : (row : Row) → map.put key_cmp key row entries ≡ slice_set entries i (key, row)

pub record IsMissingAt {Row : Type 0} (key : Key) (entries : List (Key × Row)) (i : ℕ) : Type 0 where
  pub within : i ≤ length entries
  pub put_is : (row : Row) → map.put key_cmp key row entries ≡ insert entries i (key, row)

pub record IsUnwritten {Row : Type 0} (key : Key) (writes : List (Key × Row)) : Type 0 where
  pub missing : has (keys_of writes) key ≡ false
  pub put_is : (row : Row) → with_write key row writes ≡ writes ++ (key, row) ∷ []

pub record IsWrittenAt {Row : Type 0} (key : Key) (writes : List (Key × Row)) (i : ℕ) : Type 0 where
  pub within : i < length writes
  pub there : has (keys_of writes) key ≡ true
  pub put_is : (row : Row) → with_write key row writes ≡ slice_set writes i (key, row)
