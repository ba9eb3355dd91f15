-- Whether a key is among keys in order, or where it would stand.
--     IsThere key keys      the key is among the keys, so that adding it changes nothing
--     IsMissingAt key keys i      the key is missing, and would stand at the place i
use Rattle.std.specs.Prelude.{◌≡◌, ℕ, ◌≤◌, true, false, List, length}
use Rattle.std.specs.List.{insert}
use Rattle.calvin_types.specs.declared.key.Key.{Key}
use Rattle.calvin_types.specs.Keys.{has, insert_key}

pub record IsThere (key : Key) (keys : List Key) : Type 0 where
  pub there : has keys key ≡ true
  pub insert_is : insert_key key keys ≡ keys

pub record IsMissingAt (key : Key) (keys : List Key) (i : ℕ) : Type 0 where
  pub within : i ≤ length keys
  pub missing : has keys key ≡ false
  pub insert_is : insert_key key keys ≡ insert keys i key
