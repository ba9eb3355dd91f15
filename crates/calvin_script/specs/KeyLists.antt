-- Keys, and sets of keys, as they are written. The form of scripts is of this project.
--     key d      the key `[table,id]`
--     key_set form d      the set of a list of keys, none twice and no more than a set has, each written in a form
use Rattle.std.specs.Prelude.{◌^◌, ◌&&◌, List, [], length, nat_le, Option, Some, option_and_then, is_none}
use Rattle.serde_json.specs.Data.{Data}
use Rattle.serde_json.specs.Find.{at}
use Rattle.calvin_types.specs.declared.limits.TheConstants.{MOST_KEYS}
use Rattle.calvin_types.specs.declared.key.Key.{Key}
use Rattle.calvin_types.specs.Keys.{insert_all, are_distinct}
use Rattle.calvin_script.specs.Spelling.{◌>>=◌, only_if, below, list}

unfoldable pub key : Data → Option Key
key d = only_if (is_none (at 2 d)) (do
  table ← option_and_then (below (2 ^ 8)) (at 0 d)
  id ← option_and_then (below (2 ^ 64)) (at 1 d)
  Some (record { table = table; id = id }))

-- the set of keys, none twice and no more than a set has
abbrev pub set_of : List Key → Option (List Key)
set_of ks = only_if (nat_le (length ks) MOST_KEYS && are_distinct ks) (Some (insert_all ks []))

unfoldable pub key_set : (Data → Option Key) → Data → Option (List Key)
key_set form d = option_and_then set_of (list form d)
