-- The operations of the application Kv as they are written. The form of scripts is of this project.
--     put d, get_of d, add d, move_of d, follow_of d      each operation
--     kv_operation d      one of them
--     kv_grammar      Kv's name, its operations, and the sets of each on the empty view; declared sets are complete
use Rattle.std.specs.Prelude.{◌^◌, if◌then◌else◌, Option, Some, option_and_then, option_map, is_none, codes, bytes_eq}
use Rattle.std.specs.FinMap as finmap
use Rattle.serde_json.specs.Data.{Data}
use Rattle.serde_json.specs.Find.{at, as_str}
use Rattle.calvin_types.specs.declared.key.Key.{Key}
use Rattle.calvin_app.specs.declared.kv.KvRequest.{KvRequest}
use Rattle.calvin_app.specs.declared.kv.KvRequest.TheVariants.{Put, Get, Add, Move, Follow}
use Rattle.calvin_app.specs.Kv.{kv, key_of}
use Rattle.calvin_script.specs.Spelling.{◌>>=◌, only_if, below}
use Rattle.calvin_script.specs.Numbers.{one_number, two_numbers, three_numbers}
use Rattle.calvin_script.specs.KeyLists.{key_set}
use Rattle.calvin_script.specs.Grammar.{Grammar, as_declared}

-- a key of table 0, written as its number there
abbrev pub row_key : Data → Option Key
row_key d = option_map key_of (below (2 ^ 64) d)

-- `["put",k,v]`
unfoldable pub put : Data → Option KvRequest
put d = option_map (λ n. Put n.0 n.1) (two_numbers d)

-- `["get",[k, ..]]`, at most 16 keys, none twice
unfoldable pub get_of : Data → Option KvRequest
get_of d = only_if (is_none (at 2 d)) (do
  keys ← option_and_then (key_set row_key) (at 1 d)
  Some (Get keys))

-- `["add",k,d]`
unfoldable pub add : Data → Option KvRequest
add d = option_map (λ n. Add n.0 n.1) (two_numbers d)

-- `["move",a,b,n]`
unfoldable pub move_of : Data → Option KvRequest
move_of d = option_map (λ n. Move n.0 n.1 n.2) (three_numbers d)

-- `["follow",k]`
unfoldable pub follow_of : Data → Option KvRequest
follow_of d = option_map Follow (one_number d)

unfoldable pub kv_operation : Data → Option KvRequest
kv_operation d = do
  name ← option_and_then as_str (at 0 d)
  if bytes_eq name (codes "put") then put d else (if bytes_eq name (codes "get") then get_of d else (if bytes_eq name (codes "add") then add d else (if bytes_eq name (codes "move") then move_of d else only_if (bytes_eq name (codes "follow")) (follow_of d))))

abbrev pub kv_grammar : Grammar KvRequest
kv_grammar = record { app_name = codes "kv"; operation = λ _ d. kv_operation d; first_needs = λ a. kv.needs a finmap.empty; completed = as_declared }
