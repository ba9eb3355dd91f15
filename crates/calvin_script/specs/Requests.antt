-- Requests as they are written. The form of scripts is of this project.
--     id_of client own_number      a request's name
--     declared reads writes      the sets that are declared
--     sets_of grammar args reads writes      the declared sets, both or neither, completed; else those on the empty view
--     named grammar id attempt op reads writes      the request of this name and attempt
--     request_of grammar client own_number op attempt reads writes      the request of these members
--     request grammar d      `{"client":C,"number":N,"op":OP}`, with optional `"attempt":A` and `"reads":[KEY, ..],"writes":[KEY, ..]`
--     with_these_alone, with_sets_alone      an object of the three members that every request has;  of these and both sets
use Rattle.std.specs.Prelude.{ℕ, ◌^◌, List, [], ◌∷◌, Option, Some, None, is_some, codes}
use Rattle.serde_json.specs.Data.{Data, object, no_members, member}
use Rattle.serde_json.specs.Find.{get}
use Rattle.calvin_types.specs.declared.key_set.Sets.{Sets}
use Rattle.calvin_types.specs.declared.place.RequestId.{RequestId}
use Rattle.calvin_types.specs.declared.txn.Txn.{Txn}
use Rattle.calvin_script.specs.declared.contents.Request.{Request}
use Rattle.calvin_script.specs.Spelling.{◌>>=◌, only_if, has_only, below, optional}
use Rattle.calvin_script.specs.KeyLists.{key, key_set}
use Rattle.calvin_script.specs.Grammar.{Grammar}

-- the client, and the client's own number for the request
unfoldable pub id_of : Data → Data → Option RequestId
id_of client own_number = do
  c ← below (2 ^ 32) client
  n ← below (2 ^ 32) own_number
  Some (record { client = c; number = n })

abbrev pub declared : Data → Data → Option Sets
declared reads writes = do
  read_keys ← key_set key reads
  written_keys ← key_set key writes
  Some (record { reads = read_keys; writes = written_keys })

unfoldable pub sets_of : {Args : Type 0} → Grammar Args → Args → Option Data → Option Data → Option Sets
sets_of grammar args None None = Some (grammar.first_needs args)
sets_of grammar args None (Some writes) = None
sets_of grammar args (Some reads) None = None
sets_of grammar args (Some reads) (Some writes) = do
  sets ← declared reads writes
  grammar.completed args sets

abbrev pub request_names : List (List ℕ)
request_names = codes "client" ∷ codes "number" ∷ codes "op" ∷ codes "attempt" ∷ codes "reads" ∷ codes "writes" ∷ []

-- a request of this name and attempt, from its operation and the sets that may be declared
unfoldable pub named : {Args : Type 0} → Grammar Args → RequestId → ℕ → Data → Option Data → Option Data → Option (Txn Args)
named grammar id attempt op reads writes = do
  args ← grammar.operation id op
  sets ← sets_of grammar args reads writes
  Some (record { id = id; attempt = attempt; args = args; sets = sets })

-- a request from the members that every one has, its attempt, and the sets that may be declared
unfoldable pub request_of : {Args : Type 0} → Grammar Args → Data → Data → Data → ℕ → Option Data → Option Data → Option (Request Args)
request_of grammar client own_number op attempt reads writes = do
  id ← id_of client own_number
  txn ← named grammar id attempt op reads writes
  Some (record { txn = txn; is_declared = is_some reads })

unfoldable pub request : {Args : Type 0} → Grammar Args → Data → Option (Request Args)
request grammar d = only_if (has_only request_names d) (do
  client ← get (codes "client") d
  own_number ← get (codes "number") d
  op ← get (codes "op") d
  attempt ← optional 1 (below (2 ^ 8)) (get (codes "attempt") d)
  request_of grammar client own_number op attempt (get (codes "reads") d) (get (codes "writes") d))

-- an object that has these members and no others
abbrev pub with_these_alone : Data → Data → Data → Data
with_these_alone client own_number op = object (member (codes "client") client (member (codes "number") own_number (member (codes "op") op no_members)))

-- an object that has these members, both sets and no others
abbrev pub with_sets_alone : Data → Data → Data → Data → Data → Data
with_sets_alone client own_number op reads writes = object (member (codes "client") client (member (codes "number") own_number (member (codes "op") op (member (codes "reads") reads (member (codes "writes") writes no_members)))))
