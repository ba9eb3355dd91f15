-- The application Kv: numbers by key, all in table 0. It is of this project.
--     key_of id      the key of table 0 with this number
--     asked keys      the keys that a get asks for: those of table 0, at most sixteen
--     pair_of a b      the keys with these numbers, or one where they are the same
--     followed id named      a key, and the one that its row names where it has one
--     needs_of a rows      the keys that the request a reads and writes
--     is_dependent a      whether the keys of the request a may depend on rows
--     sum_outcome id sum fits      the reply to a sum, and what it writes, where it is below 2^64 or not
--     moved from to amount source target      the reply to a move where the numbers under its keys are these, and what it writes
--     outcome_of a rows      the reply to the request a on these rows, and what it writes
--     kv      what the application needs and does
use Rattle.std.specs.Prelude.{ℕ, ◌+◌, ◌-◌, ◌^◌, ◌==◌, Bool, true, false, nat_lt, if◌then◌else◌, List, [], ◌∷◌, map, take, Option, Some, None, unwrap_or, option_and_then}
use Rattle.std.specs.List.{filter}
use Rattle.std.specs.FinMap as finmap
use Rattle.calvin_types.specs.declared.key.Key.{Key}
use Rattle.calvin_types.specs.declared.key_set.Sets.{Sets}
use Rattle.calvin_types.specs.declared.limits.TheConstants.{MOST_KEYS}
use Rattle.calvin_types.specs.Keys.{insert_key}
use Rattle.calvin_app.specs.declared.kv.KvRequest.{KvRequest}
use Rattle.calvin_app.specs.declared.kv.KvRequest.TheVariants.{Put, Get, Add, Move, Follow}
use Rattle.calvin_app.specs.declared.kv.KvReply.{KvReply}
use Rattle.calvin_app.specs.declared.kv.KvReply.TheVariants.{Done, Limit, Short, Value, Values, Found}
use Rattle.calvin_app.specs.Rows.{Rows}
use Rattle.calvin_app.specs.Meaning.{Meaning}

abbrev pub key_of : ℕ → Key
key_of id = record { table = 0; id = id }

abbrev pub asked : List Key → List Key
asked keys = take MOST_KEYS (filter (λ k. k.table == 0) keys)

abbrev pub pair_of : ℕ → ℕ → List Key
pair_of a b = insert_key (key_of b) (key_of a ∷ [])

abbrev pub followed : ℕ → Option ℕ → List Key
followed id None = key_of id ∷ []
followed id (Some other) = pair_of id other

abbrev pub needs_of : KvRequest → Rows ℕ → Sets
needs_of (Put id value) rows = record { reads = []; writes = key_of id ∷ [] }
needs_of (Get keys) rows = record { reads = asked keys; writes = [] }
needs_of (Add id amount) rows = record { reads = key_of id ∷ []; writes = key_of id ∷ [] }
needs_of (Move from to amount) rows = record { reads = pair_of from to; writes = pair_of from to }
needs_of (Follow id) rows = record { reads = followed id (finmap.get rows (key_of id)); writes = [] }

abbrev pub is_dependent : KvRequest → Bool
is_dependent (Follow id) = true
is_dependent _ = false

abbrev pub sum_outcome : ℕ → ℕ → Bool → KvReply × List (Key × ℕ)
sum_outcome id sum true = (Value sum, (key_of id, sum) ∷ [])
sum_outcome id sum false = (Limit, [])

abbrev pub moved : ℕ → ℕ → ℕ → ℕ → ℕ → KvReply × List (Key × ℕ)
moved from to amount source target =
    if nat_lt source amount then (Short, [])
    else (if from == to then (Done, [])
    else (if nat_lt (target + amount) (2 ^ 64) then (Done, (key_of from, source - amount) ∷ (key_of to, target + amount) ∷ [])
    else (Limit, [])))

-- the reply to a request, and what it writes; no number counts as 0 where one is added to it or moved
abbrev pub outcome_of : KvRequest → Rows ℕ → KvReply × List (Key × ℕ)
outcome_of (Put id value) rows = (Done, (key_of id, value) ∷ [])
outcome_of (Get keys) rows = (Values (map (finmap.get rows) (asked keys)), [])
outcome_of (Add id amount) rows = let sum = unwrap_or (finmap.get rows (key_of id)) 0 + amount in sum_outcome id sum (nat_lt sum (2 ^ 64))
outcome_of (Move from to amount) rows = moved from to amount (unwrap_or (finmap.get rows (key_of from)) 0) (unwrap_or (finmap.get rows (key_of to)) 0)
outcome_of (Follow id) rows = (Found (option_and_then (λ other. finmap.get rows (key_of other)) (finmap.get rows (key_of id))), [])

abbrev pub kv : Meaning KvRequest ℕ KvReply
kv = record { needs = needs_of; outcome = outcome_of }
