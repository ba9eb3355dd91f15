-- Each request's name has its effect once: its reply is kept among the rows, and told again. It is of this project.
--     kept_key top id      where the reply to the request of this name is kept: in the table after the top one
--     with_key key sets      sets with one more key in both
--     is_narrow most top      whether there is room for one more key and one more table
--     IsAmongFew keys      keys that are among a few, fifteen at most
--     as_rows rows      rows of the application within, as rows beside kept replies
--     inside top rows      the rows of the application within: those of tables up to the top one
--     kept_at top rows id      the reply that is kept
--     kept_writes key done      what is written where something is done: its writes, and its reply under the key
--     once_outcome key kept done      the reply that is kept, or what is done
--     once m most top      what the application needs and does, round one of these limits
--     wrapped top t      a request with its name among its arguments, and with the key of its kept reply
use Rattle.std.specs.Prelude.{◌≡◌, ◌≤◌, length, ℕ, ◌+◌, ◌*◌, ◌^◌, ◌&&◌, Bool, true, nat_le, nat_lt, if◌then◌else◌, List, [], ◌∷◌, ◌++◌, map, Option, Some, None}
use Rattle.std.specs.FinMap as finmap
use Rattle.calvin_types.specs.declared.key.Key.{Key}
use Rattle.calvin_types.specs.declared.key_set.Sets.{Sets}
use Rattle.calvin_types.specs.declared.place.RequestId.{RequestId}
use Rattle.calvin_types.specs.declared.txn.Txn.{Txn}
use Rattle.calvin_types.specs.Keys.{has, insert_key}
use Rattle.calvin_app.specs.Rows.{Rows}
use Rattle.calvin_app.specs.Meaning.{Meaning}
use Rattle.calvin_once.specs.declared.kept.Named.{Named}
use Rattle.calvin_once.specs.declared.kept.OnceRow.{OnceRow}
use Rattle.calvin_once.specs.declared.kept.OnceRow.TheVariants as kept

abbrev pub kept_key : ℕ → RequestId → Key
kept_key top id = record { table = top + 1; id = id.client * 2 ^ 32 + id.number }

abbrev pub with_key : Key → Sets → Sets
with_key key s = record { reads = insert_key key s.reads; writes = insert_key key s.writes }

abbrev pub is_narrow : ℕ → ℕ → Bool
is_narrow most top = nat_le most 15 && nat_lt top 255

pub record IsAmongFew (keys : List Key) : Type 0 where
  pub few : List Key
  pub number : length few ≤ 15
  pub within : (q : Key) → has keys q ≡ true → has few q ≡ true

abbrev pub wrapped : {Args : Type 0} → ℕ → Txn Args → Txn (Named Args)
wrapped top t = record { id = t.id; attempt = t.attempt; args = record { id = t.id; args = t.args }; sets = with_key (kept_key top t.id) t.sets }

module _ {Row Reply : Type 0} where
  abbrev pub as_rows : List (Key × Row) → List (Key × OnceRow Row Reply)
  as_rows rows = map (λ w. (w.0, kept.Row w.1)) rows

  -- a row of the application within, in a table up to the top one; a kept reply counts as none
  abbrev pub inner : ℕ → Key × OnceRow Row Reply → List (Key × Row)
  inner top (k, kept.Row r) = if nat_le k.table top then (k, r) ∷ [] else []
  inner top (k, kept.Reply r) = []

  abbrev pub inner_entries : ℕ → List (Key × OnceRow Row Reply) → List (Key × Row)
  inner_entries top [] = []
  inner_entries top (e ∷ es) = inner top e ++ inner_entries top es

  abbrev pub inside : ℕ → Rows (OnceRow Row Reply) → Rows Row
  inside top rows = finmap.from_entries (inner_entries top (finmap.entries rows))

  -- rows with one more, if it is one of these
  abbrev pub with_inner : ℕ → Key × OnceRow Row Reply → Rows Row → Rows Row
  with_inner top (k, kept.Row r) rows = if nat_le k.table top then finmap.insert rows k r else rows
  with_inner top (k, kept.Reply r) rows = rows

  abbrev pub as_reply : Option (OnceRow Row Reply) → Option Reply
  as_reply (Some (kept.Reply r)) = Some r
  as_reply _ = None

  abbrev pub kept_at : ℕ → Rows (OnceRow Row Reply) → RequestId → Option Reply
  kept_at top rows id = as_reply (finmap.get rows (kept_key top id))

  abbrev pub kept_writes : Key → Reply × List (Key × Row) → List (Key × OnceRow Row Reply)
  kept_writes key done = as_rows done.1 ++ (key, kept.Reply done.0) ∷ []

  -- the reply that is kept, or what is done, and its reply kept
  abbrev pub once_outcome : Key → Option Reply → Reply × List (Key × Row) → Reply × List (Key × OnceRow Row Reply)
  once_outcome key (Some reply) done = (reply, [])
  once_outcome key None done = (done.0, kept_writes key done)

  -- where there is no room, no such application is made
  abbrev pub once : {Args : Type 0} → Meaning Args Row Reply → ℕ → ℕ → Meaning (Named Args) (OnceRow Row Reply) Reply
  once m most top = record {
    needs = λ a rows. if is_narrow most top then with_key (kept_key top a.id) (m.needs a.args (inside top rows)) else record { reads = []; writes = [] };
    outcome = λ a rows. if is_narrow most top then once_outcome (kept_key top a.id) (kept_at top rows a.id) (m.outcome a.args (inside top rows))
        else ((m.outcome a.args finmap.empty).0, []);
  }
