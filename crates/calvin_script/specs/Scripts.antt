-- Scripts as they are written, and what they say. The form of scripts is of this project.
--     Contents Args      how many partitions there are, the first woven epoch, if there is one, and the batches that each epoch lists
--     requests_at contents slot      the requests listed for the slot's group in the slot's epoch; none where no batch is
--     batch_at contents slot      the batch that they are
--     are_taken requests      a sequencer takes each of them
--     batch_of group requests      the group's batch of these requests, where they may be one
--     script_of partitions woven_from epochs      the script of these epochs, where their groups fit
--     script grammar d      `{"partitions":P,"app":NAME,"epochs":[[{"group":G,"txns":[TXN, ..]}, ..], ..]}`, with optional `"woven_from":E`
use Rattle.std.specs.Prelude.{ℕ, ◌&&◌, ◌^◌, List, [], ◌∷◌, length, map, Bool, true, not, nat_lt, nat_le, nat_eq, if◌then◌else◌, Option, Some, option_and_then, codes, bytes_eq, get_or}
use Rattle.std.specs.List.{list_any, list_all}
use Rattle.serde_json.specs.Data.{Data}
use Rattle.serde_json.specs.Find.{get, as_str}
use Rattle.calvin_types.specs.declared.limits.TheConstants.{MOST_EPOCHS, MOST_PARTITIONS, MOST_REQUESTS}
use Rattle.calvin_types.specs.declared.place.Slot.{Slot}
use Rattle.calvin_types.specs.declared.txn.Txn.{Txn}
use Rattle.calvin_types.specs.Submitting.{is_taken}
use Rattle.calvin_script.specs.declared.contents.Request.{Request}
use Rattle.calvin_script.specs.declared.contents.GroupBatch.{GroupBatch}
use Rattle.calvin_script.specs.declared.contents.Epoch.{Epoch}
use Rattle.calvin_script.specs.declared.contents.Script.{Script}
use Rattle.calvin_script.specs.Spelling.{◌>>=◌, only_if, has_only, below, between, list, where_given}
use Rattle.calvin_script.specs.Grammar.{Grammar}
use Rattle.calvin_script.specs.Requests.{request}

-- a group, and the batch that is listed for it
pub record Listed (Args : Type 0) : Type 0 where
  pub group : ℕ
  pub requests : List (Request Args)

pub record Contents (Args : Type 0) : Type 0 where
  pub partitions : ℕ
  pub woven_from : Option ℕ
  pub epochs : List (List (Listed Args))

abbrev pub batch_names : List (List ℕ)
batch_names = codes "group" ∷ codes "txns" ∷ []

abbrev pub script_names : List (List ℕ)
script_names = codes "partitions" ∷ codes "app" ∷ codes "woven_from" ∷ codes "epochs" ∷ []

module _ {Args : Type 0} where
  -- the requests that are listed for a group
  abbrev pub requests_of : ℕ → List (Listed Args) → List (Request Args)
  requests_of group [] = []
  requests_of group (b ∷ bs) = if nat_eq b.group group then b.requests else requests_of group bs

  abbrev pub requests_at : Contents Args → Slot → List (Request Args)
  requests_at contents slot = requests_of slot.group (get_or contents.epochs slot.epoch [])

  abbrev pub batch_at : Contents Args → Slot → List (Txn Args)
  batch_at contents slot = map (λ r. r.txn) (requests_at contents slot)

  -- ---- values without where they lie in memory

  abbrev pub listed : GroupBatch (Request Args) → Listed Args
  listed b = record { group = b.group; requests = b.requests.items }

  abbrev pub all_listed : Epoch (Request Args) → List (Listed Args)
  all_listed e = map listed e.batches.items

  abbrev pub contents : Script (Request Args) → Contents Args
  contents s = record { partitions = s.partitions; woven_from = s.woven_from; epochs = map all_listed s.epochs.items }

  -- ---- what is written

  abbrev pub are_taken : List (Request Args) → Bool
  are_taken requests = list_all (λ r. is_taken r.txn) requests

  -- at most as many requests as a batch has, each of which a sequencer takes
  abbrev pub batch_of : ℕ → List (Request Args) → Option (Listed Args)
  batch_of group requests = only_if (nat_le (length requests) MOST_REQUESTS && are_taken requests) (Some (record { group = group; requests = requests }))

  -- `{"group":G,"txns":[TXN, ..]}`
  unfoldable pub batch : Grammar Args → Data → Option (Listed Args)
  batch grammar d = only_if (has_only batch_names d) (do
    group ← option_and_then (below (2 ^ 8)) (get (codes "group") d)
    requests ← option_and_then (list (request grammar)) (get (codes "txns") d)
    batch_of group requests)

  -- each group is one of the partitions, and none is listed twice
  abbrev pub groups_fit : ℕ → List (Listed Args) → Bool
  groups_fit partitions [] = true
  groups_fit partitions (b ∷ bs) = nat_lt b.group partitions && not (list_any (λ c. nat_eq c.group b.group) bs) && groups_fit partitions bs

  abbrev pub script_of : ℕ → Option ℕ → List (List (Listed Args)) → Option (Contents Args)
  script_of partitions woven_from epochs = only_if (list_all (groups_fit partitions) epochs) (Some (record { partitions = partitions; woven_from = woven_from; epochs = epochs }))

  unfoldable pub script : Grammar Args → Data → Option (Contents Args)
  script grammar d = only_if (has_only script_names d) (do
    partitions ← option_and_then (between 1 MOST_PARTITIONS) (get (codes "partitions") d)
    app ← option_and_then as_str (get (codes "app") d)
    woven_from ← where_given (below MOST_EPOCHS) (get (codes "woven_from") d)
    epochs ← option_and_then (list (list (batch grammar))) (get (codes "epochs") d)
    only_if (bytes_eq app grammar.app_name) (script_of partitions woven_from epochs))
