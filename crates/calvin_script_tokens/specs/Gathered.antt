-- What is gathered of the members of a request, of a batch and of a script is what these spell. The notion is of this project.
--     spelled_by f name found      what the member of this name spells, where it is there
--     given seen x      x, where it was seen
--     HoldsRequest, HoldsBatch, HoldsScript grammar found gathered      what was gathered of the members that were found
use Rattle.std.specs.Prelude.{◌≡◌, ◌^◌, ℕ, Bool, true, false, List, map, Option, Some, None, option_map, codes}
use Rattle.serde_json.specs.Data.{Data, Members}
use Rattle.serde_json.specs.Find.{get_member, as_str}
use Rattle.calvin_types.specs.declared.limits.TheConstants.{MOST_EPOCHS, MOST_PARTITIONS}
use Rattle.calvin_script.specs.Spelling.{below, between, list, are_named, optional, where_given}
use Rattle.calvin_script.specs.KeyLists.{key, key_set}
use Rattle.calvin_script.specs.Grammar.{Grammar}
use Rattle.calvin_script.specs.declared.contents.Request.{Request}
use Rattle.calvin_script.specs.Requests.{request_names, request}
use Rattle.calvin_script.specs.Scripts.{all_listed, batch_names, batch, script_names}
use Rattle.calvin_script_tokens.specs.declared.batch.BatchMembers.{BatchMembers}
use Rattle.calvin_script_tokens.specs.declared.request.RequestMembers.{RequestMembers}
use Rattle.calvin_script_tokens.specs.declared.script.ScriptMembers.{ScriptMembers}
use Rattle.calvin_script_tokens.specs.Names.{nameless}

abbrev pub spelled_by : {A : Type 0} → (Data → Option A) → List ℕ → Members → Option (Option A)
spelled_by f name found = option_map f (get_member name found)

abbrev pub given : {A : Type 0} → Bool → A → Option (Option A)
given true x = Some (Some x)
given false x = None

pub record HoldsRequest {Args : Type 0} (grammar : Grammar Args) (found : Members) (r : RequestMembers Args) : Type 0 where
  pub client : spelled_by (below (2 ^ 32)) (codes "client") found ≡ given r.seen.client r.id.client
  pub own_number : spelled_by (below (2 ^ 32)) (codes "number") found ≡ given r.seen.number r.id.number
  pub op : spelled_by (grammar.operation nameless) (codes "op") found ≡ given r.seen.op r.args
  pub attempt : optional 1 (below (2 ^ 8)) (get_member (codes "attempt") found) ≡ Some r.attempt
  pub reads : spelled_by (key_set key) (codes "reads") found ≡ given r.seen.reads r.declared.reads
  pub writes : spelled_by (key_set key) (codes "writes") found ≡ given r.seen.writes r.declared.writes
  pub named : are_named request_names found ≡ true

pub record HoldsBatch {Args : Type 0} (grammar : Grammar Args) (found : Members) (b : BatchMembers (Request Args)) : Type 0 where
  pub group : spelled_by (below (2 ^ 8)) (codes "group") found ≡ option_map Some b.group
  pub requests : spelled_by (list (request grammar)) (codes "txns") found ≡ option_map (λ v. Some v.items) b.requests
  pub named : are_named batch_names found ≡ true

pub record HoldsScript {Args : Type 0} (grammar : Grammar Args) (found : Members) (s : ScriptMembers (Request Args)) : Type 0 where
  pub partitions : spelled_by (between 1 MOST_PARTITIONS) (codes "partitions") found ≡ option_map Some s.partitions
  pub app : spelled_by as_str (codes "app") found ≡ given s.has_app grammar.app_name
  pub woven_from : where_given (below MOST_EPOCHS) (get_member (codes "woven_from") found) ≡ Some s.woven_from
  pub epochs : spelled_by (list (list (batch grammar))) (codes "epochs") found ≡ option_map (λ v. Some (map all_listed v.items)) s.epochs
  pub named : are_named script_names found ≡ true
