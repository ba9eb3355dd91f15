-- What is gathered of the members of a script of events is what these spell. The notion is of this project.
--     HoldsEvents grammar found gathered      what was gathered of the members that were found
use Rattle.std.specs.Prelude.{◌≡◌, true, map, Some, option_map, codes, string_bytes}
use Rattle.serde_json.specs.Data.{Members}
use Rattle.serde_json.specs.Find.{get_member, as_str}
use Rattle.calvin_types.specs.declared.limits.TheConstants.{MOST_DELAY, MOST_EPOCHS, MOST_PARTITIONS, MOST_REPLICAS}
use Rattle.calvin_script.specs.Spelling.{below, between, list, are_named, optional, where_given}
use Rattle.calvin_script.specs.Grammar.{Grammar}
use Rattle.calvin_script.specs.declared.contents.Request.{Request}
use Rattle.calvin_script_events.specs.EventForms.{event_of, event}
use Rattle.calvin_script_events.specs.EventScripts.{world_names, texts}
use Rattle.calvin_script_tokens.specs.Gathered.{spelled_by, given}
use Rattle.calvin_event_tokens.specs.declared.script.EventMembers.{EventMembers}

pub record HoldsEvents {Args : Type 0} (grammar : Grammar Args) (found : Members) (s : EventMembers (Request Args)) : Type 0 where
  pub partitions : spelled_by (between 1 MOST_PARTITIONS) (codes "partitions") found ≡ option_map Some s.partitions
  pub replicas : spelled_by (between 1 MOST_REPLICAS) (codes "replicas") found ≡ option_map Some s.replicas
  pub app : spelled_by as_str (codes "app") found ≡ given s.has_app grammar.app_name
  pub delay : optional 0 (between 0 MOST_DELAY) (get_member (codes "delay") found) ≡ Some s.delay
  pub woven_from : where_given (below MOST_EPOCHS) (get_member (codes "woven_from") found) ≡ Some s.woven_from
  pub events : spelled_by (list (event grammar)) (codes "events") found ≡ option_map (λ v. Some (map event_of v.items)) s.events
  pub expect : where_given texts (get_member (codes "expect") found) ≡ Some (option_map (λ v. map string_bytes v.items) s.expect)
  pub named : are_named world_names found ≡ true
