-- Events and scripts of events, from their parts.
use Rattle.std.proofs.Common.{◌≡◌, ℕ, List, [], true, Some, Ok, option_map, map, codes, string_bytes, refl, ◌∙◌, arith, IsUtf8}
use Rattle.std.specs.Prelude.{bytes_eq}
use Rattle.std.proofs.lemmas.Str.{is_utf8-from_IsUtf8}
use Rattle.std.proofs.lemmas.Slice.Eq.{bytes_eq-Decides}
use Rattle.json.specs.Token.{Token}
use Rattle.json.specs.Lex.{tokens}
use Rattle.json.specs.Json.{value}
use Rattle.serde_json.specs.Data.{Members, object}
use Rattle.serde_json.specs.Find.{get_member, as_str}
use Rattle.serde_json.specs.Read.{read}
use Rattle.calvin_order.specs.Configs.{store_config}
use Rattle.calvin_world.specs.declared.event.Event.{Event}
use Rattle.calvin_script.specs.Spelling.{between, list}
use Rattle.calvin_script.specs.Grammar.{Grammar}
use Rattle.calvin_script.specs.declared.contents.Request.{Request}
use Rattle.calvin_script.specs.Reading.{json}
use Rattle.calvin_script_events.specs.EventForms.{event_of, event}
use Rattle.calvin_script_events.specs.EventScripts.{WorldContents, world_script}
use Rattle.calvin_script_tokens.specs.Spelled.{Spells}
use Rattle.calvin_script_tokens.proofs.Found.{there}
use Rattle.calvin_script_tokens.proofs.Turns.{whole_read}
use Rattle.calvin_event_tokens.specs.declared.script.EventMembers.{EventMembers}
use Rattle.calvin_event_tokens.specs.EventReading.{events_from}
use Rattle.calvin_event_tokens.specs.Members.{HoldsEvents}

module _ {Args : Type 0} (grammar : Grammar Args) where
  pub script_spelled : (found : Members) (m : EventMembers (Request Args)) (partitions replicas : ℕ) (events : List (Event Args)) → HoldsEvents grammar found m → m.has_app ≡ true
      → option_map Some m.partitions ≡ Some (Some partitions) → option_map Some m.replicas ≡ Some (Some replicas) → option_map (λ v. Some (map event_of v.items)) m.events ≡ Some (Some events)
      → world_script grammar (object found) ≡ Some (record { config = store_config partitions replicas m.delay m.woven_from; events = events; expect = option_map (λ v. map string_bytes v.items) m.expect })
  unfolding world_script
  script_spelled found m partitions replicas events h app p r l =
      let a = there as_str (get_member (codes "app") found) grammar.app_name (rw app at h.app) in
      let n = there (between 1 16) (get_member (codes "partitions") found) partitions (h.partitions ∙ p) in
      let q = there (between 1 7) (get_member (codes "replicas") found) replicas (h.replicas ∙ r) in
      let e = there (list (event grammar)) (get_member (codes "events") found) events (h.events ∙ l) in
      let same : bytes_eq grammar.app_name grammar.app_name ≡ true = (bytes_eq-Decides grammar.app_name grammar.app_name).1 refl in
      rw (h.named, n.1, q.1, a.1, e.1, n.2, q.2, a.2, h.delay, h.woven_from, h.expect, e.2, same) refl

  pub script_read : (bytes : List ℕ) (x : WorldContents Args) (rest : List Token) → IsUtf8 bytes → Spells (world_script grammar) 125 (tokens bytes) x rest → rest ≡ [] → events_from grammar bytes ≡ Ok x
  unfolding events_from json
  script_read bytes x rest u s none =
      let whole : read bytes ≡ Some s.piece = whole_read (value 127 (tokens bytes)) s.piece (rw none at (s.reads.at 127 (omega arith))) in
      rw (is_utf8-from_IsUtf8 bytes u, whole, s.means) refl
