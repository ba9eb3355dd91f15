-- Scripts of events, and what they say. The form of scripts is of this project.
--     WorldContents Args      what the store is opened with, the events, and the texts that are expected, where they are given
--     texts v, world_contents s      the bytes of the texts, and what the script says, apart from where they lie in memory
--     world_script grammar d      `{"partitions":P,"replicas":R,"app":NAME,"events":[EVENT, ..]}`, with optional `"delay":N`, `"woven_from":E` and `"expect":[text, ..]`
--     world_script_in grammar d      the script of events that a piece of JSON is for an application, or BadScript
use Rattle.std.specs.Prelude.{ℕ, true, List, [], ◌∷◌, map, Option, Some, None, option_and_then, option_map, Result, ok_or, codes, bytes_eq, string_bytes}
use Rattle.serde_json.specs.Data.{Data}
use Rattle.serde_json.specs.Find.{get, as_str}
use Rattle.calvin_types.specs.declared.limits.TheConstants.{MOST_DELAY, MOST_EPOCHS, MOST_PARTITIONS, MOST_REPLICAS}
use Rattle.calvin_types.specs.declared.fault.Fault.{Fault}
use Rattle.calvin_types.specs.declared.fault.Fault.TheVariants.{BadScript}
use Rattle.calvin_order.specs.Configs.{Config, config_of, store_config}
use Rattle.calvin_world.specs.declared.event.Event.{Event}
use Rattle.calvin_script.specs.declared.contents.Request.{Request}
use Rattle.calvin_script.specs.Spelling.{◌>>=◌, only_if, has_only, below, between, list, optional, where_given}
use Rattle.calvin_script.specs.Grammar.{Grammar}
use Rattle.calvin_script_events.specs.declared.contents.EventScript.{EventScript}
use Rattle.calvin_script_events.specs.EventForms.{event_of, event}

pub record WorldContents (Args : Type 0) : Type 0 where
  pub config : Config
  pub events : List (Event Args)
  pub expect : Option (List (List ℕ))

abbrev pub world_names : List (List ℕ)
world_names = codes "partitions" ∷ codes "replicas" ∷ codes "app" ∷ codes "delay" ∷ codes "woven_from" ∷ codes "events" ∷ codes "expect" ∷ []

-- the texts that a list spells
abbrev pub texts : Data → Option (List (List ℕ))
texts d = list as_str d

module _ {Args : Type 0} where
  -- the script without where it lies in memory
  abbrev pub world_contents : EventScript (Request Args) → WorldContents Args
  world_contents s = record { config = config_of s.config true true; events = map event_of s.events.items; expect = option_map (λ v. map string_bytes v.items) s.expect }

  unfoldable pub world_script : Grammar Args → Data → Option (WorldContents Args)
  world_script grammar d = only_if (has_only world_names d) (do
    partitions ← option_and_then (between 1 MOST_PARTITIONS) (get (codes "partitions") d)
    replicas ← option_and_then (between 1 MOST_REPLICAS) (get (codes "replicas") d)
    app ← option_and_then as_str (get (codes "app") d)
    delay ← optional 0 (between 0 MOST_DELAY) (get (codes "delay") d)
    woven_from ← where_given (below MOST_EPOCHS) (get (codes "woven_from") d)
    expect ← where_given texts (get (codes "expect") d)
    events ← option_and_then (list (event grammar)) (get (codes "events") d)
    only_if (bytes_eq app grammar.app_name) (Some (record { config = store_config partitions replicas delay woven_from; events = events; expect = expect })))

  abbrev pub world_script_in : Grammar Args → Data → Result (WorldContents Args) Fault
  world_script_in grammar d = ok_or (world_script grammar d) BadScript
