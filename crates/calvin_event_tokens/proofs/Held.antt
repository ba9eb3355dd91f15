-- One member more of a script of events.
use Rattle.std.proofs.Common.{◌≡◌, ◌^◌, ℕ, Vec, Global, String, true, Some, option_map, map, codes, string_bytes, refl, ap, ◌∙◌}
use Rattle.serde_json.specs.Data.{Data, Members, put}
use Rattle.serde_json.specs.Find.{as_str}
use Rattle.serde_json.proofs.Views.{get_member-put}
use Rattle.calvin_script.specs.Spelling.{below, between, list, optional, where_given}
use Rattle.calvin_script.specs.Grammar.{Grammar}
use Rattle.calvin_script.specs.declared.contents.Request.{Request}
use Rattle.calvin_script_events.specs.declared.event.ListedEvent.{ListedEvent}
use Rattle.calvin_script_events.specs.EventForms.{event_of, event}
use Rattle.calvin_script_events.specs.EventScripts.{world_names, texts}
use Rattle.calvin_script_tokens.proofs.Found.{named_put, found_other, spelled_same, spelled_other}
use Rattle.calvin_event_tokens.specs.declared.script.EventMembers.{EventMembers}
use Rattle.calvin_event_tokens.specs.Members.{HoldsEvents}

module _ {Args : Type 0} (grammar : Grammar Args) (found : Members) (d : Data) (s : EventMembers (Request Args)) (h : HoldsEvents grammar found s) where
  pub partitions_held : (x : ℕ) → between 1 16 d ≡ Some x → HoldsEvents grammar (put (codes "partitions") d found) (record s { partitions = Some x })
  partitions_held x means = record {
    partitions = spelled_same (codes "partitions") d found (between 1 16) x means;
    replicas = spelled_other (codes "partitions") d found (between 1 7) (codes "replicas") _ refl h.replicas;
    app = spelled_other (codes "partitions") d found as_str (codes "app") _ refl h.app;
    delay = ap (optional 0 (between 0 16)) (found_other (codes "partitions") d found (codes "delay") refl) ∙ h.delay;
    woven_from = ap (where_given (below (2 ^ 48))) (found_other (codes "partitions") d found (codes "woven_from") refl) ∙ h.woven_from;
    events = spelled_other (codes "partitions") d found (list (event grammar)) (codes "events") _ refl h.events;
    expect = ap (where_given texts) (found_other (codes "partitions") d found (codes "expect") refl) ∙ h.expect;
    named = named_put world_names (codes "partitions") d found refl h.named;
  }

  pub replicas_held : (x : ℕ) → between 1 7 d ≡ Some x → HoldsEvents grammar (put (codes "replicas") d found) (record s { replicas = Some x })
  replicas_held x means = record {
    partitions = spelled_other (codes "replicas") d found (between 1 16) (codes "partitions") _ refl h.partitions;
    replicas = spelled_same (codes "replicas") d found (between 1 7) x means;
    app = spelled_other (codes "replicas") d found as_str (codes "app") _ refl h.app;
    delay = ap (optional 0 (between 0 16)) (found_other (codes "replicas") d found (codes "delay") refl) ∙ h.delay;
    woven_from = ap (where_given (below (2 ^ 48))) (found_other (codes "replicas") d found (codes "woven_from") refl) ∙ h.woven_from;
    events = spelled_other (codes "replicas") d found (list (event grammar)) (codes "events") _ refl h.events;
    expect = ap (where_given texts) (found_other (codes "replicas") d found (codes "expect") refl) ∙ h.expect;
    named = named_put world_names (codes "replicas") d found refl h.named;
  }

  pub app_held : as_str d ≡ Some grammar.app_name → HoldsEvents grammar (put (codes "app") d found) (record s { has_app = true })
  app_held means = record {
    partitions = spelled_other (codes "app") d found (between 1 16) (codes "partitions") _ refl h.partitions;
    replicas = spelled_other (codes "app") d found (between 1 7) (codes "replicas") _ refl h.replicas;
    app = spelled_same (codes "app") d found as_str grammar.app_name means;
    delay = ap (optional 0 (between 0 16)) (found_other (codes "app") d found (codes "delay") refl) ∙ h.delay;
    woven_from = ap (where_given (below (2 ^ 48))) (found_other (codes "app") d found (codes "woven_from") refl) ∙ h.woven_from;
    events = spelled_other (codes "app") d found (list (event grammar)) (codes "events") _ refl h.events;
    expect = ap (where_given texts) (found_other (codes "app") d found (codes "expect") refl) ∙ h.expect;
    named = named_put world_names (codes "app") d found refl h.named;
  }

  pub delay_held : (x : ℕ) → between 0 16 d ≡ Some x → HoldsEvents grammar (put (codes "delay") d found) (record s { delay = x })
  delay_held x means = record {
    partitions = spelled_other (codes "delay") d found (between 1 16) (codes "partitions") _ refl h.partitions;
    replicas = spelled_other (codes "delay") d found (between 1 7) (codes "replicas") _ refl h.replicas;
    app = spelled_other (codes "delay") d found as_str (codes "app") _ refl h.app;
    delay = ap (optional 0 (between 0 16)) (get_member-put (codes "delay") d found) ∙ means;
    woven_from = ap (where_given (below (2 ^ 48))) (found_other (codes "delay") d found (codes "woven_from") refl) ∙ h.woven_from;
    events = spelled_other (codes "delay") d found (list (event grammar)) (codes "events") _ refl h.events;
    expect = ap (where_given texts) (found_other (codes "delay") d found (codes "expect") refl) ∙ h.expect;
    named = named_put world_names (codes "delay") d found refl h.named;
  }

  pub woven_from_held : (x : ℕ) → below (2 ^ 48) d ≡ Some x → HoldsEvents grammar (put (codes "woven_from") d found) (record s { woven_from = Some x })
  woven_from_held x means = record {
    partitions = spelled_other (codes "woven_from") d found (between 1 16) (codes "partitions") _ refl h.partitions;
    replicas = spelled_other (codes "woven_from") d found (between 1 7) (codes "replicas") _ refl h.replicas;
    app = spelled_other (codes "woven_from") d found as_str (codes "app") _ refl h.app;
    delay = ap (optional 0 (between 0 16)) (found_other (codes "woven_from") d found (codes "delay") refl) ∙ h.delay;
    woven_from = ap (where_given (below (2 ^ 48))) (get_member-put (codes "woven_from") d found) ∙ ap (option_map Some) means;
    events = spelled_other (codes "woven_from") d found (list (event grammar)) (codes "events") _ refl h.events;
    expect = ap (where_given texts) (found_other (codes "woven_from") d found (codes "expect") refl) ∙ h.expect;
    named = named_put world_names (codes "woven_from") d found refl h.named;
  }

  pub events_held : (x : Vec (ListedEvent (Request Args)) Global) → list (event grammar) d ≡ Some (map event_of x.items) → HoldsEvents grammar (put (codes "events") d found) (record s { events = Some x })
  events_held x means = record {
    partitions = spelled_other (codes "events") d found (between 1 16) (codes "partitions") _ refl h.partitions;
    replicas = spelled_other (codes "events") d found (between 1 7) (codes "replicas") _ refl h.replicas;
    app = spelled_other (codes "events") d found as_str (codes "app") _ refl h.app;
    delay = ap (optional 0 (between 0 16)) (found_other (codes "events") d found (codes "delay") refl) ∙ h.delay;
    woven_from = ap (where_given (below (2 ^ 48))) (found_other (codes "events") d found (codes "woven_from") refl) ∙ h.woven_from;
    events = spelled_same (codes "events") d found (list (event grammar)) (map event_of x.items) means;
    expect = ap (where_given texts) (found_other (codes "events") d found (codes "expect") refl) ∙ h.expect;
    named = named_put world_names (codes "events") d found refl h.named;
  }

  pub expect_held : (x : Vec (String Global) Global) → texts d ≡ Some (map string_bytes x.items) → HoldsEvents grammar (put (codes "expect") d found) (record s { expect = Some x })
  expect_held x means = record {
    partitions = spelled_other (codes "expect") d found (between 1 16) (codes "partitions") _ refl h.partitions;
    replicas = spelled_other (codes "expect") d found (between 1 7) (codes "replicas") _ refl h.replicas;
    app = spelled_other (codes "expect") d found as_str (codes "app") _ refl h.app;
    delay = ap (optional 0 (between 0 16)) (found_other (codes "expect") d found (codes "delay") refl) ∙ h.delay;
    woven_from = ap (where_given (below (2 ^ 48))) (found_other (codes "expect") d found (codes "woven_from") refl) ∙ h.woven_from;
    events = spelled_other (codes "expect") d found (list (event grammar)) (codes "events") _ refl h.events;
    expect = ap (where_given texts) (get_member-put (codes "expect") d found) ∙ ap (option_map Some) means;
    named = named_put world_names (codes "expect") d found refl h.named;
  }
