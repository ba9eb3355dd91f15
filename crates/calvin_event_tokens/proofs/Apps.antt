-- A script of events for an application names it.
use Rattle.std.proofs.Common.{◌≡◌, ◌^◌, ℕ, List, Bool, true, false, Option, Some, None, Result, Ok, Err, option_and_then, codes, bytes_eq, refl, ap, ◌∙◌}
use Rattle.std.specs.Prelude.{ok_or}
use Rattle.std.proofs.lemmas.Slice.Eq.{bytes_eq-Decides}
use Rattle.serde_json.specs.Find.{get, as_str}
use Rattle.calvin_types.specs.declared.fault.Fault.{Fault}
use Rattle.calvin_types.specs.declared.fault.Fault.TheVariants.{BadScript}
use Rattle.calvin_app.specs.declared.kv.KvRequest.{KvRequest}
use Rattle.calvin_once.specs.declared.kept.Named.{Named}
use Rattle.calvin_stock.specs.declared.request.StockRequest.{StockRequest}
use Rattle.calvin_order.specs.Configs.{store_config}
use Rattle.calvin_world.specs.declared.event.Event.{Event}
use Rattle.calvin_script.specs.declared.reading.AppName.{AppName}
use Rattle.calvin_script.specs.declared.reading.AppName.TheVariants.{Kv, Stock, Once}
use Rattle.calvin_script.specs.Spelling.{◌>>=◌, only_if, has_only, below, between, list, optional, where_given}
use Rattle.calvin_script.specs.Grammar.{Grammar}
use Rattle.calvin_script.specs.Documents.{Json, app_of}
use Rattle.calvin_script.specs.Reading.{and_then, json}
use Rattle.calvin_script.specs.KvOperations.{kv_grammar}
use Rattle.calvin_script.specs.StockOperations.{stock_grammar}
use Rattle.calvin_script.specs.OnceOperations.{once_grammar}
use Rattle.calvin_script_events.specs.EventForms.{event}
use Rattle.calvin_script_events.specs.EventScripts.{WorldContents, world_names, texts, world_script, world_script_in}
use Rattle.calvin_event_tokens.specs.EventReading.{AppEvents, OfKv, OfStock, OfOnce, events_for, events_by, app_events, event_script_from, events_from}

-- ---- the name

tested : {A : Type 0} (test : Bool) (x : Option A) (c : A) → only_if test x ≡ Some c → test ≡ true
tested true x c e = refl
tested false x c e = absurd (cc)

-- what the members spell, from the name on
abbrev from_name : {Args : Type 0} → List ℕ → ℕ → ℕ → List ℕ → Option ℕ → Option (Option ℕ) → Option (Option (List (List ℕ))) → Option (List (Event Args)) → Option (WorldContents Args)
from_name wanted p r a delay woven_from expect events = do
  d ← delay
  w ← woven_from
  x ← expect
  l ← events
  only_if (bytes_eq a wanted) (Some (record { config = store_config p r d w; events = l; expect = x }))

from_named : {Args : Type 0} (wanted : List ℕ) (p r : ℕ) (a : List ℕ) (delay : Option ℕ) (woven_from : Option (Option ℕ)) (expect : Option (Option (List (List ℕ)))) (events : Option (List (Event Args))) (c : WorldContents Args)
    → from_name wanted p r a delay woven_from expect events ≡ Some c → bytes_eq a wanted ≡ true
from_named wanted p r a None woven_from expect events c e = absurd (cc)
from_named wanted p r a (Some d) None expect events c e = absurd (cc)
from_named wanted p r a (Some d) (Some w) None events c e = absurd (cc)
from_named wanted p r a (Some d) (Some w) (Some x) None c e = absurd (cc)
from_named wanted p r a (Some d) (Some w) (Some x) (Some l) c e = tested (bytes_eq a wanted) _ c e

named_at : {Args : Type 0} (wanted : List ℕ) (test : Bool) (partitions replicas : Option ℕ) (name : Option (List ℕ)) (delay : Option ℕ) (woven_from : Option (Option ℕ)) (expect : Option (Option (List (List ℕ)))) (events : Option (List (Event Args))) (c : WorldContents Args)
    → only_if test (do
      p ← partitions
      r ← replicas
      a ← name
      from_name wanted p r a delay woven_from expect events) ≡ Some c
    → (a : List ℕ) × (name ≡ Some a) × (bytes_eq a wanted ≡ true)
named_at wanted false partitions replicas name delay woven_from expect events c e = absurd (cc)
named_at wanted true None replicas name delay woven_from expect events c e = absurd (cc)
named_at wanted true (Some p) None name delay woven_from expect events c e = absurd (cc)
named_at wanted true (Some p) (Some r) None delay woven_from expect events c e = absurd (cc)
named_at wanted true (Some p) (Some r) (Some a) delay woven_from expect events c e = (a, refl, from_named wanted p r a delay woven_from expect events c e)

app_named : {Args : Type 0} (grammar : Grammar Args) (d : Json) (c : WorldContents Args) → world_script grammar d ≡ Some c
    → (a : List ℕ) × (option_and_then as_str (get (codes "app") d) ≡ Some a) × (bytes_eq a grammar.app_name ≡ true)
unfolding world_script
app_named grammar d c e =
    named_at grammar.app_name (has_only world_names d) (option_and_then (between 1 16) (get (codes "partitions") d)) (option_and_then (between 1 7) (get (codes "replicas") d)) (option_and_then as_str (get (codes "app") d))
    (optional 0 (between 0 16) (get (codes "delay") d)) (where_given (below (2 ^ 48)) (get (codes "woven_from") d)) (where_given texts (get (codes "expect") d)) (option_and_then (list (event grammar)) (get (codes "events") d)) c e

kv_named : (d : Json) (c : WorldContents KvRequest) → world_script kv_grammar d ≡ Some c → app_of d ≡ Some Kv
kv_named d c e = let n = app_named kv_grammar d c e in rw (n.1, n.2) refl

stock_named : (d : Json) (c : WorldContents StockRequest) → world_script stock_grammar d ≡ Some c → app_of d ≡ Some Stock
stock_named d c e =
    let n = app_named stock_grammar d c e in
    let is : n.0 ≡ stock_grammar.app_name = (bytes_eq-Decides n.0 stock_grammar.app_name).0 n.2 in
    rw (n.1, is) refl

once_named : (d : Json) (c : WorldContents (Named StockRequest)) → world_script once_grammar d ≡ Some c → app_of d ≡ Some Once
once_named d c e =
    let n = app_named once_grammar d c e in
    let is : n.0 ≡ once_grammar.app_name = (bytes_eq-Decides n.0 once_grammar.app_name).0 n.2 in
    rw (n.1, is) refl

-- ---- for an application, then for that which is named

abbrev pick : {A : Type 0} → A → Result A Fault → A
pick x (Ok y) = y
pick x (Err fault) = x

spelled : {Args : Type 0} (o : Option (WorldContents Args)) (c : WorldContents Args) → ok_or o BadScript ≡ Ok c → o ≡ Some c
spelled None c e = absurd (cc)
spelled (Some x) c e = ap (λ r. Some (pick x r)) e

module _ {Args : Type 0} (grammar : Grammar Args) (of : WorldContents Args → AppEvents) (name : AppName) (by : (d : Json) → events_by d (Some name) ≡ events_for of (world_script_in grammar d))
    (named : (d : Json) (c : WorldContents Args) → world_script grammar d ≡ Some c → app_of d ≡ Some name) where
  by_name : (read : Result Json Fault) (c : WorldContents Args) → and_then read (world_script_in grammar) ≡ Ok c → and_then read app_events ≡ Ok (of c)
  by_name (Err fault) c e = absurd (cc)
  by_name (Ok d) c e =
      let is = spelled (world_script grammar d) c e in
      ap (events_by d) (named d c is) ∙ by d ∙ ap (λ o. events_for of (ok_or o BadScript)) is

  as_named : (bytes : List ℕ) (c : WorldContents Args) → events_from grammar bytes ≡ Ok c → event_script_from bytes ≡ Ok (of c)
  unfolding events_from event_script_from
  as_named bytes c e = by_name (json bytes) c e

pub kv_read : (bytes : List ℕ) (c : WorldContents KvRequest) → events_from kv_grammar bytes ≡ Ok c → event_script_from bytes ≡ Ok (OfKv c)
kv_read = as_named kv_grammar OfKv Kv (λ d. refl) kv_named

pub stock_read : (bytes : List ℕ) (c : WorldContents StockRequest) → events_from stock_grammar bytes ≡ Ok c → event_script_from bytes ≡ Ok (OfStock c)
stock_read = as_named stock_grammar OfStock Stock (λ d. refl) stock_named

pub once_read : (bytes : List ℕ) (c : WorldContents (Named StockRequest)) → events_from once_grammar bytes ≡ Ok c → event_script_from bytes ≡ Ok (OfOnce c)
once_read = as_named once_grammar OfOnce Once (λ d. refl) once_named
