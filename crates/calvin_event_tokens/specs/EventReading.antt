-- The script of events that bytes are, or why they are none. The form of scripts is of this project.
--     AppEvents      what a script of events says, and for which application
--     event_contents script      the same of a script, apart from where it lies in memory
--     app_events d      the script of events that a piece of JSON is for the application that it names, or BadScript
--     event_script_from bytes      the script of events that bytes are for the application that they name, or BadJson, or BadScript
--     events_from grammar bytes      the script of events that bytes are for an application, or BadJson, or BadScript
use Rattle.std.specs.Prelude.{ℕ, List, Option, Some, None, Result, Ok, Err}
use Rattle.calvin_types.specs.declared.fault.Fault.{Fault}
use Rattle.calvin_types.specs.declared.fault.Fault.TheVariants.{BadScript}
use Rattle.calvin_app.specs.declared.kv.KvRequest.{KvRequest}
use Rattle.calvin_once.specs.declared.kept.Named.{Named}
use Rattle.calvin_stock.specs.declared.request.StockRequest.{StockRequest}
use Rattle.calvin_script.specs.declared.reading.AppName.{AppName}
use Rattle.calvin_script.specs.declared.reading.AppName.TheVariants as app
use Rattle.calvin_script.specs.Documents.{Json, app_of}
use Rattle.calvin_script.specs.Grammar.{Grammar}
use Rattle.calvin_script.specs.Reading.{and_then, json}
use Rattle.calvin_script.specs.KvOperations.{kv_grammar}
use Rattle.calvin_script.specs.StockOperations.{stock_grammar}
use Rattle.calvin_script.specs.OnceOperations.{once_grammar}
use Rattle.calvin_script_events.specs.EventScripts.{WorldContents, world_contents, world_script_in}
use Rattle.calvin_event_tokens.specs.declared.contents.AppEventScript.{AppEventScript}
use Rattle.calvin_event_tokens.specs.declared.contents.AppEventScript.TheVariants as script

pub data AppEvents : Type 0 where
  OfKv : (script : WorldContents KvRequest) → AppEvents
  OfStock : (script : WorldContents StockRequest) → AppEvents
  OfOnce : (script : WorldContents (Named StockRequest)) → AppEvents

abbrev pub event_contents : AppEventScript → AppEvents
event_contents (script.Kv s) = OfKv (world_contents s)
event_contents (script.Stock s) = OfStock (world_contents s)
event_contents (script.Once s) = OfOnce (world_contents s)

abbrev pub events_for : {Args : Type 0} → (WorldContents Args → AppEvents) → Result (WorldContents Args) Fault → Result AppEvents Fault
events_for of read = and_then read (λ s. Ok (of s))

abbrev pub events_by : Json → Option AppName → Result AppEvents Fault
events_by d None = Err BadScript
events_by d (Some app.Kv) = events_for OfKv (world_script_in kv_grammar d)
events_by d (Some app.Stock) = events_for OfStock (world_script_in stock_grammar d)
events_by d (Some app.Once) = events_for OfOnce (world_script_in once_grammar d)

abbrev pub app_events : Json → Result AppEvents Fault
app_events d = events_by d (app_of d)

unfoldable pub event_script_from : List ℕ → Result AppEvents Fault
event_script_from bytes = and_then (json bytes) app_events

unfoldable pub events_from : {Args : Type 0} → Grammar Args → List ℕ → Result (WorldContents Args) Fault
events_from grammar bytes = and_then (json bytes) (world_script_in grammar)
