-- A script for the application that it names. The form of scripts is of this project.
--     AppContents      what a script says, and for which application
--     app_contents script      the same of a script, apart from where it lies in memory
--     app_script d      the script that a piece of JSON is for the application that it names, or BadScript
--     app_script_from bytes      the script that bytes are for the application that they name, or BadJson, or BadScript
--     IsReadAs script bytes      the bytes are this script, of its application
use Rattle.std.specs.Prelude.{◌≡◌, ℕ, List, Option, Some, None, Result, Ok, Err}
use Rattle.calvin_types.specs.declared.fault.Fault.{Fault}
use Rattle.calvin_types.specs.declared.fault.Fault.TheVariants.{BadScript}
use Rattle.calvin_app.specs.declared.kv.KvRequest.{KvRequest}
use Rattle.calvin_once.specs.declared.kept.Named.{Named}
use Rattle.calvin_stock.specs.declared.request.StockRequest.{StockRequest}
use Rattle.calvin_script.specs.declared.reading.AppName.{AppName}
use Rattle.calvin_script.specs.declared.reading.AppName.TheVariants as app
use Rattle.calvin_script.specs.declared.reading.AppScript.{AppScript}
use Rattle.calvin_script.specs.declared.reading.AppScript.TheVariants as script
use Rattle.calvin_script.specs.Documents.{Json, app_of, script_in}
use Rattle.calvin_script.specs.Reading.{and_then, json, script_from}
use Rattle.calvin_script.specs.Scripts.{Contents, contents}
use Rattle.calvin_script.specs.KvOperations.{kv_grammar}
use Rattle.calvin_script.specs.StockOperations.{stock_grammar}
use Rattle.calvin_script.specs.OnceOperations.{once_grammar}

pub data AppContents : Type 0 where
  OfKv : (script : Contents KvRequest) → AppContents
  OfStock : (script : Contents StockRequest) → AppContents
  OfOnce : (script : Contents (Named StockRequest)) → AppContents

abbrev pub app_contents : AppScript → AppContents
app_contents (script.Kv s) = OfKv (contents s)
app_contents (script.Stock s) = OfStock (contents s)
app_contents (script.Once s) = OfOnce (contents s)

abbrev pub script_for : {Args : Type 0} → (Contents Args → AppContents) → Result (Contents Args) Fault → Result AppContents Fault
script_for of read = and_then read (λ s. Ok (of s))

abbrev pub script_by : Json → Option AppName → Result AppContents Fault
script_by d None = Err BadScript
script_by d (Some app.Kv) = script_for OfKv (script_in kv_grammar d)
script_by d (Some app.Stock) = script_for OfStock (script_in stock_grammar d)
script_by d (Some app.Once) = script_for OfOnce (script_in once_grammar d)

abbrev pub app_script : Json → Result AppContents Fault
app_script d = script_by d (app_of d)

unfoldable pub app_script_from : List ℕ → Result AppContents Fault
app_script_from bytes = and_then (json bytes) app_script

abbrev pub IsReadAs : AppContents → List ℕ → Type 0
IsReadAs (OfKv script) bytes = script_from kv_grammar bytes ≡ Ok script
IsReadAs (OfStock script) bytes = script_from stock_grammar bytes ≡ Ok script
IsReadAs (OfOnce script) bytes = script_from once_grammar bytes ≡ Ok script
