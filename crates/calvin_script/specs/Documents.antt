-- A piece of JSON that may be a script. The form of scripts is of this project.
--     Json      a piece of JSON, as serde_json's specifications have it
--     data_of document      the JSON that it is
--     app_of d      the application that is named, where there is one of that name
--     script_in grammar d      the script that it is for an application, or BadScript
use Rattle.std.specs.Prelude.{if◌then◌else◌, Option, Some, Result, option_and_then, ok_or, codes, bytes_eq}
use Rattle.serde_json.specs.Data.{Data}
use Rattle.serde_json.specs.Find.{get, as_str}
use Rattle.serde_json.specs.View.{view}
use Rattle.calvin_types.specs.declared.fault.Fault.{Fault}
use Rattle.calvin_types.specs.declared.fault.Fault.TheVariants.{BadScript}
use Rattle.calvin_script.specs.declared.reading.AppName.{AppName}
use Rattle.calvin_script.specs.declared.reading.AppName.TheVariants.{Kv, Stock, Once}
use Rattle.calvin_script.specs.declared.reading.Document.{Document}
use Rattle.calvin_script.specs.Spelling.{◌>>=◌, only_if}
use Rattle.calvin_script.specs.Grammar.{Grammar}
use Rattle.calvin_script.specs.KvOperations.{kv_grammar}
use Rattle.calvin_script.specs.StockOperations.{stock_grammar}
use Rattle.calvin_script.specs.OnceOperations.{once_grammar}
use Rattle.calvin_script.specs.Scripts.{Contents, script}

abbrev pub Json : Type 0
Json = Data

abbrev pub data_of : Document → Json
data_of document = view document.value

-- the application of the member `app`
abbrev pub app_of : Json → Option AppName
app_of d = do
  name ← option_and_then as_str (get (codes "app") d)
  if bytes_eq name kv_grammar.app_name then Some Kv
      else (if bytes_eq name stock_grammar.app_name then Some Stock
      else only_if (bytes_eq name once_grammar.app_name) (Some Once))

abbrev pub script_in : {Args : Type 0} → Grammar Args → Json → Result (Contents Args) Fault
script_in grammar d = ok_or (script grammar d) BadScript
