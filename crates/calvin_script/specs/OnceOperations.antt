-- The operations of Stock, each request's name once, as they are written. The form of scripts is of this project.
--     once_stock      customers, items and orders, each request's name once
--     once_operation id d      one of Stock's operations, with the name of its request
--     once_completed a sets      declared sets with the key of the request's kept reply, where each then has sixteen keys at most
--     once_grammar      its name, its operations, and the sets of each on the empty view
use Rattle.std.specs.Prelude.{◌&&◌, length, nat_le, Option, Some, option_map, codes}
use Rattle.std.specs.FinMap as finmap
use Rattle.serde_json.specs.Data.{Data}
use Rattle.calvin_types.specs.declared.key_set.Sets.{Sets}
use Rattle.calvin_types.specs.declared.limits.TheConstants.{MOST_KEYS}
use Rattle.calvin_types.specs.declared.place.RequestId.{RequestId}
use Rattle.calvin_app.specs.Meaning.{Meaning}
use Rattle.calvin_once.specs.declared.kept.Named.{Named}
use Rattle.calvin_once.specs.declared.kept.OnceRow.{OnceRow}
use Rattle.calvin_once.specs.Once.{once, kept_key, with_key}
use Rattle.calvin_stock.specs.declared.reply.StockReply.{StockReply}
use Rattle.calvin_stock.specs.declared.request.StockRequest.{StockRequest}
use Rattle.calvin_stock.specs.declared.rows.StockRow.{StockRow}
use Rattle.calvin_stock.specs.Stock.{stock}
use Rattle.calvin_script.specs.Spelling.{only_if}
use Rattle.calvin_script.specs.Grammar.{Grammar}
use Rattle.calvin_script.specs.StockOperations.{stock_operation}

-- Stock's sets have at most six keys, of tables up to 3
abbrev pub once_stock : Meaning (Named StockRequest) (OnceRow StockRow StockReply) StockReply
once_stock = once stock 6 3

abbrev pub once_operation : RequestId → Data → Option (Named StockRequest)
once_operation id d = option_map (λ args. record { id = id; args = args }) (stock_operation d)

abbrev pub if_they_fit : Sets → Option Sets
if_they_fit sets = only_if (nat_le (length sets.reads) MOST_KEYS && nat_le (length sets.writes) MOST_KEYS) (Some sets)

abbrev pub once_completed : Named StockRequest → Sets → Option Sets
once_completed a sets = if_they_fit (with_key (kept_key 3 a.id) sets)

abbrev pub once_grammar : Grammar (Named StockRequest)
once_grammar = record { app_name = codes "once"; operation = once_operation; first_needs = λ a. once_stock.needs a finmap.empty; completed = once_completed }
