-- What is written of answers. The texts are of this project.
--     place_text p, id_text id      `epoch.n` and `client:number`
--     kv_text reply, stock_text reply      a reply of Kv, a reply of Stock
--     line show p id answer      `epoch.n client:number answer`
--     lines show order answers      a line for each request with its answer
--     finished_at last, finished n      the last line: the last epoch, if there is one; the last of n epochs
use Rattle.std.specs.Prelude.{ℕ, zero, suc, List, [], ◌∷◌, ◌++◌, codes, decimal, Option, Some, None}
use Rattle.std.specs.List.{flat_map}
use Rattle.calvin_types.specs.declared.place.Place.{Place}
use Rattle.calvin_types.specs.declared.place.RequestId.{RequestId}
use Rattle.calvin_types.specs.Orders.{Order}
use Rattle.calvin_app.specs.declared.answer.Answer.{Answer}
use Rattle.calvin_app.specs.declared.answer.Answer.TheVariants as answer
use Rattle.calvin_app.specs.declared.kv.KvReply.{KvReply}
use Rattle.calvin_app.specs.declared.kv.KvReply.TheVariants as reply
use Rattle.calvin_stock.specs.declared.reply.StockReply.{StockReply}
use Rattle.calvin_stock.specs.declared.reply.StockReply.TheVariants as told

abbrev pub place_text : Place → List ℕ
place_text p = decimal p.epoch ++ codes "." ++ decimal p.n

abbrev pub id_text : RequestId → List ℕ
id_text id = decimal id.client ++ codes ":" ++ decimal id.number

-- a number under a key, or that there is none
abbrev pub value_text : Option ℕ → List ℕ
value_text (Some n) = codes "value " ++ decimal n
value_text None = codes "none"

-- for each key its number or none, joined by one space
abbrev pub values_text : List (Option ℕ) → List ℕ
values_text [] = []
values_text (v ∷ vs) = value_text v ++ flat_map (λ w. codes " " ++ value_text w) vs

abbrev pub kv_text : KvReply → List ℕ
kv_text reply.Done = codes "done"
kv_text reply.Limit = codes "limit"
kv_text reply.Short = codes "short"
kv_text (reply.Value sum) = value_text (Some sum)
kv_text (reply.Values values) = values_text values
kv_text (reply.Found value) = value_text value

abbrev pub stock_text : StockReply → List ℕ
stock_text told.Done = codes "done"
stock_text told.Limit = codes "limit"
stock_text told.Exists = codes "exists"
stock_text told.NoItem = codes "noitem"
stock_text told.NoCustomer = codes "nocustomer"
stock_text told.OrderExists = codes "orderexists"
stock_text told.Short = codes "short"
stock_text (told.Ordered total) = codes "ordered " ++ decimal total
stock_text told.NothingOpen = codes "nothingopen"
stock_text told.Poor = codes "poor"
stock_text (told.Settled total) = codes "settled " ++ decimal total
stock_text (told.Cents balance) = codes "cents " ++ decimal balance

module _ {Reply : Type 0} (show : Reply → List ℕ) where
  abbrev pub answer_text : Answer Reply → List ℕ
  answer_text (answer.Reply r) = show r
  answer_text answer.Changed = codes "changed"

  abbrev pub line : Place → RequestId → Answer Reply → List ℕ
  line p id a = place_text p ++ codes " " ++ id_text id ++ codes " " ++ answer_text a ++ codes "\n"

  abbrev pub lines : {Args : Type 0} → Order Args → List (Answer Reply) → List ℕ
  lines [] answers = []
  lines (e ∷ es) [] = []
  lines (e ∷ es) (a ∷ answers) = line e.0 e.1.id a ++ lines es answers

-- the last line: the last epoch that is finished, if there is one
abbrev pub finished_at : Option ℕ → List ℕ
finished_at None = codes "finished none\n"
finished_at (Some e) = codes "finished " ++ decimal e ++ codes "\n"

-- the last of n epochs
abbrev pub finished : ℕ → List ℕ
finished zero = finished_at None
finished (suc e) = finished_at (Some e)
