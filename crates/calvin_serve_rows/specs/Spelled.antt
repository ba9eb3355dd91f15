-- For private clauses: the JSON that spells rows and replies.
--     number_or_null n      the number, or null
--     customer_data c, item_data i, placed_data p      the JSON of a row of Stock
--     parts r      a reply's name, and the number that it tells
--     reply_data r, kept_data r      the JSON of a reply; of a row that is one
--     row_data key row      the JSON of a key and of a row of which the JSON is given
--     start_data epoch count      the JSON of the numbers of a start
use Rattle.std.specs.Prelude.{ℕ, List, Option, Some, None, codes}
use Rattle.serde_json.specs.Data.{Data, null, boolean, number, string, array, unsigned, no_items, item}
use Rattle.calvin_types.specs.declared.key.Key.{Key}
use Rattle.calvin_stock.specs.declared.reply.StockReply.{StockReply}
use Rattle.calvin_stock.specs.declared.reply.StockReply.TheVariants as reply
use Rattle.calvin_stock.specs.declared.rows.Customer.{Customer}
use Rattle.calvin_stock.specs.declared.rows.Item.{Item}
use Rattle.calvin_stock.specs.declared.rows.Placed.{Placed}

abbrev pub number_or_null : Option ℕ → Data
number_or_null None = null
number_or_null (Some n) = number (unsigned n)

abbrev pub customer_data : Customer → Data
customer_data c = array (item (string (codes "customer")) (item (number (unsigned c.balance)) (item (number_or_null c.last_order) no_items)))

abbrev pub item_data : Item → Data
item_data i = array (item (string (codes "item")) (item (number (unsigned i.stock)) (item (number (unsigned i.price)) no_items)))

abbrev pub placed_data : Placed → Data
placed_data p = array (item (string (codes "order")) (item (number (unsigned p.customer)) (item (number (unsigned p.total)) (item (boolean p.settled) no_items))))

abbrev pub parts : StockReply → List ℕ × Option ℕ
parts reply.Done = (codes "done", None)
parts reply.Limit = (codes "limit", None)
parts reply.Exists = (codes "exists", None)
parts reply.NoItem = (codes "noitem", None)
parts reply.NoCustomer = (codes "nocustomer", None)
parts reply.OrderExists = (codes "orderexists", None)
parts reply.Short = (codes "short", None)
parts (reply.Ordered n) = (codes "ordered", Some n)
parts reply.NothingOpen = (codes "nothingopen", None)
parts reply.Poor = (codes "poor", None)
parts (reply.Settled n) = (codes "settled", Some n)
parts (reply.Cents n) = (codes "cents", Some n)

abbrev pub named_data : List ℕ → Option ℕ → Data
named_data name None = array (item (string name) no_items)
named_data name (Some n) = array (item (string name) (item (number (unsigned n)) no_items))

abbrev pub reply_data : StockReply → Data
reply_data r = named_data (parts r).0 (parts r).1

abbrev pub kept_data : StockReply → Data
kept_data r = array (item (string (codes "reply")) (item (reply_data r) no_items))

abbrev pub row_data : Key → Data → Data
row_data key row = array (item (number (unsigned key.table)) (item (number (unsigned key.id)) (item row no_items)))

abbrev pub start_data : ℕ → ℕ → Data
start_data epoch count = array (item (string (codes "rows")) (item (number (unsigned epoch)) (item (number (unsigned count)) no_items)))
