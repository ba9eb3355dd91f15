-- The rows of Stock, each request's name once, as a journal keeps them: rows of Stock and kept replies. The form is of this project.
--     plain_reply name      the reply of this name that tells no number
--     reply d      a reply: a list of its name and of the number that it tells, if it tells one
--     kept_reply d      the reply that stands behind the name `reply`
--     once_row d      it, or a row of Stock
use Rattle.std.specs.Prelude.{ℕ, List, if◌then◌else◌, Option, Some, option_and_then, option_map, is_none, codes, bytes_eq}
use Rattle.serde_json.specs.Data.{Data}
use Rattle.serde_json.specs.Find.{at, as_str}
use Rattle.calvin_once.specs.declared.kept.OnceRow.{OnceRow}
use Rattle.calvin_once.specs.declared.kept.OnceRow.TheVariants as kept
use Rattle.calvin_stock.specs.declared.reply.StockReply.{StockReply}
use Rattle.calvin_stock.specs.declared.reply.StockReply.TheVariants as reply
use Rattle.calvin_stock.specs.declared.rows.StockRow.{StockRow}
use Rattle.calvin_script.specs.Spelling.{◌>>=◌, only_if}
use Rattle.calvin_script.specs.Numbers.{one_number}
use Rattle.calvin_serve_rows.specs.StockForms.{stock_row}

abbrev pub plain_reply : List ℕ → Option StockReply
plain_reply name =
    if bytes_eq name (codes "done") then Some reply.Done
    else (if bytes_eq name (codes "limit") then Some reply.Limit
    else (if bytes_eq name (codes "exists") then Some reply.Exists
    else (if bytes_eq name (codes "noitem") then Some reply.NoItem
    else (if bytes_eq name (codes "nocustomer") then Some reply.NoCustomer
    else (if bytes_eq name (codes "orderexists") then Some reply.OrderExists
    else (if bytes_eq name (codes "short") then Some reply.Short
    else (if bytes_eq name (codes "nothingopen") then Some reply.NothingOpen
    else only_if (bytes_eq name (codes "poor")) (Some reply.Poor))))))))

-- `["ordered",total]`, `["settled",total]`, `["cents",balance]`, and `[NAME]` for the others
unfoldable pub reply_of : Data → Option StockReply
reply_of d = do
  name ← option_and_then as_str (at 0 d)
  if bytes_eq name (codes "ordered") then option_map reply.Ordered (one_number d)
      else (if bytes_eq name (codes "settled") then option_map reply.Settled (one_number d)
      else (if bytes_eq name (codes "cents") then option_map reply.Cents (one_number d)
      else only_if (is_none (at 1 d)) (plain_reply name)))

-- `["reply",REPLY]`
unfoldable pub kept_reply : Data → Option StockReply
kept_reply d = only_if (is_none (at 2 d)) (option_and_then reply_of (at 1 d))

unfoldable pub once_row : Data → Option (OnceRow StockRow StockReply)
once_row d = do
  name ← option_and_then as_str (at 0 d)
  if bytes_eq name (codes "reply") then option_map kept.Reply (kept_reply d) else option_map kept.Row (stock_row d)
