-- The cents of rows, whatever is asked.
use Rattle.std.proofs.Common.{◌≡◌, List, [], ◌∷◌, length, refl, sym, ◌∙◌, arith}
use Rattle.std.specs.FinMap as finmap
use Rattle.std.specs.List.{sum_by}
use Rattle.calvin_types.specs.declared.key.Key.{Key}
use Rattle.calvin_types.specs.declared.txn.Txn.{Txn}
use Rattle.calvin_types.specs.Keys.{key_cmp}
use Rattle.calvin_app.specs.declared.answer.Answer.{Answer}
use Rattle.calvin_app.specs.declared.answer.Answer.TheVariants as answer
use Rattle.calvin_app.specs.Serial.{serial}
use Rattle.calvin_stock.specs.declared.rows.StockRow.{StockRow}
use Rattle.calvin_stock.specs.declared.request.StockRequest.{StockRequest}
use Rattle.calvin_stock.specs.declared.request.StockRequest.TheVariants as request
use Rattle.calvin_stock.specs.declared.reply.StockReply.{StockReply}
use Rattle.calvin_stock.specs.StockRows.{customer_key, item_key, as_customer}
use Rattle.calvin_stock.specs.Stock.{stock}
use Rattle.calvin_stock.specs.Totals.{cents_of, cents_in, paid_one, paid, along}
use Rattle.calvin_stock.proofs.Flows.{FlowsSeen, all_flow}
use Rattle.calvin_stock.proofs.Seen.{has-alone}
use Rattle.calvin_stock.proofs.Cents.{unspent, pay_in_keeps, settle_keeps, restock_keeps, add_item_keeps, open_keeps, balance_keeps}
use Rattle.calvin_stock.proofs.CentsOfOrders.{place_keeps}

keeps : (a : StockRequest) → FlowsSeen cents_in paid_one unspent a
unfolding FlowsSeen
keeps (request.AddItem i s c) rows v same = add_item_keeps i s c rows (finmap.get v (item_key i)) (sym (same (item_key i) (has-alone (item_key i))))
keeps (request.Restock i s) rows v same = restock_keeps i s rows (finmap.get v (item_key i)) (sym (same (item_key i) (has-alone (item_key i))))
keeps (request.Open u) rows v same = open_keeps u rows (finmap.get v (customer_key u)) (sym (same (customer_key u) (has-alone (customer_key u))))
keeps (request.PayIn u c) rows v same = pay_in_keeps u c rows (finmap.get v (customer_key u)) (sym (same (customer_key u) (has-alone (customer_key u))))
keeps (request.Order o) rows v same = place_keeps o v rows (finmap.get v (customer_key o.customer)) refl same
keeps (request.Settle u) rows v same = settle_keeps u rows v (finmap.get v (customer_key u)) refl same
keeps (request.Balance u) rows v same = balance_keeps u rows (as_customer (finmap.get v (customer_key u)))

-- nothing is paid where sets have changed
idle : (a : StockRequest) → paid_one a answer.Changed ≡ unspent a answer.Changed
idle (request.PayIn u c) = refl
idle _ = refl

none_spent : (ts : List (Txn StockRequest)) (answers : List (Answer StockReply)) → along unspent ts answers ≡ 0
none_spent [] answers = refl
none_spent (t ∷ ts) [] = refl
none_spent (t ∷ ts) (a ∷ answers) = omega (arith, none_spent ts answers)

no_entries : (es : List (Key × StockRow)) → length es ≡ 0 → sum_by (λ (e : Key × StockRow). cents_of e.1) es ≡ 0
no_entries [] h = refl
no_entries (e ∷ es) h = absurd (cc)

-- what was paid in is there, after every list from no rows
pub cents_hold : (ts : List (Txn StockRequest)) → paid ts (serial stock ts finmap.empty).1 ≡ cents_in (serial stock ts finmap.empty).0
cents_hold ts =
    let none = no_entries (finmap.entries (finmap.empty {X = StockRow} {R = key_cmp})) (sym (finmap.len-entries finmap.empty) ∙ finmap.len-empty key_cmp StockRow) in
    let all = all_flow cents_in paid_one unspent keeps idle ts finmap.empty in
    omega (arith, none, all, none_spent ts (serial stock ts finmap.empty).1)
