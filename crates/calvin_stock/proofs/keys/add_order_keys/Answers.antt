use Rattle.std.proofs.Common.{◌≡◌, ◌+◌, [], ◌∷◌, drop, length, ap, ◌∙◌, arith, sym}
use Rattle.calvin_types.specs.Keys.{insert_key, insert_all}
use Rattle.calvin_types.proofs.Risings.{length-grows_by}
use Rattle.calvin_stock.specs.Stock.{item_keys}
use Rattle.calvin_stock.specs.StockRows.{customer_key}
use Rattle.calvin_stock.proofs.Lines.{keys_at, keys_end, behind_customer}
use Rattle.calvin_stock.proofs.keys.add_order_keys.Goals as goal

pub loop-i-init : goal.loop-i-init
loop-i-init c =
    let u = c.args.order.now.customer in
    let first : c.grow.new.self ≡ customer_key u ∷ [] = c.grow.ensures ∙ (λ j. insert_key (c.customer_key.ensures j) (c.requires j)) in
    record {
      so_far = ap (λ ks. insert_all (item_keys c.args.order.now.lines) ks) first ∙ behind_customer u c.args.order.now.lines [];
      few = omega (arith, ap length first);
    }

pub loop-i-preserved : goal.loop-i-preserved
loop-i-preserved c =
    let line = c.at.result in
    let keys_are = c.grow-in-loop-i.ensures ∙ ap (λ k. insert_key k c.loop-i.keys) c.item_key.ensures in
    record {
      so_far = ap (λ ks. insert_all (item_keys (drop (c.loop-i.i + 1) c.args.order.now.lines)) ks) keys_are ∙ sym (keys_at c.args.order.now.lines c.loop-i.i line c.loop-i.keys c.at.ensures) ∙ c.loop-i.invariant.so_far;
      few = omega (arith, ap length c.grow-in-loop-i.ensures, length-grows_by c.item_key.result c.loop-i.keys, c.loop-i.invariant.few);
    }

pub returns : goal.returns
returns c =
    c.grow-2.ensures
    ∙ ap (λ k. insert_key k c.loop-i.keys) c.order_key.ensures
    ∙ keys_end c.args.order.now.lines c.loop-i.i c.args.order.now.customer c.args.order.now.number c.loop-i.keys (omega (arith, c.len-i-end.ensures.len)) c.loop-i.invariant.so_far
