use Rattle.std.proofs.Common.{◌≡◌, Some, None, sym, ap, ◌∙◌, arith, rules}
use Rattle.calvin_types.specs.Keys.{has}
use Rattle.calvin_app.specs.Writing.{keys_of}
use Rattle.calvin_stock.specs.declared.rows.StockRow.TheVariants as row
use Rattle.calvin_stock.specs.Operations.{line_fault, cost, left}
use Rattle.calvin_stock.specs.StockRows.{item_at}
use Rattle.calvin_stock.proofs.Lines.{fault_at, total_at, untaken, taken_at, taken_room}
use Rattle.calvin_stock.proofs.placing.take_lines.Goals as goal

pub push-requires : goal.push-requires
push-requires c = (
  search rules,
  (
    taken_room c.args.view.now c.args.lines.now c.loop-i.i c.at-line.result c.loop-i.writes c.at-line.ensures c.loop-i.invariant.taken (omega (arith, c.len-i-end.ensures.at_most)),
    (λ j. has (keys_of (c.loop-i.invariant.taken j)) (c.item_key.ensures j))
        ∙ untaken c.args.view.now c.args.lines.now c.loop-i.i c.at-line.result c.requires.distinct c.at-line.ensures,
  ),
)

pub loop-i-preserved : goal.loop-i-preserved
loop-i-preserved c =
    let line = c.at-line.result in
    let next = total_at c.args.lines.now c.loop-i.i c.args.view.now line c.at-line.ensures in
    let paid = c.in_ok-cents.ensures.cost in
    let cost_is : c.in_ok-cents.cents ≡ cost line (item_at c.args.view.now line.item) = paid.1 ∙ ap (cost line) c.item_in-found.ensures in
    record {
      faultless = sym (fault_at c.args.lines.now c.loop-i.i c.args.view.now line None c.at-line.ensures (sym paid.0 ∙ ap (line_fault line) c.item_in-found.ensures)) ∙ c.loop-i.invariant.faultless;
      so_far = omega (arith, next, cost_is);
      small = omega (arith, c.in_ok-cents.ensures.small);
      taken = c.push.ensures
          ∙ taken_at c.args.view.now c.args.lines.now c.loop-i.i line _ _ c.at-line.ensures c.loop-i.invariant.taken
          (λ j. (c.item_key.ensures j, row.Item ((c.left-row.ensures ∙ ap (left line) c.item_in-found.ensures) j)));
    }

pub returns-in_err-cents-clause-fault : goal.returns-in_err-cents-clause-fault
returns-in_err-cents-clause-fault c =
    let line = c.at-line.result in
    let here = sym c.loop-i.invariant.faultless ∙ fault_at c.args.lines.now c.loop-i.i c.args.view.now line (Some c.in_err-cents.field-0.0) c.at-line.ensures (sym c.in_err-cents.ensures.fault ∙ ap (line_fault line) c.item_in-found.ensures) in
    search (rules, here)
