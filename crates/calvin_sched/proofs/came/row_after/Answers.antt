use Rattle.std.proofs.Common.{true, false, sym, ap, ◌∙◌}
use Rattle.std.specs.FinMap as map
use Rattle.calvin_types.specs.Keys.{key_cmp}
use Rattle.calvin_sched.specs.Arrivals.{rows_from}
use Rattle.calvin_sched.proofs.Arrivals.{rows_other, rows_nothing, rows_first, rows_further, row_with}
use Rattle.calvin_sched.proofs.came.row_after.Goals as goal

pub returns-then-partition : goal.returns-then-partition
returns-then-partition g c = λ came so.
    so ∙ ap (λ v. map.get v c.args.key.now) (sym (rows_other came c.args.arrival.now c.args.partition (λ e. c.if-partition.true (c.partition.ensures ∙ e))))

pub returns-in-Nothing : goal.returns-in-Nothing
returns-in-Nothing g c = λ came so.
    sym (ap (λ v. map.get v c.args.key.now) (rows_nothing came c.args.arrival.now c.in-Nothing.field-0 c.args.partition (sym c.partition.ensures ∙ c.if-partition.false) c.in-Nothing.is) ∙ map.get-empty key_cmp c.args.key.now)

pub returns-then-eq : goal.returns-then-eq
returns-then-eq g c = λ came so.
    sym (ap (λ v. map.get v c.args.key.now) (rows_first came c.args.arrival.now c.in-First.field-0 c.args.partition (sym c.partition.ensures ∙ c.if-partition.false) c.in-First.k c.in-First.row c.in-First.is)
    ∙ row_with map.empty c.in-First.k c.in-First.row c.args.key.now true c.if-eq.ensures)

pub returns-else-eq : goal.returns-else-eq
returns-else-eq g c = λ came so.
    sym (ap (λ v. map.get v c.args.key.now) (rows_first came c.args.arrival.now c.in-First.field-0 c.args.partition (sym c.partition.ensures ∙ c.if-partition.false) c.in-First.k c.in-First.row c.in-First.is)
    ∙ row_with map.empty c.in-First.k c.in-First.row c.args.key.now false c.if-eq.ensures ∙ map.get-empty key_cmp c.args.key.now)

pub returns-then-eq-2 : goal.returns-then-eq-2
returns-then-eq-2 g c = λ came so.
    sym (ap (λ v. map.get v c.args.key.now) (rows_further came c.args.arrival.now c.in-Further.field-0 c.args.partition (sym c.partition.ensures ∙ c.if-partition.false) c.in-Further.k c.in-Further.row c.in-Further.is)
    ∙ row_with (rows_from came c.args.partition) c.in-Further.k c.in-Further.row c.args.key.now true c.if-eq-2.ensures)

pub returns-else-eq-2 : goal.returns-else-eq-2
returns-else-eq-2 g c = λ came so.
    so
    ∙ sym (ap (λ v. map.get v c.args.key.now) (rows_further came c.args.arrival.now c.in-Further.field-0 c.args.partition (sym c.partition.ensures ∙ c.if-partition.false) c.in-Further.k c.in-Further.row c.in-Further.is)
    ∙ row_with (rows_from came c.args.partition) c.in-Further.k c.in-Further.row c.args.key.now false c.if-eq-2.ensures)
