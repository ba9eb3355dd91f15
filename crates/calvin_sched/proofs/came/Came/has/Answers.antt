use Rattle.std.proofs.Common.{◌≡◌, ℕ, ◌≤◌, false, List, Some, slice_get, length, drop, sym, ap, ◌∙◌, arith}
use Rattle.std.specs.FinMap as map
use Rattle.std.specs.List.{list_any}
use Rattle.std.specs.Prelude.{◌==◌, is_some}
use Rattle.std.proofs.lemmas.Bool.{ne_eqb, eq-eqb}
use Rattle.std.proofs.lemmas.List.{drop_all}
use Rattle.std.proofs.lemmas.Option.{slice_get_read}
use Rattle.calvin_types.proofs.ListTests.{any_hit, any_next}
use Rattle.calvin_sched.specs.Arrivals.{from_of, came_by}
use Rattle.calvin_sched.specs.declared.came.Arrival.{Arrival}
use Rattle.calvin_sched.proofs.Arrivals.{came_any}
use Rattle.calvin_sched.proofs.came.Came.has.Goals as goal

passed_all : {Row : Type 0} (arrivals : List (Arrival Row)) (i q : ℕ) → length arrivals ≤ i → list_any (λ a. from_of a == q) (drop i arrivals) ≡ list_any (λ a. from_of a == q) arrivals
    → false ≡ is_some (map.get (came_by arrivals) q)
passed_all arrivals i q all so = ap (list_any (λ a. from_of a == q)) (sym (drop_all i arrivals all)) ∙ so ∙ came_any arrivals q

pub returns-then-partition : goal.returns-then-partition
returns-then-partition g c =
    let arrivals = c.self.inside.arrivals.items in
    let there : slice_get arrivals c.loop-i.i ≡ Some c.index.result.now = slice_get_read arrivals c.len-i-end.result c.loop-i.i _ (c.len-i-end.ensures ∙ c.self.inside.arrivals.ok.0) c.loop-i-test.true c.index.ensures in
    any_hit (λ a. from_of a == c.args.partition) arrivals c.loop-i.i c.index.result.now there (eq-eqb (from_of c.index.result.now) c.args.partition (sym c.partition.ensures ∙ c.if-partition.true)) c.loop-i.invariant
    ∙ came_any arrivals c.args.partition ∙ ap (λ s. is_some (map.get s.rows c.args.partition)) c.self.view_is

pub loop-i-preserved : goal.loop-i-preserved
loop-i-preserved g c =
    let arrivals = c.self.inside.arrivals.items in
    let there : slice_get arrivals c.loop-i.i ≡ Some c.index.result.now = slice_get_read arrivals c.len-i-end.result c.loop-i.i _ (c.len-i-end.ensures ∙ c.self.inside.arrivals.ok.0) c.loop-i-test.true c.index.ensures in
    any_next (λ a. from_of a == c.args.partition) arrivals c.loop-i.i c.index.result.now there (ne_eqb (from_of c.index.result.now) c.args.partition (λ e. c.if-partition.false (c.partition.ensures ∙ e))) c.loop-i.invariant

pub returns : goal.returns
returns g c = passed_all c.self.inside.arrivals.items c.loop-i.i c.args.partition (omega arith) c.loop-i.invariant ∙ ap (λ s. is_some (map.get s.rows c.args.partition)) c.self.view_is
