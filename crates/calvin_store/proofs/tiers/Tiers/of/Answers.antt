use Rattle.std.proofs.Common.{ap, ◌∙◌}
use Rattle.std.specs.FinMap as map
use Rattle.calvin_store.specs.Tiers.{both, names_of}
use Rattle.calvin_store.proofs.TwoTables.{both-none, names-none, apart-none, apart_as}
use Rattle.calvin_store.proofs.tiers.Tiers.of.Goals as goal

pub invariant_of-result : goal.invariant_of-result
invariant_of-result g c = apart_as c.in_ok-hot.hot.rows c.in_ok-hot.hot.rows map.empty c.new.result.rows (λ i. c.in_ok-hot.hot.rows) (ap (λ t. t.rows) c.new.ensures) (apart-none c.in_ok-hot.hot.rows)

pub returns : goal.returns
returns g c =
    let rows = (λ i. both (c.in_ok-hot.ensures i).rows (c.new.ensures i).rows) ∙ both-none c.args.snapshot.now in
    let cold = ap (λ t. names_of t.rows) c.new.ensures ∙ names-none g.row.Row.Denot in
    λ i. record { rows = rows i; cold = cold i; room = (c.in_ok-hot.ensures i).room }
