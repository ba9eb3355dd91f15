use Rattle.std.proofs.Common.{ap, ◌∙◌}
use Rattle.std.specs.FinMap as map
use Rattle.calvin_store.specs.Tiers.{both, names_of}
use Rattle.calvin_store.proofs.TwoTables.{both-none, names-none, apart-none, apart_as}
use Rattle.calvin_store.proofs.tiers.Tiers.new.Goals as goal

pub invariant_of-result : goal.invariant_of-result
invariant_of-result g c = apart_as map.empty c.new.result.rows map.empty c.new-2.result.rows (ap (λ t. t.rows) c.new.ensures) (ap (λ t. t.rows) c.new-2.ensures) (apart-none map.empty)

pub returns : goal.returns
returns g c =
    let rows = (λ i. both (c.new.ensures i).rows (c.new-2.ensures i).rows) ∙ both-none map.empty in
    let cold = ap (λ t. names_of t.rows) c.new-2.ensures ∙ names-none g.row.Row.Denot in
    λ i. record { rows = rows i; cold = cold i; room = (c.new.ensures i).room }
