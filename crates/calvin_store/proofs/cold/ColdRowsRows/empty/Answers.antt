use Rattle.std.proofs.Common.{ap}
use Rattle.calvin_store.proofs.OpenPoints.{beside_none}
use Rattle.calvin_store.proofs.cold.ColdRowsRows.empty.Goals as goal

pub invariant_of-result : goal.invariant_of-result
invariant_of-result g c = beside_none c.new-2.result.epoch c.new.result.rows c.new-2.result.before.rows (ap (λ v. v.epoch) c.new-2.ensures) (ap (λ v. v.before.rows) c.new-2.ensures)
