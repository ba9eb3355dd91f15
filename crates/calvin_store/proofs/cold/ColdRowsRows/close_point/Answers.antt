use Rattle.std.proofs.Common.{ap}
use Rattle.calvin_store.proofs.OpenPoints.{beside_none}
use Rattle.calvin_store.proofs.cold.ColdRowsRows.close_point.Goals as goal

pub invariant_of-self : goal.invariant_of-self
invariant_of-self g c = beside_none c.close.new.self.epoch c.self.inside.tiers.rows c.close.new.self.before.rows (ap (λ v. v.epoch) c.close.ensures) (ap (λ v. v.before.rows) c.close.ensures)
