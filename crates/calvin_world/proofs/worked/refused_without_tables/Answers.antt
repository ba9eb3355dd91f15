-- As it is computed, event by event.
use Rattle.calvin_world.proofs.RowCases.{plain_runs}
use Rattle.calvin_world.proofs.worked.refused_without_tables.Goals as goal

pub returns : goal.returns
returns c = plain_runs
