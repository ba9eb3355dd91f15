-- As it is computed, event by event.
use Rattle.calvin_world.proofs.RowCases.{reply_stays}
use Rattle.calvin_world.proofs.worked.reply_not_deliverable.Goals as goal

pub returns : goal.returns
returns c = reply_stays
