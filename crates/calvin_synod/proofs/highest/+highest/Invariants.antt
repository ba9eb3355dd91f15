use Rattle.std.proofs.Common.{length}
use Rattle.calvin_synod.proofs.highest.+highest.Given as goal

abbrev pub decreases-highest : goal.decreases-highest
decreases-highest g l = length l.reports.now
