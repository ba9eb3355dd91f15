use Rattle.std.proofs.Common.{arith}
use Rattle.calvin_types.specs.Participants.{site}
use Rattle.calvin_sched.proofs.DueLists.{places_at_most}
use Rattle.calvin_sched.proofs.progress.Progress.reserve_for_walk.Goals as goal

pub returns-in-Ok-clause-ok : goal.returns-in-Ok-clause-ok
returns-in-Ok-clause-ok g c = omega (arith, c.in-Ok.ensures.ok, c.requires.most, places_at_most (site c.args.config.now.partitions c.args.partition) c.args.requests)
