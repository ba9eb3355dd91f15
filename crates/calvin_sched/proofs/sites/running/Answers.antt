use Rattle.std.proofs.Common.{arith}
use Rattle.calvin_sched.proofs.Marks.{marked_runs, marked_none}
use Rattle.calvin_sched.proofs.sites.running.Goals as goal

pub bounds-runs-least : goal.bounds-runs-least
bounds-runs-least g c =
    let least = c.in-Some.ensures c.args.config.now.partitions c.args.txn.now.sets.reads c.args.txn.now.sets.writes c.storers_of-reads.ensures.least c.storers_of-writes.ensures.least in
    omega (arith, least.in_range, c.args.config.now.in_range.partitions_at_most)

pub returns-in-Some : goal.returns-in-Some
returns-in-Some g c =
    let P = c.args.config.now.partitions in
    let least = c.in-Some.ensures P c.args.txn.now.sets.reads c.args.txn.now.sets.writes c.storers_of-reads.ensures.least c.storers_of-writes.ensures.least in
    marked_runs P c.args.txn.now c.storers_of-writes.result.stores c.storers_of-writes.ensures.stores c.in-Some.least least (omega (arith, least.in_range, c.args.config.now.in_range.partitions_at_most))

pub returns-in-None : goal.returns-in-None
returns-in-None g c =
    let P = c.args.config.now.partitions in
    let none = c.in-None.ensures P c.args.txn.now.sets.reads c.args.txn.now.sets.writes c.storers_of-reads.ensures.least c.storers_of-writes.ensures.least in
    marked_none P c.args.txn.now c.storers_of-writes.result.stores c.storers_of-writes.ensures.stores none
