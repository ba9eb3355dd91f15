use Rattle.std.proofs.Common.{arith, ◌≤◌, take, subst, sym}
use mathlib.Core.List.{IsPrefix}
use Rattle.calvin_journal_log.specs.Beginnings.{take_begins}
use Rattle.calvin_journal_log.proofs.Takes.{begins_by}
use Rattle.calvin_journal_log.proofs.memory.MemoryLog.left.Goals as goal

pub returns-clause-may_leave : goal.returns-clause-may_leave
returns-clause-may_leave c =
    let log = c.args.self.now in
    let most : log.synced ≤ c.min-end.result = omega (arith, c.min-end.ensures, c.saturating_add.ensures, c.len.ensures, log.synced_stand, log.size_fits) in
    subst (λ w. IsPrefix (take log.synced log.bytes.items) (take c.min-end.result w) × IsPrefix (take c.min-end.result w) log.bytes.items) (sym c.deref.ensures.value)
    (begins_by log.synced c.min-end.result log.bytes.items most, take_begins c.min-end.result log.bytes.items)
