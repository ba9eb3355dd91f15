use Rattle.std.proofs.Common.{arith, ◌≤◌, length-take, take, refl}
use Rattle.std.proofs.lemmas.List.{take-take}
use Rattle.calvin_journal_log.specs.Memory.{disk_of}
use Rattle.calvin_journal_log.specs.Beginnings.{take_begins}
use Rattle.calvin_journal_log.proofs.Takes.{take_least, begins_itself}
use Rattle.calvin_journal_log.proofs.memory.MemoryLogLog.cut.Goals as goal

pub returns-then-self-eq0-clause-part : goal.returns-then-self-eq0-clause-part
returns-then-self-eq0-clause-part c =
    let log = c.args.self.now in
    record { kept = take_begins c.args.size (take log.synced log.bytes.items); no_more = begins_itself log.bytes.items }

pub invariant_of-self-2 : goal.invariant_of-self-2
invariant_of-self-2 c =
    let log = c.args.self.now in
    record { synced_stand = omega (arith, c.min-self.ensures); size_fits = omega (arith, c.requires.within (disk_of log) refl, length-take log.size log.bytes.items) }

pub returns-clause-whole : goal.returns-clause-whole
returns-clause-whole c =
    let log = c.args.self.now in
    let within : c.args.size ≤ log.size = omega (arith, c.requires.within (disk_of log) refl, length-take log.size log.bytes.items) in
    rw (take_least log.synced c.args.size log.bytes.items, take-take c.args.size log.size log.bytes.items within, c.min-self.ensures) refl
