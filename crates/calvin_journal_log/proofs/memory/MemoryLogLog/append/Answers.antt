use Rattle.std.proofs.Common.{arith, rules, ◌≡◌, ◌++◌, length, refl, sym, ◌∙◌, ap, ⊎_elim, append-nil}
use Rattle.calvin_journal_log.specs.Memory.{disk_of}
use Rattle.calvin_journal_log.proofs.Takes.{appended, appended_in_part, settled_size, on_err}
use Rattle.calvin_journal_log.proofs.memory.MemoryLogLog.append.Goals as goal

pub fail_to_append-requires : goal.fail_to_append-requires
fail_to_append-requires c =
    let log = c.args.self.now in
    let size = settled_size log.size log.bytes.items log.size_fits (c.requires.settled (disk_of log) refl) in
    record { settled = omega (arith, size, log.bytes.ok) }

pub returns-then-self-eq0-clause-part : goal.returns-then-self-eq0-clause-part
returns-then-self-eq0-clause-part c =
    let log = c.args.self.now in
    let new = c.fail_to_append.new.self in
    let size = settled_size log.size log.bytes.items log.size_fits (c.requires.settled (disk_of log) refl) in
    let size' : new.size ≡ length new.bytes.items = omega (arith, c.fail_to_append.ensures.size, new.bytes.ok) in
    let part = appended_in_part log.bytes.items new.bytes.items c.args.bytes.now log.synced log.size new.size size log.synced_stand size' in
    on_err c.fail_to_append.result _
    (⊎_elim (λ is. part c.min-torn.result new.synced c.fail_to_append.ensures.same_synced is)
    (λ is. part 0 new.synced c.fail_to_append.ensures.same_synced (is ∙ sym (append-nil log.bytes.items)))
    c.fail_to_append.ensures.no_more)

pub returns-then-is_err-clause-part : goal.returns-then-is_err-clause-part
returns-then-is_err-clause-part c =
    let log = c.args.self.now in
    let new = c.extend_from_slice.new.self in
    let size = settled_size log.size log.bytes.items log.size_fits (c.requires.settled (disk_of log) refl) in
    let same : new.items ≡ log.bytes.items = search rules in
    let size' : log.size ≡ length new.items = size ∙ ap length (sym same) in
    appended_in_part log.bytes.items new.items c.args.bytes.now log.synced log.size log.size size log.synced_stand size' 0 log.synced refl (same ∙ sym (append-nil log.bytes.items))

pub returns-clause-whole : goal.returns-clause-whole
returns-clause-whole c =
    let log = c.args.self.now in
    let new = c.extend_from_slice.new.self in
    let size = settled_size log.size log.bytes.items log.size_fits (c.requires.settled (disk_of log) refl) in
    let is : new.items ≡ log.bytes.items ++ c.args.bytes.now = search rules in
    let size' : c.len-self.result ≡ length new.items = omega (arith, c.len-self.ensures, new.ok) in
    appended log.bytes.items new.items c.args.bytes.now log.synced log.size c.len-self.result size log.synced_stand size' is
