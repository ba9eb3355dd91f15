use Rattle.std.proofs.Common.{arith, ◌≡◌, ◌-◌, ◌≤◌, length, length-take, take, drop, sym, ◌∙◌, ap}
use Rattle.calvin_journal_log.proofs.Takes.{between, front}
use Rattle.calvin_journal_log.proofs.memory.MemoryLogLog.read_at.Goals as goal

pub returns-clause-bytes : goal.returns-clause-bytes
returns-clause-bytes c =
    let log = c.args.self.now in
    let n = c.min-n.result in
    let copied = c.copy_from_slice.new.self in
    let ahead = take (log.size - c.args.at) (drop c.args.at log.bytes.items) in
    let is : copied ≡ take n ahead = rw (← c.deref.ensures.value) c.copy_from_slice.ensures.after in
    let long : n ≤ length copied = omega (arith, c.copy_from_slice.ensures.len, length-take n c.args.buffer.now, c.min-n.ensures) in
    front n copied (drop n c.args.buffer.now) ahead long is ∙ ap (take n) (sym (between c.args.at log.size log.bytes.items (omega arith)))
