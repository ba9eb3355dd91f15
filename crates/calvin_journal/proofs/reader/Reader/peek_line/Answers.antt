use Rattle.std.proofs.Common.{rules, drop, IfSome, Option, subst}
use Rattle.calvin_journal_log.specs.Disks.{Disk}
use Rattle.calvin_journal.specs.Readings.{BeginsWith}
use Rattle.calvin_journal.proofs.Reading.{line_ahead}
use Rattle.calvin_journal.proofs.reader.Reader.peek_line.Goals as goal

pub returns-clause-line : goal.returns-clause-line
returns-clause-line g c = λ _.
    let before = c.loop-self.self in
    let line = c.copy_line.new.line.items in
    let begins : BeginsWith line (drop before.start before.read.items) = search rules in
    let ahead = line_ahead (g.L.Log.told before.log) before.done (drop before.start before.read.items) line before.is_read begins in
    subst (λ n. IfSome (g.L.Log.told c.args.self.now.log) (λ disk. BeginsWith line (drop n disk.seen))) c.loop-self.invariant.done
    (subst (λ (o : Option Disk). IfSome o (λ disk. BeginsWith line (drop before.done disk.seen))) c.loop-self.invariant.told ahead)
