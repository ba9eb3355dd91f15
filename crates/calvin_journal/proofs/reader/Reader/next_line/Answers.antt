use Rattle.std.proofs.Common.{arith, rules, ◌≡◌, ◌+◌, length, drop, IfSome, Option, subst}
use Rattle.calvin_journal_log.specs.Disks.{Disk}
use Rattle.calvin_journal.specs.Readings.{BeginsWith, part_at, Hands}
use Rattle.calvin_journal.proofs.Reading.{line_fits, line_read, line_handed}
use Rattle.calvin_journal.proofs.reader.Reader.next_line.Goals as goal

pub invariant_of-self : goal.invariant_of-self
invariant_of-self g c =
    let mid = c.peek_line.new.self in
    let line = c.peek_line.new.line.items in
    let begins : BeginsWith line (drop mid.start mid.read.items) = search rules in
    let size : c.len-size.result + 1 ≡ length line + 1 = omega (arith, c.len-size.ensures, c.peek_line.new.line.ok) in
    let fits = line_fits mid.done mid.start (c.len-size.result + 1) mid.read.items line begins size in
    record {
      start_fits = fits;
      read_fits = omega (arith, fits, mid.read_fits);
      is_read = line_read mid.done mid.start (c.len-size.result + 1) mid.read.items line begins size (g.L.Log.told mid.log) mid.is_read;
    }

pub returns-clause-line : goal.returns-clause-line
returns-clause-line g c = λ _.
    let mid = c.peek_line.new.self in
    let line = c.peek_line.new.line.items in
    let begins : BeginsWith line (drop mid.start mid.read.items) = search rules in
    let next : mid.done + (c.len-size.result + 1) ≡ mid.done + length line + 1 = omega (arith, c.len-size.ensures, c.peek_line.new.line.ok) in
    let handed = line_handed (g.L.Log.told mid.log) mid.done (drop mid.start mid.read.items) line begins.0 mid.is_read begins.1 (mid.done + (c.len-size.result + 1)) next in
    subst (λ n. IfSome (g.L.Log.told c.args.self.now.log) (λ disk. Hands line (part_at n disk) (part_at (mid.done + (c.len-size.result + 1)) disk))) c.peek_line.ensures.same
    (subst (λ (o : Option Disk). IfSome o (λ disk. Hands line (part_at mid.done disk) (part_at (mid.done + (c.len-size.result + 1)) disk))) c.peek_line.ensures.told handed)
