use Rattle.std.proofs.Common.{arith, rules, ◌≡◌, ◌+◌, ◌<◌, length, take, drop, sym, ◌∙◌, subst, Option, IfSome}
use Rattle.std.proofs.lemmas.Bool.Decides.{nat_tests}
use Rattle.std.specs.Prelude.{is_ok}
use Rattle.std.specs.Option.{ForSome}
use Rattle.calvin_journal_log.specs.Disks.{Disk}
use Rattle.calvin_journal.specs.Readings.{IsRead}
use Rattle.calvin_journal.proofs.Reading.{read_more, read_whole, no_longer}
use Rattle.calvin_journal.proofs.reader.Reader.fill.Goals as goal

pub invariant_of-self-2 : goal.invariant_of-self-2
invariant_of-self-2 g c =
    let reader = c.args.self.now in
    let found = c.in_ok-ahead.ahead.items in
    let block = c.read_at.new.buffer in
    let n = c.in_ok-n.n in
    let is_found : found ≡ drop reader.start reader.read.items = search rules in
    let same : g.L.Log.told c.read_at.new.self ≡ g.L.Log.told reader.log = c.read_at.ensures.same in
    let held : ForSome (g.L.Log.told c.read_at.new.self) (IsRead reader.done found) = λ disk e. subst (λ w. IsRead reader.done w disk) (sym is_found) (reader.is_read disk (sym same ∙ e)) in
    let at : reader.done + c.len.result ≡ reader.done + length found = omega (arith, c.len.ensures, c.in_ok-ahead.ahead.ok) in
    let bytes = subst (λ (o : Option Disk). IfSome o (λ disk. take n block ≡ take n (drop (reader.done + c.len.result) disk.seen))) (sym same) c.in_ok-n.ensures.bytes in
    let is = c.extend_from_slice.ensures.items in
    let long = no_longer found block n (is_ok c.extend_from_slice.result) c.extend_from_slice.new.self.items is in
    record {
      start_fits = omega arith;
      read_fits = omega (arith, long, at, c.in_ok-n.ensures.far);
      is_read = read_more (g.L.Log.told c.read_at.new.self) reader.done found held (reader.done + c.len.result) at block n c.in_ok-n.ensures.bound bytes (is_ok c.extend_from_slice.result) c.extend_from_slice.new.self.items is;
    }

pub returns-clause-end : goal.returns-clause-end
returns-clause-end g c = λ none.
    let reader = c.args.self.now in
    let found = c.in_ok-ahead.ahead.items in
    let n = c.in_ok-n.n in
    let is_found : found ≡ drop reader.start reader.read.items = search rules in
    let held : ForSome (g.L.Log.told reader.log) (IsRead reader.done found) = λ disk e. subst (λ w. IsRead reader.done w disk) (sym is_found) (reader.is_read disk e) in
    let at : reader.done + c.len.result ≡ reader.done + length found = omega (arith, c.len.ensures, c.in_ok-ahead.ahead.ok) in
    let no_byte : n ≡ 0 = grind (arith, nat_tests) in
    let room : 0 < length c.read_at.new.buffer = search rules in
    let is : c.extend_from_slice.new.self.items ≡ found = search rules in
    read_whole (g.L.Log.told reader.log) reader.done found held (reader.done + c.len.result) at (c.in_ok-n.ensures.end no_byte room) c.extend_from_slice.new.self.items is
