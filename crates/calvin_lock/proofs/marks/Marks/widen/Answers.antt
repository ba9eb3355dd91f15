use Rattle.std.proofs.Common.{◌≡◌, ◌+◌, ◌*◌, length, subst, sym, arith}
use Rattle.calvin_lock.specs.Marks.{IsSize}
use Rattle.calvin_lock.proofs.MarkWords.{size_below}
use Rattle.calvin_lock.proofs.marks.Marks.widen.Goals as goal

pub unmark_all-requires : goal.unmark_all-requires
unmark_all-requires c =
    let words = c.args.self.now.words in
    let size : length c.resize.new.self.items ≡ 64 * length words.items + 1 = omega (arith, c.in_ok-resize.ensures.len, c.len.ensures, words.ok.0, c.resize.new.self.ok.0) in
    record {
      size = subst IsSize (sym size) (size_below (length words.items) c.requires.shape.size);
      start = omega (arith, size, c.len.ensures, words.ok.0);
      leaves = omega (arith, size, c.len.ensures, words.ok.0, c.in-Some.ensures);
      fits = omega (arith, size, c.len.ensures, words.ok.0, c.in-Some.ensures);
    }
