use Rattle.std.proofs.Common.{◌/◌, ◌<◌, ◌*◌, subst, sym, arith}
use Rattle.std.proofs.Math.Facts.{Fits-lt-pow}
use Rattle.calvin_lock.specs.Marks.{IsNextBit}
use Rattle.calvin_lock.proofs.MarkWords.{above_is, next_in_word, next_none, below_within, next_below}
use Rattle.calvin_lock.proofs.marks.+next_bit.Goals as goal

pub returns-then-rest-ne0 : goal.returns-then-rest-ne0
returns-then-rest-ne0 t c =
    let apart = c.if-word-size.false in
    let less : c.args.from / 64 < c.args.size = omega (arith, apart, c.requires.before) in
    next_in_word c.args.words.now (λ k. Fits-lt-pow (c.type_inv.words k)) c.args.from c.args.size less c.if-rest-ne0.true

pub next_bit-requires : goal.next_bit-requires
next_bit-requires t c =
    let apart = c.if-word-size.false in
    let less : c.args.from / 64 < c.args.size = omega (arith, apart, c.requires.before) in
    let above = above_is c.args.words.now (λ k. Fits-lt-pow (c.type_inv.words k)) c.requires.right c.args.from c.args.size c.requires.size c.requires.within less c.requires.after c.if-rest-ne0.false in (
      omega (arith, c.decreases, less),
      (c.requires.right, (above.1, (omega (arith, c.requires.within), (omega (arith, c.requires.fits), (omega (arith, less, above.0), omega (arith, c.requires.after, above.0)))))),
    )

pub returns-in_err-above : goal.returns-in_err-above
returns-in_err-above t c =
    let apart = c.if-word-size.false in
    let less : c.args.from / 64 < c.args.size = omega (arith, apart, c.requires.before) in
    subst (IsNextBit c.args.words.now c.args.from (64 * c.args.size)) (sym c.from_residual.ensures)
    (next_none c.args.words.now (λ k. Fits-lt-pow (c.type_inv.words k)) c.requires.right c.args.from c.args.size c.requires.size c.requires.within less c.requires.after c.if-rest-ne0.false c.in_err-above.ensures)

pub bounds-words-above : goal.bounds-words-above
bounds-words-above t c =
    let apart = c.if-word-size.false in
    let less : c.args.from / 64 < c.args.size = omega (arith, apart, c.requires.before) in
    below_within c.args.words.now (λ k. Fits-lt-pow (c.type_inv.words k)) c.requires.right c.args.from c.args.size c.requires.size c.requires.within less c.requires.after c.if-rest-ne0.false
    c.in_ok-above.above c.in_ok-above.ensures.0 c.in_ok-above.ensures.1

pub returns : goal.returns
returns t c =
    let apart = c.if-word-size.false in
    let less : c.args.from / 64 < c.args.size = omega (arith, apart, c.requires.before) in
    next_below c.args.words.now (λ k. Fits-lt-pow (c.type_inv.words k)) c.requires.right c.args.from c.args.size c.requires.size c.requires.within less c.requires.after c.if-rest-ne0.false
    c.in_ok-above.above c.in_ok-above.ensures.0 c.in_ok-above.ensures.1 c.in_ok-above.ensures.2 c.in_ok-above.ensures.3
