use Rattle.std.proofs.Common.{◌==◌, ◌/◌, ◌%◌, ap, ◌∙◌, arith}
use Rattle.std.proofs.lemmas.List.{get_or_default}
use Rattle.std.proofs.lemmas.Nat.Bits.{bit_at_clear_same, bit_at_clear_other}
use Rattle.std.specs.Int.{bit_at, w64}
use Rattle.calvin_lock.proofs.MarkWords.{bit_now, bits_else}
use Rattle.calvin_lock.proofs.marks.clear_bit.Goals as goal

pub returns-clause-cleared : goal.returns-clause-cleared
returns-clause-cleared c = bit_now c.args.words.now.items c.args.bit _ (omega (arith, c.requires, c.args.words.now.ok.0)) ∙ ap (λ x. x == 1) (bit_at_clear_same w64 c.index.result.now (c.args.bit % 64) (omega arith))

pub returns-clause-others : goal.returns-clause-others
returns-clause-others c = bits_else c.args.words.now.items c.args.bit _ (omega (arith, c.requires, c.args.words.now.ok.0))
    (λ j less apart. bit_at_clear_other w64 c.index.result.now (c.args.bit % 64) (omega arith) j less apart
    ∙ ap (λ w. bit_at w j) (c.index.ensures ∙ get_or_default c.args.words.now.items (c.args.bit / 64) c.index.result.now 0 (omega (arith, c.requires, c.args.words.now.ok.0))))
