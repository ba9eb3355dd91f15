use Rattle.std.proofs.Common.{◌==◌, ◌/◌, ◌%◌, sym, ap, ◌∙◌, arith}
use Rattle.std.proofs.lemmas.List.{get_or_default}
use Rattle.std.proofs.lemmas.Nat.Bits.{bit_at_set_same, bit_at_set_other}
use Rattle.std.specs.Int.{bit_at, w64}
use Rattle.calvin_lock.proofs.MarkWords.{word_now, bit_now, bits_else, some_bit}
use Rattle.calvin_lock.proofs.marks.set_bit.Goals as goal

pub returns-clause-set : goal.returns-clause-set
returns-clause-set c = bit_now c.args.words.now.items c.args.bit _ (omega (arith, c.requires, c.args.words.now.ok.0)) ∙ ap (λ x. x == 1) (bit_at_set_same w64 c.index-word.result.now (c.args.bit % 64) (omega arith))

pub returns-clause-others : goal.returns-clause-others
returns-clause-others c = bits_else c.args.words.now.items c.args.bit _ (omega (arith, c.requires, c.args.words.now.ok.0))
    (λ j less apart. bit_at_set_other w64 c.index-word.result.now (c.args.bit % 64) (omega arith) j apart
    ∙ ap (λ w. bit_at w j) (c.index-word.ensures ∙ get_or_default c.args.words.now.items (c.args.bit / 64) c.index-word.result.now 0 (omega (arith, c.requires, c.args.words.now.ok.0))))

pub returns-clause-some : goal.returns-clause-some
returns-clause-some c = λ none. some_bit _ (c.args.bit % 64) (bit_at_set_same w64 c.index-word.result.now (c.args.bit % 64) (omega arith)) (sym (word_now c.args.words.now.items c.args.bit _ (omega (arith, c.requires, c.args.words.now.ok.0))) ∙ none)
