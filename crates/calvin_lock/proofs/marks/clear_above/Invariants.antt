use Rattle.std.proofs.Common.{◌≡◌, ℕ, ◌+◌, ◌<◌, ◌≤◌, vec_len}
use Rattle.calvin_lock.specs.Marks.{word_at, has_bit, AreRightBut}
use Rattle.calvin_lock.proofs.marks.clear_above.Given as goal

abbrev pub invariant-loop-word : goal.invariant-loop-word
invariant-loop-word l = record {
  right : AreRightBut l.word l.words.items;
  within : l.word < vec_len l.words;
  none : word_at l.words.items l.word ≡ 0;
  len : vec_len l.words ≡ vec_len l.fn.words;
  leaves : (g : ℕ) → vec_len l.fn.words ≤ g + 1 → has_bit l.words.items g ≡ has_bit l.fn.words.items g;
}

abbrev pub decreases-loop-word : goal.decreases-loop-word
decreases-loop-word l = l.word
