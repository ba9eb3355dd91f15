-- Marks of numbers, kept as bits of words of 64 that are the nodes of a tree. Bit g of all is the bit g % 64 of word g / 64,
-- and the word below it is word g + 1: so word 0 is the root, and each bit that isn't in a leaf is set where the word below
-- it isn't 0. The bits of the leaves stand for the numbers. The notion is of this project.
--     word_at words k      a word
--     has_bit words g      a bit of all is set
--     IsRight words g      a bit is set where the word below it isn't 0
--     AreRight words      so it is at each bit that has a word below it
--     AreRightBut k words      so it is at each of them but for the bit above word k
--     size_of h      how many words a tree with so many levels has
--     IsSize n      a tree has so many words
--     HasShape m      the words are a tree's, and the bits of its leaves are those from the start on
--     AreMarks m      and each bit above the leaves is right
--     is_marked m i      the number i is marked
--     IsNextBit words from end answer      the answer is the first bit that is set, from one on and before another, or none where there is none
--     IsNextMarked m from answer      the answer is the first marked number from one on, or none where there is none
use Rattle.std.specs.Prelude.{◌≡◌, ◌≢◌, ◌↔◌, ◌==◌, ℕ, zero, suc, ◌+◌, ◌-◌, ◌*◌, ◌/◌, ◌%◌, ◌^◌, ◌<◌, ◌≤◌, Bool, true, false, List, length, slice_index, Option, MatchOption}
use Rattle.std.specs.Int.{bit_at}
use Rattle.calvin_lock.specs.declared.marks.Marks.{Marks}

abbrev pub word_at : List ℕ → ℕ → ℕ
word_at words k = slice_index words k

abbrev pub has_bit : List ℕ → ℕ → Bool
has_bit words g = bit_at (word_at words (g / 64)) (g % 64) == 1

abbrev pub IsRight : List ℕ → ℕ → Type 0
IsRight words g = (has_bit words g ≡ false) ↔ (word_at words (g + 1) ≡ 0)

abbrev pub AreRight : List ℕ → Type 0
AreRight words = (g : ℕ) → g + 1 < length words → IsRight words g

abbrev pub AreRightBut : ℕ → List ℕ → Type 0
AreRightBut k words = (g : ℕ) → g + 1 < length words → g + 1 ≢ k → IsRight words g

abbrev pub size_of : ℕ → ℕ
size_of zero = 0
size_of (suc h) = 64 * size_of h + 1

abbrev pub IsSize : ℕ → Type 0
IsSize n = (h : ℕ) × (n ≡ size_of h)

pub record HasShape (m : Marks) : Type 0 where
  pub size : IsSize (length m.words.items)
  pub start : m.start ≡ length m.words.items - 1
  pub leaves : m.start + m.leaves ≡ 64 * length m.words.items
  pub fits : 64 * length m.words.items < 2 ^ 64

pub record AreMarks (m : Marks) : Type 0 where
  pub shape : HasShape m
  pub right : AreRight m.words.items

abbrev pub is_marked : Marks → ℕ → Bool
is_marked m i = has_bit m.words.items (m.start + i)

abbrev pub IsNextBit : List ℕ → ℕ → ℕ → Option ℕ → Type 0
IsNextBit words from end answer = MatchOption answer ((g : ℕ) → from ≤ g → g < end → has_bit words g ≡ false)
    (λ j. (from ≤ j) × (j < end) × (has_bit words j ≡ true) × ((g : ℕ) → from ≤ g → g < j → has_bit words g ≡ false))

abbrev pub IsNextMarked : Marks → ℕ → Option ℕ → Type 0
IsNextMarked m from answer = MatchOption answer ((i : ℕ) → from ≤ i → is_marked m i ≡ false)
    (λ j. (from ≤ j) × (is_marked m j ≡ true) × ((i : ℕ) → from ≤ i → i < j → is_marked m i ≡ false))
