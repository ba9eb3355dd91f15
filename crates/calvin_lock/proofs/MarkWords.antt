-- Bits of the words of a tree.
use Rattle.std.proofs.Common.{◌≡◌, ◌≢◌, ◌==◌, ℕ, zero, suc, ◌+◌, ◌-◌, ◌*◌, ◌/◌, ◌%◌, ◌^◌, ◌<◌, ◌≤◌, true, false, inl, inr, List, length, set, Some, None, refl, sym, ap, ◌∙◌, arith}
use Rattle.std.proofs.Math.Nat.{div-div-eq-div-mul, div-le_self}
use Rattle.std.proofs.lemmas.Bool.{false≢true, cases_lt, cases_eq}
use Rattle.std.proofs.lemmas.List.{get_or-set_same, get_or-set_other}
use Rattle.std.proofs.lemmas.Nat.{pow-add}
use Rattle.std.proofs.lemmas.Nat.Bits.{bit_at-zero, bit_at_above, bit_at-trailing_zeros}
use Rattle.std.specs.Int.{bit_at, trailing_zeros, w64}
use Rattle.calvin_lock.specs.Marks.{word_at, has_bit, AreRight, size_of, IsSize, IsNextBit}

-- ---- sizes of trees

size_above : (n : ℕ) → IsSize n → 0 < n → (n ≡ 64 * (n / 64) + 1) × IsSize (n / 64)
size_above n (zero, is) some = absurd (omega (arith, is, some))
size_above n (suc h, is) some =
    let above : n / 64 ≡ size_of h = omega (arith, is) in
    (omega (arith, is), (h, above))

pub size_below : (n : ℕ) → IsSize n → IsSize (64 * n + 1)
size_below n (h, is) = (suc h, ap (λ m. 64 * m + 1) is)

-- ---- a word with one bit changed

module _ (ws : List ℕ) (b v : ℕ) (inside : b < 64 * length ws) where
  pub word_now : word_at (set ws (b / 64) v) (b / 64) ≡ v
  word_now = get_or-set_same ws (b / 64) v 0 (omega (arith, inside))

  pub bit_now : has_bit (set ws (b / 64) v) b ≡ (bit_at v (b % 64) == 1)
  bit_now = ap (λ w. bit_at w (b % 64) == 1) word_now

  pub bits_else : ((j : ℕ) → j < 64 → j ≢ b % 64 → bit_at v j ≡ bit_at (word_at ws (b / 64)) j) → (g : ℕ) → g ≢ b → has_bit (set ws (b / 64) v) g ≡ has_bit ws g
  bits_else others g apart = elim (cases_eq (g / 64) (b / 64)) [
    | inl same ↦ (
        let place : g % 64 ≢ b % 64 = λ equal. apart (omega (arith, same, equal)) in
        ap (λ w. bit_at w (g % 64) == 1) (ap (word_at (set ws (b / 64) v)) same ∙ word_now)
        ∙ ap (λ x. x == 1) (others (g % 64) (omega arith) place)
        ∙ ap (λ w. bit_at w (g % 64) == 1) (ap (word_at ws) (sym same))
        )
    | inr other ↦ ap (λ w. bit_at w (g % 64) == 1) (get_or-set_other ws (b / 64) (g / 64) v 0 other)
  ]

-- a word with a bit isn't 0
pub some_bit : (v j : ℕ) → bit_at v j ≡ 1 → v ≢ 0
some_bit v j is none = absurd (omega (arith, is, ap (λ w. bit_at w j) none, bit_at-zero j))

-- ---- the next bit that is set

shr_bit : (n s t : ℕ) → bit_at (n / 2 ^ s) t ≡ bit_at n (s + t)
shr_bit n s t = ap (λ m. m % 2) (div-div-eq-div-mul n (2 ^ s) (2 ^ t) ∙ ap (λ m. n / m) (sym (pow-add 2 s t)))

shr_less : (n s : ℕ) → n < 2 ^ 64 → n / 2 ^ s < 2 ^ 64
shr_less n s less = let most = div-le_self n (2 ^ s) in omega (arith, less, most)

module _ (ws : List ℕ) (fits : (k : ℕ) → word_at ws k < 2 ^ 64) where
  bit_is : (g w j : ℕ) → g / 64 ≡ w → g % 64 ≡ j → has_bit ws g ≡ (bit_at (word_at ws w) j == 1)
  bit_is g w j word place = ap (λ k. bit_at (word_at ws k) (g % 64) == 1) word ∙ ap (λ i. bit_at (word_at ws w) i == 1) place

  -- in the word of the first one
  module _ (from : ℕ) where
    bit_in : (g : ℕ) → from ≤ g → g < 64 * (from / 64) + 64 → has_bit ws g ≡ (bit_at (word_at ws (from / 64) / 2 ^ (from % 64)) (g - from) == 1)
    bit_in g at less = bit_is g (from / 64) (from % 64 + (g - from)) (omega (arith, at, less)) (omega (arith, at, less))
        ∙ ap (λ x. x == 1) (sym (shr_bit (word_at ws (from / 64)) (from % 64) (g - from)))

    pub next_in_word : (size : ℕ) → from / 64 < size → word_at ws (from / 64) / 2 ^ (from % 64) ≢ 0 → IsNextBit ws from (64 * size) (Some (from + trailing_zeros w64 (word_at ws (from / 64) / 2 ^ (from % 64))))
    next_in_word size early some =
        let n = word_at ws (from / 64) / 2 ^ (from % 64) in
        let t = trailing_zeros w64 n in
        let low = bit_at-trailing_zeros w64 n (omega (arith, some)) (shr_less (word_at ws (from / 64)) (from % 64) (fits (from / 64))) in
        let set_there : bit_at (word_at ws (from / 64)) (from % 64 + t) ≡ 1 = sym (shr_bit (word_at ws (from / 64)) (from % 64) t) ∙ low.1 in
        let short : from % 64 + t < 64 = elim (cases_lt (from % 64 + t) 64) [
          | inl less ↦ less
          | inr most ↦ absurd (let past = bit_at_above (word_at ws (from / 64)) 64 (from % 64 + t) (fits (from / 64)) most in omega (arith, past, set_there))
        ] in (
          omega arith,
          omega (arith, short, early),
          bit_is (from + t) (from / 64) (from % 64 + t) (omega (arith, short)) (omega (arith, short)) ∙ ap (λ x. x == 1) set_there,
          λ g at less. bit_in g at (omega (arith, less, short)) ∙ ap (λ x. x == 1) (low.2 (g - from) (omega (arith, at, less))),
        )

    none_in_word : word_at ws (from / 64) / 2 ^ (from % 64) ≡ 0 → (g : ℕ) → from ≤ g → g < 64 * (from / 64) + 64 → has_bit ws g ≡ false
    none_in_word none g at less = bit_in g at less ∙ ap (λ n. bit_at n (g - from) == 1) none ∙ ap (λ x. x == 1) (bit_at-zero (g - from))

  -- in the words below those of the level above
  module _ (right : AreRight ws) (from size : ℕ) (level : IsSize size) (within : size ≤ length ws) (early : from / 64 < size) (after : size ≤ from + 1) (none : word_at ws (from / 64) / 2 ^ (from % 64) ≡ 0) where
    pub above_is : (size ≡ 64 * (size / 64) + 1) × IsSize (size / 64)
    above_is = size_above size level (omega (arith, early))

    none_below : (g x : ℕ) → has_bit ws g ≡ false → g + 1 < length ws → x / 64 ≡ g + 1 → has_bit ws x ≡ false
    none_below g x unset inside below = bit_is x (g + 1) (x % 64) below refl ∙ ap (λ n. bit_at n (x % 64) == 1) ((right g inside).0 unset) ∙ ap (λ y. y == 1) (bit_at-zero (x % 64))

    none_before : (stop : ℕ) → stop ≤ 64 * (size / 64) → ((g : ℕ) → from / 64 ≤ g → g < stop → has_bit ws g ≡ false) → (x : ℕ) → from ≤ x → x < 64 * (stop + 1) → has_bit ws x ≡ false
    none_before stop short above x at less = elim (cases_lt x (64 * (from / 64) + 64)) [
      | inl here ↦ none_in_word from none x at here
      | inr later ↦ (
          let g = x / 64 - 1 in
          let whole : size ≡ 64 * (size / 64) + 1 = above_is.0 in
          none_below g x (above g (omega (arith, later)) (omega (arith, later, less))) (omega (arith, later, less, short, whole, within)) (omega (arith, later))
          )
    ]

    pub next_none : ((g : ℕ) → from / 64 ≤ g → g < 64 * (size / 64) → has_bit ws g ≡ false) → IsNextBit ws from (64 * size) None
    next_none above x at less = none_before (64 * (size / 64)) (omega arith) above x at (omega (arith, less, above_is.0))

    module _ (j : ℕ) (from_on : from / 64 ≤ j) (short : j < 64 * (size / 64)) where
      pub below_within : j + 1 < length ws
      below_within = omega (arith, short, above_is.0, within)

      pub next_below : has_bit ws j ≡ true → ((g : ℕ) → from / 64 ≤ g → g < j → has_bit ws g ≡ false) → IsNextBit ws from (64 * size) (Some (64 * (j + 1) + trailing_zeros w64 (word_at ws (j + 1))))
      next_below flagged before =
          let n = word_at ws (j + 1) in
          let t = trailing_zeros w64 n in
          let some : n ≢ 0 = λ zero_there. false≢true (sym ((right j below_within).1 zero_there) ∙ flagged) in
          let low = bit_at-trailing_zeros w64 n (omega (arith, some)) (fits (j + 1)) in
          let few : t < 64 = low.0 in (
            omega (arith, from_on),
            omega (arith, short, few, above_is.0),
            bit_is (64 * (j + 1) + t) (j + 1) t (omega (arith, few)) (omega (arith, few)) ∙ ap (λ x. x == 1) low.1,
            λ x at less. elim (cases_lt x (64 * (j + 1))) [
              | inl earlier ↦ none_before j (omega (arith, short)) before x at earlier
              | inr late ↦ bit_is x (j + 1) (x - 64 * (j + 1)) (omega (arith, late, less, few)) (omega (arith, late, less, few)) ∙ ap (λ y. y == 1) (low.2 (x - 64 * (j + 1)) (omega (arith, late, less)))
            ],
          )
