-- A number that is written in digits alone.
use Rattle.std.proofs.Common.{◌≡◌, ℕ, ◌+◌, ◌*◌, ◌^◌, ◌<◌, ◌≤◌, List, [], ◌∷◌, length, drop, Some, false, refl, sym, ap, ◌∙◌, append-nil, arith, lt-ltb}
use Rattle.std.specs.Float.Numeral.{Parts, scan_numeral, minus}
use Rattle.std.specs.Char.{digit_value}
use Rattle.std.specs.Prelude.{slice_index, slice_index_or, ◌==◌}
use Rattle.std.specs.Str.Parse.{AllDigits, digits_value, digits_value_after}
use Rattle.std.proofs.lemmas.Bool.Decides.{nat_tests}
use Rattle.std.proofs.lemmas.Float.Parse.{scan_numeral-text_of}
use Rattle.std.proofs.lemmas.Grind.{pow_more}
use Rattle.std.proofs.lemmas.Int.Digits.{digits_value-lt}
use Rattle.std.proofs.lemmas.List.{drop_more, drop_all}
use Rattle.std.proofs.lemmas.Str.Parse.{digit_from_value}
use Rattle.std.proofs.Math.Nat.{pow-le-pow_right}
use Rattle.serde_json.specs.Data.{unsigned}
use Rattle.serde_json.specs.Read.{number_of}

-- ---- the text as a numeral

abbrev parts : List ℕ → Parts
parts s = record { whole = s; point = false; fraction = []; exponent_negative = false; exponent = []; len = length s }

scanned : (s : List ℕ) → AllDigits 10 s → scan_numeral s ≡ parts s
scanned s h =
    ap scan_numeral (sym (append-nil s))
    ∙ scan_numeral-text_of (parts s) (record { whole_digits = h; fraction_digits = tt; exponent_digits = tt; no_point = λ e. refl; no_exponent = λ e. refl; len_is = ap length (sym (append-nil s)) })

unsigned_first : (s : List ℕ) → AllDigits 10 s → (slice_index s 0 == minus) ≡ false
unsigned_first [] h = refl
unsigned_first (c ∷ cs) h = let r = digit_from_value c h.0 in grind (arith, nat_tests, r.0, r.1)

below : (i n : ℕ) → i ≤ 19 → n < 10 ^ i → n < 2 ^ 64
below i n few h = let most : 10 ^ i ≤ 10 ^ 19 = pow-le-pow_right (omega arith) few in omega (arith, most, h)

pub short_number : (s : List ℕ) → 0 < length s → length s ≤ 19 → AllDigits 10 s → number_of s ≡ Some (unsigned (digits_value 10 s))
unfolding number_of
short_number s some few h =
    let fits = below (length s) (digits_value 10 s) few (digits_value-lt 10 s h) in
    rw (unsigned_first s h, scanned s h, append-nil, lt-ltb _ _ some, lt-ltb _ _ fits) refl

-- ---- digit by digit

-- n was read of the first i digits
pub record Read (s : List ℕ) (i n : ℕ) : Type 0 where
  pub value : digits_value_after 10 n (drop i s) ≡ digits_value 10 s
  pub digits : AllDigits 10 (drop i s) → AllDigits 10 s
  pub bound : n < 10 ^ i

-- one digit more
pub next_read : (s : List ℕ) (i n m : ℕ) → i < length s → (digit_value (slice_index_or s i 0) < 10) × (m ≡ n * 10 + digit_value (slice_index_or s i 0)) → Read s i n → Read s (i + 1) m
next_read s i n m here h r =
    let split : drop i s ≡ slice_index_or s i 0 ∷ drop (i + 1) s = drop_more s i 0 here in
    record {
      value = ap (λ k. digits_value_after 10 k (drop (i + 1) s)) h.1 ∙ sym (ap (λ l. digits_value_after 10 n l) split) ∙ r.value;
      digits = λ rest. r.digits (rw split (h.0, rest));
      bound = rw (pow_more 10 i) (omega (arith, h.0, h.1, r.bound));
    }

-- another digit fits behind at most 18
pub read_fits : (i n : ℕ) → i < 19 → n < 10 ^ i → n < 10 ^ 18
read_fits i n few h =
    let at_most : i ≤ 18 = omega (arith, few) in
    let most : 10 ^ i ≤ 10 ^ 18 = pow-le-pow_right (omega arith) at_most in
    omega (arith, most, h)

pub all_read : (s : List ℕ) (i n : ℕ) → length s ≤ i → Read s i n → AllDigits 10 s × (n ≡ digits_value 10 s)
all_read s i n most r =
    let none = drop_all i s most in
    (r.digits (rw none tt), sym (ap (λ l. digits_value_after 10 n l) none) ∙ r.value)
