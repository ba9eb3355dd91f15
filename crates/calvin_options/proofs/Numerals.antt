-- What reading a text as a number gives.
use Rattle.std.proofs.Common.{◌≡◌, ◌<◌, ◌&&◌, ◌^◌, ℕ, arith, cond, Bool, true, false, refl, ap, Option, Some, None, nat_lt, Result, Ok, Err}
use Rattle.std.specs.Prelude.{nat_le}
use Rattle.std.specs.Str.Parse.{IsNumeral, ParsesUnsigned, digits_value, without_leading_plus}
use Rattle.std.specs.Result.{result_ok}
use Rattle.std.proofs.lemmas.Bool.{le-leb, leb-true, lt-ltb, ltb-true}
use Rattle.clap.specs.ValueTests.{is_numeral}
use Rattle.clap.specs.Words.{Text}
use Rattle.clap.specs.declared.builder.value_parser.ValueParser.TheVariants.{Unsigned}
use Rattle.clap.proofs.WalkLemmas.{both}
use Rattle.clap.proofs.ValueTestLemmas.{Accepts-accepts, accepts-Accepts}
use Rattle.calvin_options.specs.Options.{number_in}

tested : (text : Text) → IsNumeral 10 (without_leading_plus text) → digits_value 10 (without_leading_plus text) < 2 ^ 64
    → (is_numeral (without_leading_plus text) && nat_lt (digits_value 10 (without_leading_plus text)) (2 ^ 64)) ≡ true
tested text numeral below =
    let digits = without_leading_plus text in
    let n = digits_value 10 digits in
    let passed = Accepts-accepts false (Unsigned 0 18446744073709551615) text (numeral, below, omega arith, omega arith) in
    let first = both (is_numeral digits) (nat_lt n (2 ^ 64) && (nat_le 0 n && nat_le n 18446744073709551615)) passed in
    rw (first.0, lt-ltb n (2 ^ 64) below) refl

numeral_of : (text : Text) → is_numeral (without_leading_plus text) ≡ true → digits_value 10 (without_leading_plus text) < 2 ^ 64
    → IsNumeral 10 (without_leading_plus text)
numeral_of text numeral below =
    let n = digits_value 10 (without_leading_plus text) in
    (accepts-Accepts false (Unsigned 0 18446744073709551615) text
    (rw (numeral, lt-ltb n (2 ^ 64) below, le-leb 0 n (omega arith), le-leb n 18446744073709551615 (omega arith)) refl)).0

pub parsed_number : {E : Type 0} (text : Text) (r : Result ℕ E) → ParsesUnsigned 64 10 text r → result_ok r ≡ number_in text
parsed_number text (Ok n) h = rw (tested text h.0.0 h.0.1) (ap Some h.1)
parsed_number text (Err e) h = go (is_numeral digits && nat_lt (digits_value 10 digits) (2 ^ 64)) refl
  where
    digits : Text
    digits = without_leading_plus text

    go : (b : Bool) → (is_numeral digits && nat_lt (digits_value 10 digits) (2 ^ 64)) ≡ b → None ≡ cond b (Some (digits_value 10 digits)) None
    go true passed =
        let parts = both (is_numeral digits) (nat_lt (digits_value 10 digits) (2 ^ 64)) passed in
        let below = ltb-true _ _ parts.1 in
        absurd (h (numeral_of text parts.0 below, below))
    go false passed = refl
