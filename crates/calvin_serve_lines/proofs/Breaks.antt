-- JSON that a writer prints has no line feed.
use Rattle.std.proofs.Common.{◌≡◌, ◌+◌, ◌≤◌, ◌<◌, ℕ, zero, suc, List, [], ◌∷◌, ◌++◌, Bool, true, false, not, cond, ◌&&◌, ◌||◌, ◌==◌, Option, Some, None, option_and_then, drop, inl, inr, refl, sym, ap, ◌∙◌, subst, arith}
use Rattle.std.proofs.lemmas.Bool.{true≢false, false≢true, eqb-true, ne_eqb, and_parts, or_cases, cases_Bool, cases_lt, cases_eq}
use Rattle.std.specs.List.{prefix_len}
use Rattle.std.specs.Char.{is_ascii_digit}
use Rattle.json.specs.Token.{Token, begin_object, end_object, begin_array, end_array, key, string, number, boolean, null, bad}
use Rattle.json.specs.Word.{head, after_digits, after_minus, after_sign, after_whole, after_fraction, after_exponent, after_number}
use Rattle.json.specs.Lex.{tokens}
use Rattle.json.specs.Print.{escape_byte, escape, quoted, token_text, separator, print_from, print, ends, begins, IsNumber, IsPrintableOrBad, ArePrintableOrBad}
use Rattle.json.proofs.Numbered.{ArePrintableOrBad-tokens}
use Rattle.json.proofs.Printed.Strings.{escape_byte_plain}
use Rattle.calvin_journal.specs.Lines.{has_break}

abbrev IsLine : List ℕ → Type 0
IsLine xs = has_break xs ≡ false

further : (a b c : Bool) → (a || b) ≡ false → (b ≡ false → c ≡ false) → (a || c) ≡ false
further true b c e f = absurd (true≢false e)
further false b c e f = f e

joined : (xs ys : List ℕ) → IsLine xs → IsLine ys → IsLine (xs ++ ys)
joined [] ys e f = f
joined (x ∷ xs) ys e f = further (x == 10) (has_break xs) (has_break (xs ++ ys)) e (λ rest. joined xs ys rest f)

-- ---- strings

abbrev escapes_below : ℕ → Bool
escapes_below zero = true
escapes_below (suc n) = not (has_break (escape_byte n)) && escapes_below n

not_true : (b : Bool) → not b ≡ true → b ≡ false
not_true true e = absurd (false≢true e)
not_true false e = refl

escape_below : (n : ℕ) → escapes_below n ≡ true → (x : ℕ) → x < n → IsLine (escape_byte x)
escape_below zero e x h = absurd (omega arith)
escape_below (suc n) e x h =
    let p = and_parts _ _ e in
    elim (cases_eq x n) [ inl same ↦ rw same (not_true _ p.0) | inr other ↦ escape_below n p.1 x (omega arith) ]

all_below : escapes_below 128 ≡ true
unfolding escape_byte
all_below = refl

alone : (x : ℕ) → 128 ≤ x → IsLine (x ∷ [])
alone x h = rw (ne_eqb x 10 (λ e. omega arith)) refl

escaped_byte : (x : ℕ) → IsLine (escape_byte x)
escaped_byte x = elim (cases_lt x 128) [
  | inl small ↦ escape_below 128 all_below x small
  | inr big ↦ subst IsLine (sym (escape_byte_plain x (λ e. omega arith) (λ e. omega arith) (omega arith))) (alone x (omega arith))
]

escaped : (s : List ℕ) → IsLine (escape s)
escaped [] = refl
escaped (x ∷ xs) = joined (escape_byte x) (escape xs) (escaped_byte x) (escaped xs)

quoted_line : (s : List ℕ) → IsLine (quoted s)
quoted_line s = joined (escape s) (34 ∷ []) (escaped s) refl

-- ---- numbers: no part of one has a line feed

abbrev SameLine : List ℕ → List ℕ → Type 0
SameLine t r = has_break t ≡ has_break r

abbrev Leaves : List ℕ → Option (List ℕ) → Type 0
Leaves t None = Unit {0}
Leaves t (Some r) = SameLine t r

first : (x : ℕ) (xs : List ℕ) → (x == 10) ≡ false → SameLine (x ∷ xs) xs
first x xs e = ap (λ b. b || has_break xs) e

one : (c : ℕ) (t : List ℕ) → (c == 10) ≡ false → (head t == c) ≡ true → SameLine t (drop 1 t)
one c [] other e = refl
one c (x ∷ xs) other e = first x xs (ap (λ y. y == 10) (eqb-true x c e) ∙ other)

after : (t u : List ℕ) (o : Option (List ℕ)) → SameLine t u → Leaves u o → Leaves t o
after t u None e h = tt
after t u (Some r) e h = e ∙ h

either : (t : List ℕ) (b : Bool) (x y : Option (List ℕ)) → (b ≡ true → Leaves t x) → Leaves t y → Leaves t (cond b x y)
either t true x y p q = p refl
either t false x y p q = q

skipped : (t : List ℕ) (b : Bool) → (b ≡ true → SameLine t (drop 1 t)) → SameLine t (cond b (drop 1 t) t)
skipped t true p = p refl
skipped t false p = refl

digit : (x : ℕ) → is_ascii_digit x ≡ true → (x == 10) ≡ false
digit x e = ne_eqb x 10 (λ is. true≢false (sym e ∙ ap is_ascii_digit is))

digits_at : (b : Bool) (x : ℕ) (xs : List ℕ) (n : ℕ) → (b ≡ true → (x == 10) ≡ false) → SameLine xs (drop n xs) → SameLine (x ∷ xs) (drop (cond b (1 + n) 0) (x ∷ xs))
digits_at true x xs n p q = let e : suc n ≡ 1 + n = omega arith in subst (λ j. SameLine (x ∷ xs) (drop j (x ∷ xs))) e (first x xs (p refl) ∙ q)
digits_at false x xs n p q = refl

digits_end : (t : List ℕ) → SameLine t (drop (prefix_len is_ascii_digit t) t)
digits_end [] = refl
digits_end (x ∷ xs) = digits_at (is_ascii_digit x) x xs (prefix_len is_ascii_digit xs) (digit x) (digits_end xs)

digits : (t : List ℕ) → Leaves t (after_digits t)
digits t = either t (prefix_len is_ascii_digit t == 0) None _ (λ _. tt) (digits_end t)

then : (t : List ℕ) (f : List ℕ → Option (List ℕ)) → ((u : List ℕ) → Leaves u (f u)) → (o : Option (List ℕ)) → Leaves t o → Leaves t (option_and_then f o)
then t f g None h = tt
then t f g (Some r) h = after t r (f r) h (g r)

fraction : (t : List ℕ) → Leaves t (after_fraction t)
fraction t = either t (head t == 46) _ (Some t) (λ e. after t (drop 1 t) _ (one 46 t refl e) (digits (drop 1 t))) refl

two : (c d : ℕ) (t : List ℕ) → (c == 10) ≡ false → (d == 10) ≡ false → ((head t == c) || (head t == d)) ≡ true → SameLine t (drop 1 t)
two c d t p q e = elim (or_cases _ _ e) [ inl is ↦ one c t p is | inr is ↦ one d t q is ]

sign : (t : List ℕ) → SameLine t (after_sign t)
sign t = skipped t ((head t == 45) || (head t == 43)) (two 45 43 t refl refl)

exponent : (t : List ℕ) → Leaves t (after_exponent t)
exponent t =
    let u = drop 1 t in
    either t ((head t == 101) || (head t == 69)) _ (Some t) (λ e. after t u _ (two 101 69 t refl refl e) (after u (after_sign u) _ (sign u) (digits (after_sign u)))) refl

whole : (t : List ℕ) → Leaves t (after_whole t)
whole t = either t (head t == 48) (Some (drop 1 t)) _ (one 48 t refl) (digits t)

number_leaves : (t : List ℕ) → Leaves t (after_number t)
unfolding after_number
number_leaves t =
    let u = after_minus t in
    then t after_exponent exponent _ (then t after_fraction fraction _ (after t u _ (skipped t (head t == 45) (one 45 t refl)) (whole u)))

number_line : (s : List ℕ) → IsNumber s → IsLine s
number_line s is = subst (Leaves s) is (number_leaves s)

-- ---- tokens

token_line : (t : Token) → IsPrintableOrBad t → IsLine (token_text t)
token_line begin_object h = refl
token_line end_object h = refl
token_line begin_array h = refl
token_line end_array h = refl
token_line (key s) h = joined (quoted s) (58 ∷ []) (quoted_line s) refl
token_line (string s) h = quoted_line s
token_line (number s) h = number_line s h
token_line (boolean true) h = refl
token_line (boolean false) h = refl
token_line null h = refl
token_line bad h = refl

comma_line : (b : Bool) → IsLine (cond b (44 ∷ []) [])
comma_line true = refl
comma_line false = refl

print_line : (b : Bool) (ts : List Token) → ArePrintableOrBad ts → IsLine (print_from b ts)
unfolding print_from
print_line b [] h = refl
print_line b (t ∷ ts) h = joined (separator b t) (token_text t ++ print_from (ends t) ts) (comma_line _) (joined (token_text t) (print_from (ends t) ts) (token_line t h.0) (print_line (ends t) ts h.1))

-- a text without spaces is one line
pub one_line : (text : List ℕ) → text ≡ print (tokens text) → has_break text ≡ false
one_line text compact = subst IsLine (sym compact) (print_line false (tokens text) (ArePrintableOrBad-tokens text))
