-- Where clap takes a line, there is a number in its range under the name of each option that takes one.
use Rattle.std.proofs.Common.{◌≡◌, ◌<◌, ◌≤◌, ◌||◌, ◌&&◌, ◌^◌, ◌∙◌, ◌==◌, ℕ, suc, arith, Bool, cond, true, false, true≢false, refl, sym, ap, subst, List, [], ◌∷◌, ◌++◌, length, codes, Option, Some, None, nat_lt, Result, Ok, Err}
use Rattle.std.specs.List.{find, fold}
use Rattle.std.specs.Prelude.{slice_get, option_and_then, nat_le}
use Rattle.std.specs.Str.{bytes_eq}
use Rattle.std.specs.Str.Parse.{IsNumeral, ParsesUnsigned, digits_value, without_leading_plus}
use Rattle.std.specs.Result.{result_ok}
use Rattle.std.proofs.lemmas.Slice.Eq.{bytes_eq-Decides}
use Rattle.std.proofs.lemmas.Bool.{le-leb, leb-true, lt-ltb, ltb-true, ne_eqb}
use Rattle.clap.specs.Values.{refused_kind}
use Rattle.clap.specs.ValueTests.{accepts, is_numeral}
use Rattle.clap.specs.Facts.{parser_of_value}
use Rattle.clap.specs.Kinds.{range_kinds, value_kinds, values_kinds}
use Rattle.clap.specs.Simple.{filled, help_rule}
use Rattle.clap.specs.Faults.{repeat_fault, given_default_fault}
use Rattle.clap.specs.Walk.{Row, Rule, Text, arg_by_id, default_rows, has_row, more_values, reading_by, with_default, with_values, without}
use Rattle.clap.specs.declared.builder.value_parser.Reading.{Reading}
use Rattle.clap.specs.declared.builder.value_parser.ValueParser.{ValueParser}
use Rattle.clap.specs.declared.builder.value_parser.ValueParser.TheVariants.{Unsigned}
use Rattle.clap.specs.declared.parser.matches.ValueSource.{ValueSource}
use Rattle.clap.specs.declared.parser.matches.ValueSource.TheVariants.{DefaultValue}
use Rattle.clap.proofs.WalkLemmas.{both}
use Rattle.clap.proofs.ValueTestLemmas.{Accepts-accepts, accepts-Accepts}
use Rattle.calvin_options.specs.Options.{flag, number_option, optional_number, number_in, number_of}
use Rattle.calvin_command.proofs.Rows.{Each, IsUsedWell, HasGoodDefault, first_empty, second_empty, not_empty}

-- the first of the values passes the argument's parser
abbrev FirstPasses : Option Rule → List Text → Type 0
FirstPasses None values = Unit {0}
FirstPasses (Some a) [] = ⊥
FirstPasses (Some a) (v ∷ vs) = accepts a.ignore_case (parser_of_value a.parser) v ≡ true

abbrev pub IsPassed : List Rule → Row → Type 0
IsPassed c r = FirstPasses (arg_by_id c r.id) r.values

more_pass : (found : Option Rule) (vs ws : List Text) → FirstPasses found vs → FirstPasses found (vs ++ ws)
more_pass None vs ws h = tt
more_pass (Some a) [] ws h = absurd h
more_pass (Some a) (v ∷ vs) ws h = h

value_accepted : (i : Bool) (p : ValueParser) (v : Text) → value_kinds i p v ≡ [] → accepts i p v ≡ true
value_accepted i p v none = go (accepts i p v) none
  where
    go : (b : Bool) → cond b [] (refused_kind p ∷ []) ≡ [] → b ≡ true
    go true none = refl
    go false none = absurd (not_empty _ _ none)

-- ---- each row's first value passes

module _ (c : List Rule) where
  with_values_pass : (id : Text) (how : Reading) (from : ValueSource) (values : List Text) → FirstPasses (arg_by_id c id) values
      → (rows : List Row) → Each (IsPassed c) rows → Each (IsPassed c) (with_values id how from values rows)
  with_values_pass id how from values here [] each = (here, tt)
  with_values_pass id how from values here (r ∷ rs) each = go (bytes_eq r.id id) (with_values_pass id how from values here rs each.1)
    where
      go : (b : Bool) → Each (IsPassed c) (with_values id how from values rs)
          → Each (IsPassed c) (cond b (more_values from values r ++ rs) (r ∷ with_values id how from values rs))
      go true rest = (more_pass (arg_by_id c r.id) r.values values each.0, each.1)
      go false rest = (each.0, rest)

  without_pass : (id : Text) (rows : List Row) → Each (IsPassed c) rows → Each (IsPassed c) (without id rows)
  without_pass id [] each = tt
  without_pass id (r ∷ rs) each = go (bytes_eq r.id id) (without_pass id rs each.1)
    where
      go : (b : Bool) → Each (IsPassed c) (without id rs) → Each (IsPassed c) (cond b rs (r ∷ without id rs))
      go true rest = each.1
      go false rest = (each.0, rest)

  none_wanted : (n : ℕ) → range_kinds 0 0 (suc n) ≡ [] → ⊥
  none_wanted n none =
      let more : (0 == suc n) ≡ false = ne_eqb 0 (suc n) (λ e. omega arith) in
      not_empty _ _ (rw more at none)

  -- an option that takes a number and has these defaults, if any
  abbrev with_defaults : Text → ℕ → ℕ → List Text → Rule
  with_defaults name least most defaults = record (optional_number name least most) { defaults = defaults }

  rule_used : (name : Text) (least most : ℕ) (defaults : List Text) → arg_by_id c name ≡ Some (filled (with_defaults name least most defaults))
      → (again : Bool) → IsUsedWell (Each (IsPassed c)) again (filled (with_defaults name least most defaults))
  rule_used name least most defaults found again [] rows none each = absurd (not_empty _ _ none)
  rule_used name least most defaults found again (v ∷ vs) rows none each =
      let after_range = second_empty (range_kinds 1 1 (length (v ∷ vs))) _ none in
      let after_repeat = second_empty (repeat_fault again name rows) _ after_range in
      let parser = Unsigned least most in
      let passed = value_accepted false parser v (first_empty (value_kinds false parser v) (values_kinds false parser vs) after_repeat) in
      with_values_pass name _ _ (v ∷ vs) (subst (λ o. FirstPasses o (v ∷ vs)) (sym found) passed) (without name rows) (without_pass name rows each)

  pub number_used : (name : Text) (least most : ℕ) (default : Text) → arg_by_id c name ≡ Some (filled (number_option name least most default))
      → (again : Bool) → IsUsedWell (Each (IsPassed c)) again (filled (number_option name least most default))
  number_used name least most default = rule_used name least most (default ∷ [])

  pub optional_used : (name : Text) (least most : ℕ) → arg_by_id c name ≡ Some (filled (optional_number name least most))
      → (again : Bool) → IsUsedWell (Each (IsPassed c)) again (filled (optional_number name least most))
  optional_used name least most = rule_used name least most []

  pub optional_default : (name : Text) (least most : ℕ) → HasGoodDefault (Each (IsPassed c)) (filled (optional_number name least most))
  optional_default name least most rows none each = go (has_row name rows)
    where
      go : (b : Bool) → Each (IsPassed c) (cond b rows rows)
      go true = each
      go false = each

  pub number_default : (name : Text) (least most : ℕ) (default : Text) → arg_by_id c name ≡ Some (filled (number_option name least most default))
      → HasGoodDefault (Each (IsPassed c)) (filled (number_option name least most default))
  number_default name least most default found rows none each = go (has_row name rows) none
    where
      a : Rule
      a = filled (number_option name least most default)

      go : (b : Bool) → cond (b || false) [] (given_default_fault a (default ∷ [])) ≡ []
          → Each (IsPassed c) (cond b rows (default_rows name (reading_by a) (default ∷ []) rows))
      go true none = each
      go false none =
          let parser = Unsigned least most in
          let passed = value_accepted false parser default (first_empty (value_kinds false parser default) [] none) in
          with_values_pass name _ _ (default ∷ []) (subst (λ o. FirstPasses o (default ∷ [])) (sym found) passed) rows each

  pub flag_used : (name : Text) → arg_by_id c name ≡ Some (filled (flag name)) → (again : Bool) → IsUsedWell (Each (IsPassed c)) again (filled (flag name))
  flag_used name found again [] rows none each =
      with_values_pass name _ _ (codes "true" ∷ []) (subst (λ o. FirstPasses o (codes "true" ∷ [])) (sym found) refl) (without name rows) (without_pass name rows each)
  flag_used name found again (v ∷ vs) rows none each = absurd (none_wanted (length vs) (first_empty (range_kinds 0 0 (length (v ∷ vs))) _ none))

  pub flag_default : (name : Text) → arg_by_id c name ≡ Some (filled (flag name)) → HasGoodDefault (Each (IsPassed c)) (filled (flag name))
  flag_default name found rows none each = go (has_row name rows)
    where
      go : (b : Bool) → Each (IsPassed c) (cond b rows (default_rows name (reading_by (filled (flag name))) (codes "false" ∷ []) rows))
      go true = each
      go false = with_values_pass name _ _ (codes "false" ∷ []) (subst (λ o. FirstPasses o (codes "false" ∷ [])) (sym found) refl) rows each

  pub help_used : (again : Bool) → IsUsedWell (Each (IsPassed c)) again (filled help_rule)
  help_used again values rows none each = absurd (not_empty _ _ (second_empty (range_kinds 0 0 (length values)) _ none))

  pub help_default : HasGoodDefault (Each (IsPassed c)) (filled help_rule)
  help_default rows none each = go (has_row (codes "help") rows)
    where
      go : (b : Bool) → Each (IsPassed c) (cond b rows rows)
      go true = each
      go false = each

-- ---- a row for each name

same_text : (id : Text) → bytes_eq id id ≡ true
same_text id = (bytes_eq-Decides id id).1 refl

or_true : (b : Bool) → (b || true) ≡ true
or_true true = refl
or_true false = refl

has_new : (id : Text) (how : Reading) (from : ValueSource) (values : List Text) (rows : List Row) → has_row id (with_values id how from values rows) ≡ true
has_new id how from values [] = ap (λ b. b || false) (same_text id)
has_new id how from values (r ∷ rs) = go (bytes_eq r.id id) refl (has_new id how from values rs)
  where
    go : (b : Bool) → bytes_eq r.id id ≡ b → has_row id (with_values id how from values rs) ≡ true
        → has_row id (cond b (more_values from values r ++ rs) (r ∷ with_values id how from values rs)) ≡ true
    go true is rest = ap (λ b. b || has_row id rs) is
    go false is rest = ap (λ b. bytes_eq r.id id || b) rest ∙ or_true (bytes_eq r.id id)

or_keeps : (b x y : Bool) → (x ≡ true → y ≡ true) → (b || x) ≡ true → (b || y) ≡ true
or_keeps true x y f h = refl
or_keeps false x y f h = f h

has_still : (other id : Text) (how : Reading) (from : ValueSource) (values : List Text) (rows : List Row) → has_row other rows ≡ true
    → has_row other (with_values id how from values rows) ≡ true
has_still other id how from values [] has = absurd (true≢false (sym has))
has_still other id how from values (r ∷ rs) has = go (bytes_eq r.id id) (has_still other id how from values rs)
  where
    go : (b : Bool) → (has_row other rs ≡ true → has_row other (with_values id how from values rs) ≡ true)
        → has_row other (cond b (more_values from values r ++ rs) (r ∷ with_values id how from values rs)) ≡ true
    go true rest = has
    go false rest = or_keeps (bytes_eq r.id other) _ _ rest has

defaults_keep : (other id : Text) (how : Reading) (values : List Text) (rows : List Row) → has_row other rows ≡ true
    → has_row other (default_rows id how values rows) ≡ true
defaults_keep other id how [] rows has = has
defaults_keep other id how (v ∷ vs) rows has = has_still other id how DefaultValue (v ∷ vs) rows has

default_keeps : (other : Text) (rows : List Row) (a : Rule) → has_row other rows ≡ true → has_row other (with_default rows a) ≡ true
default_keeps other rows a has = go (has_row a.id rows)
  where
    go : (b : Bool) → has_row other (cond b rows (default_rows a.id (reading_by a) a.defaults rows)) ≡ true
    go true = has
    go false = defaults_keep other a.id (reading_by a) a.defaults rows has

pub defaults_all_keep : (other : Text) (rules : List Rule) (rows : List Row) → has_row other rows ≡ true → has_row other (fold with_default rows rules) ≡ true
defaults_all_keep other [] rows has = has
defaults_all_keep other (a ∷ rest) rows has = defaults_all_keep other rest (with_default rows a) (default_keeps other rows a has)

-- a default makes a row
pub default_makes : (name : Text) (least most : ℕ) (default : Text) (rows : List Row) → has_row name (with_default rows (filled (number_option name least most default))) ≡ true
default_makes name least most default rows = go (has_row name rows) refl
  where
    go : (b : Bool) → has_row name rows ≡ b
        → has_row name (cond b rows (default_rows name (reading_by (filled (number_option name least most default))) (default ∷ []) rows)) ≡ true
    go true is = is
    go false is = has_new name _ DefaultValue (default ∷ []) rows

-- ---- the number that is found

abbrev pub HasNumber : Text → ℕ → ℕ → List Row → Type 0
HasNumber name least most rows = (n : ℕ) × (number_of name rows ≡ Some n) × (least ≤ n) × (n ≤ most)

first_number : (least most : ℕ) (default name : Text) (values : List Text) → FirstPasses (Some (filled (number_option name least most default))) values
    → (n : ℕ) × (option_and_then number_in (slice_get values 0) ≡ Some n) × (least ≤ n) × (n ≤ most)
first_number least most default name [] passed = absurd passed
first_number least most default name (v ∷ vs) passed =
    let digits = without_leading_plus v in
    let n = digits_value 10 digits in
    let numeral = both (is_numeral digits) (nat_lt n (2 ^ 64) && (nat_le least n && nat_le n most)) passed in
    let fits = both (nat_lt n (2 ^ 64)) (nat_le least n && nat_le n most) numeral.1 in
    let bounds = both (nat_le least n) (nat_le n most) fits.1 in
    (n, rw (numeral.0, fits.0) refl, leb-true _ _ bounds.0, leb-true _ _ bounds.1)

pub number_found : (c : List Rule) (name : Text) (least most : ℕ) (default : Text) → arg_by_id c name ≡ Some (filled (number_option name least most default))
    → (rows : List Row) → Each (IsPassed c) rows → has_row name rows ≡ true → HasNumber name least most rows
number_found c name least most default found [] each has = absurd (true≢false (sym has))
number_found c name least most default found (r ∷ rs) each has = go (bytes_eq r.id name) refl has (number_found c name least most default found rs each.1)
  where
    go : (b : Bool) → bytes_eq r.id name ≡ b → (b || has_row name rs) ≡ true → (has_row name rs ≡ true → HasNumber name least most rs)
        → (n : ℕ) × (option_and_then number_in (option_and_then (λ (x : Row). slice_get x.values 0) (cond b (Some r) (find (λ (x : Row). bytes_eq x.id name) rs))) ≡ Some n) × (least ≤ n) × (n ≤ most)
    go true is has rest =
        let same : r.id ≡ name = (bytes_eq-Decides r.id name).0 is in
        let passed : FirstPasses (arg_by_id c name) r.values = subst (λ (id : Text). FirstPasses (arg_by_id c id) r.values) same each.0 in
        first_number least most default name r.values (subst (λ o. FirstPasses o r.values) found passed)
    go false is has rest = rest has
