-- Flags and options of a command line. They are of this project; what they are to `clap` is of its specifications.
--     flag name      a flag of this name
--     optional_number name least most      an option of this name that takes a number in a range, and need not be given
--     number_option name least most default      such an option that has the default where it isn't given
--     has_flag name rows      the flag of this name is among what clap found
--     rows_found found      what clap found of a subcommand
--     number_in text      the number that a text writes, if it writes one
--     number_of name rows      the number among what clap found for the option of this name
use Rattle.std.specs.Prelude.{◌≤◌, ◌&&◌, ◌^◌, ℕ, List, [], ◌∷◌, Option, Some, None, option_and_then, if◌then◌else◌, nat_lt, codes, Bool, false}
use Rattle.std.specs.Option.{option_map_or}
use Rattle.std.specs.Str.{bytes_eq}
use Rattle.std.specs.Str.Parse.{digits_value, without_leading_plus}
use Rattle.clap.specs.ValueTests.{is_numeral}
use Rattle.clap.specs.Words.{Rule, Row, Text, new_rule, first_of}
use Rattle.clap.specs.declared.builder.action.ArgAction.TheVariants.{Set, SetTrue}
use Rattle.clap.specs.declared.builder.value_parser.ValueParser.TheVariants.{Unsigned}

abbrev pub flag : Text → Rule
flag name = record (new_rule name) { long = Some name; action = Some SetTrue }

abbrev pub optional_number : Text → ℕ → ℕ → Rule
optional_number name least most = record (new_rule name) {
  long = Some name;
  action = Some Set;
  parser = Some (Unsigned least most);
  value_names = 1;
}

abbrev pub number_option : Text → ℕ → ℕ → Text → Rule
number_option name least most default = record (optional_number name least most) { defaults = default ∷ [] }

abbrev pub has_flag : Text → List Row → Bool
has_flag name rows = option_map_or (λ value. bytes_eq value (codes "true")) (first_of name rows) false

-- in decimal digits, after a plus or none, and below 2 ^ 64
abbrev pub number_in : Text → Option ℕ
number_in text =
    let digits = without_leading_plus text in
    if is_numeral digits && nat_lt (digits_value 10 digits) (2 ^ 64) then Some (digits_value 10 digits) else None

abbrev pub number_of : Text → List Row → Option ℕ
number_of name rows = option_and_then number_in (first_of name rows)

-- what clap found of a subcommand
abbrev pub rows_found : Option (Text × List Row) → List Row
rows_found found = option_map_or (λ s. s.1) found []
