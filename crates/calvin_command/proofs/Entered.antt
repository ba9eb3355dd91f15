-- What holds of all that clap finds of the subcommand of a name holds of what it finds of a line for which it has no error and that names it.
use Rattle.std.proofs.Common.{◌≡◌, ◌∙◌, ℕ, false, true≢false, sym, List, [], Option, Some, None, option_map, IfSome}
use Rattle.std.specs.List.{find, slice_index_or}
use Rattle.std.specs.Option.{option_map_or}
use Rattle.std.specs.Str.{bytes_eq}
use Rattle.std.proofs.lemmas.Slice.Eq.{bytes_eq-Decides}
use Rattle.clap.specs.Simple.{Shape, argument_words, built, entered, label_of, names_of, new_shape, rows_at, subcommand_of}
use Rattle.clap.specs.Faults.{entered_fault, fault_of, level_fault, walk_fault}
use Rattle.clap.specs.Walk.{Row, Text, answers_to, nothing_held, walk, walk_from}
use Rattle.calvin_options.specs.Options.{rows_found}
use Rattle.calvin_command.specs.Line.{calvin, Names}
use Rattle.calvin_command.proofs.Rows.{Each, find_each, first_empty, second_empty}

module _ (name : Text) (Good : List Row → Type 0) where
  -- where the subcommand has the name, what clap finds of it is good
  abbrev pub IsGoodFor : Shape → Type 0
  IsGoodFor s = s.name ≡ name → (words : List Text) → level_fault s [] nothing_held words false [] ≡ [] → Good (rows_at s words).1

  pub other : (s : Shape) → bytes_eq s.name name ≡ false → IsGoodFor s
  other s differs same words none = absurd (true≢false (sym ((bytes_eq-Decides s.name name).1 same) ∙ differs))

  found_good : (found : Option Shape) → IfSome found IsGoodFor → (words : List Text)
      → option_map (λ s. s.0) (option_map (λ s. rows_at s words) found) ≡ Some name
      → option_map_or (λ s. level_fault s [] nothing_held words false []) found [] ≡ []
      → Good (rows_found (option_map (λ s. rows_at s words) found))
  found_good None good words named none = absurd (cc)
  found_good (Some s) good words named none = good (cc) words none

  module _ (each : Each IsGoodFor (built calvin).subs) where
    stop_good : (stop : Option (Text × List Text)) → option_map (λ s. s.0) (entered (built calvin) stop) ≡ Some name
        → entered_fault (built calvin) stop ≡ [] → Good (rows_found (entered (built calvin) stop))
    stop_good None named none = absurd (cc)
    stop_good (Some p) named none =
        let is_met = λ (s : Shape). answers_to p.0 (label_of s) in
        found_good (find is_met (built calvin).subs) (find_each IsGoodFor is_met (built calvin).subs each) p.1 named none

    pub named_good : (words : List Text) → fault_of calvin words ≡ [] → Names name words → Good (rows_found (subcommand_of calvin words))
    named_good words none named =
        let args = argument_words calvin words in
        let end = walk (built calvin).top.rules (names_of (built calvin)) nothing_held args in
        let after_walk = second_empty (walk_fault (built calvin).top (names_of (built calvin)) (walk_from nothing_held) args) _ none in
        stop_good end.stopped named (first_empty (entered_fault (built calvin) end.stopped) _ after_walk)

-- the subcommand of the name, by its number
abbrev pub shape : ℕ → Shape
shape place = slice_index_or (built calvin).subs place (new_shape [])
