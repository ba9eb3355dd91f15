use Rattle.std.proofs.Common.{◌∙◌, ap, sym, List, ℕ, option_map}
use Rattle.std.specs.Prelude.{option_and_then}
use Rattle.std.specs.Borrow.{Bor}
use Rattle.clap.specs.Words.{found_of}
use Rattle.clap.proofs.WalkLemmas.{first_value-rows}
use Rattle.calvin_options.specs.Options.{number_in}
use Rattle.calvin_options.proofs.Numerals.{parsed_number}
use Rattle.calvin_options.proofs.found.number_of.Goals as goal

pub returns-in_err-get_str : goal.returns-in_err-get_str
returns-in_err-get_str c =
    let first = c.get_str.ensures ∙ first_value-rows (found_of c.args.found.now) c.args.name.now in
    c.from_residual.ensures ∙ ap (option_and_then number_in) (ap (option_map (λ (s : Bor (List ℕ)). s.now)) (sym c.in_err-get_str.was) ∙ first)

pub returns : goal.returns
returns c =
    let first = c.get_str.ensures ∙ first_value-rows (found_of c.args.found.now) c.args.name.now in
    c.ok.ensures.value ∙ parsed_number c.in_ok-get_str.field-0.now c.parse.result c.parse.ensures.value.0
    ∙ ap (option_and_then number_in) (ap (option_map (λ (s : Bor (List ℕ)). s.now)) (sym c.in_ok-get_str.was) ∙ first)
