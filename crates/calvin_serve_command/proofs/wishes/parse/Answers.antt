use Rattle.std.proofs.Common.{◌≡◌, true≢false, ⊎_elim, List, [], true, ℕ, Option, option_map, ap, sym, map, subst, ◌∙◌}
use Rattle.clap.specs.Words.{App, HasMatchesOf, Row, Text, is_simple, is_simple_and_free, subcommand_of, subcommand_rows_of, fault_of, Kinds, HasKind}
use Rattle.clap.specs.declared.parser.matches.ArgMatches.{ArgMatches}
use Rattle.clap.specs.declared.parser.matches.ArgMatches.TheViews.{out-ArgMatches}
use Rattle.clap.specs.declared.error.Error.{Error}
use Rattle.calvin_options.specs.Options.{rows_found}
use Rattle.calvin_options.proofs.Subcommands.{same_name}
use Rattle.calvin_serve_command.specs.Line.{calvin, IsOrderOf}
use Rattle.calvin_serve_command.proofs.Words.{is_free_line, is_simple_line}
use Rattle.calvin_serve_command.proofs.wishes.parse.Goals as goal

kinds_at : (app : App) (words : List (List ℕ)) (kinds : Kinds) (e : Error) → app ≡ calvin → HasKind (fault_of app words) e → fault_of calvin words ≡ kinds → HasKind kinds e
kinds_at app words kinds e same has is = subst (λ k. HasKind k e) (ap (λ (a : App). fault_of a words) same ∙ is) has

rows_are : (app : App) (words : List (List ℕ)) (m : ArgMatches) → app ≡ calvin → HasMatchesOf app words m → subcommand_rows_of m ≡ subcommand_of calvin words
rows_are app words m same has = (has (ap is_simple same ∙ is_simple_line)).1 ∙ ap (λ (a : App). subcommand_of a words) same

is_taken : (app : App) (words : List (List ℕ)) → app ≡ calvin → (is_simple_and_free app ≡ true → fault_of app words ≡ []) → fault_of calvin words ≡ []
is_taken app words same none = ap (λ (a : App). fault_of a words) (sym same) ∙ none (ap is_simple_and_free same ∙ is_free_line)

pub returns : goal.returns
returns g c =
    let has = c.in-Err.ensures.kinds (ap is_simple_and_free c.in-Ok.ensures ∙ is_free_line) in
    record {
      only = tt;
      serve = λ taken order asked. ⊎_elim (λ memory. c.in_default-kind.not-OutOfMemory (c.kind.ensures ∙ memory)) (λ none. none)
          (kinds_at _ _ _ c.in-Err.e c.in-Ok.ensures has taken);
      help = λ help. ⊎_elim (λ memory. c.in_default-kind.not-OutOfMemory (c.kind.ensures ∙ memory))
          (⊎_elim (λ asked. c.in_default-kind.not-DisplayHelp (c.kind.ensures ∙ asked)) (λ none. none))
          (kinds_at _ _ _ c.in-Err.e c.in-Ok.ensures has help);
      bad = λ bad. tt;
    }

pub returns-in-Some-clause-only : goal.returns-in-Some-clause-only
returns-in-Some-clause-only g c =
    let words = map g.W.AsStr.text c.args.words.now in
    let m = c.in-Ok-try_get_matches_from.matches in
    let same = rows_are _ words m c.in-Ok.ensures c.in-Ok-try_get_matches_from.ensures.matches in (
      is_taken _ words c.in-Ok.ensures c.in-Ok-try_get_matches_from.ensures.kinds,
      (
        ap (option_map (λ (p : Text × List Row). p.0)) (sym same) ∙ sym (same_name (out-ArgMatches m).subcommand) ∙ c.in-Some.ensures.ok.0,
        subst (λ (found : Option (Text × List Row)). IsOrderOf (rows_found found) c.in-Some.order) same c.in-Some.ensures.ok.1,
      ),
    )

pub returns-in-Ok-try_get_matches_from-clause-serve : goal.returns-in-Ok-try_get_matches_from-clause-serve
returns-in-Ok-try_get_matches_from-clause-serve g c taken order asked =
    let words = map g.W.AsStr.text c.args.words.now in
    let m = c.in-Ok-try_get_matches_from.matches in
    let same = rows_are _ words m c.in-Ok.ensures c.in-Ok-try_get_matches_from.ensures.matches in
    absurd (true≢false (sym (c.in-None.ensures.some (same_name (out-ArgMatches m).subcommand ∙ ap (option_map (λ (p : Text × List Row). p.0)) same ∙ asked.0) order
    (subst (λ (found : Option (Text × List Row)). IsOrderOf (rows_found found) order) (sym same) asked.1))))
