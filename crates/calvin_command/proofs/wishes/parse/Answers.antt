use Rattle.std.proofs.Common.{◌≡◌, inl, inr, ⊎_elim, List, [], true, ℕ, ap, sym, map, subst, codes, refl, ◌∙◌}
use Rattle.clap.specs.Words.{App, HasMatchesOf, is_simple, is_simple_and_free, subcommand_of, subcommand_rows_of, fault_of, Kinds, HasKind, IsAmong, kind_of}
use Rattle.clap.specs.declared.parser.matches.ArgMatches.{ArgMatches}
use Rattle.clap.specs.declared.error.Error.{Error}
use Rattle.clap.specs.declared.error.kind.ErrorKind.{ErrorKind}
use Rattle.clap.specs.declared.error.kind.ErrorKind.TheVariants.{DisplayHelp}
use Rattle.calvin_command.specs.Line.{calvin}
use Rattle.calvin_command.proofs.Schedules.{is_sim, sim_wish}
use Rattle.calvin_command.proofs.Teams.{is_run, run_wish}
use Rattle.calvin_command.proofs.Rows.{not_empty}
use Rattle.calvin_command.proofs.Words.{is_check, is_for, is_free_line, is_serial, is_simple_line, is_taken_for, name_is}
use Rattle.calvin_command.proofs.wishes.parse.Goals as goal

kinds_at : (app : App) (words : List (List ℕ)) (kinds : Kinds) (e : Error) → app ≡ calvin → HasKind (fault_of app words) e → fault_of calvin words ≡ kinds → HasKind kinds e
kinds_at app words kinds e same has is = subst (λ k. HasKind k e) (ap (λ (a : App). fault_of a words) same ∙ is) has

rows_are : (app : App) (words : List (List ℕ)) (m : ArgMatches) → app ≡ calvin → HasMatchesOf app words m → subcommand_rows_of m ≡ subcommand_of calvin words
rows_are app words m same has = (has (ap is_simple same ∙ is_simple_line)).1 ∙ ap (λ (a : App). subcommand_of a words) same

no_fault : (app : App) (words : List (List ℕ)) → app ≡ calvin → (is_simple_and_free app ≡ true → fault_of app words ≡ []) → fault_of calvin words ≡ []
no_fault app words same none = ap (λ (a : App). fault_of a words) (sym same) ∙ none (ap is_simple_and_free same ∙ is_free_line)

pub returns : goal.returns
returns g c =
    let has = c.in-Err.ensures.kinds (ap is_simple_and_free c.in-Ok.ensures ∙ is_free_line) in
    record {
      only = tt;
      serial = λ taken. ⊎_elim (λ memory. c.in_default-kind.not-OutOfMemory (c.kind.ensures ∙ memory)) (λ none. none)
          (kinds_at _ _ _ c.in-Err.e c.in-Ok.ensures has taken.0.0);
      check = λ taken. ⊎_elim (λ memory. c.in_default-kind.not-OutOfMemory (c.kind.ensures ∙ memory)) (λ none. none)
          (kinds_at _ _ _ c.in-Err.e c.in-Ok.ensures has taken.0.0);
      sim = λ taken. ⊎_elim (λ memory. c.in_default-kind.not-OutOfMemory (c.kind.ensures ∙ memory)) (λ none. none)
          (kinds_at _ _ _ c.in-Err.e c.in-Ok.ensures has taken.0.0);
      run = λ taken. ⊎_elim (λ memory. c.in_default-kind.not-OutOfMemory (c.kind.ensures ∙ memory)) (λ none. none)
          (kinds_at _ _ _ c.in-Err.e c.in-Ok.ensures has taken.0.0);
      help = λ help. ⊎_elim (λ memory. c.in_default-kind.not-OutOfMemory (c.kind.ensures ∙ memory))
          (⊎_elim (λ asked. c.in_default-kind.not-DisplayHelp (c.kind.ensures ∙ asked)) (λ none. none))
          (kinds_at _ _ _ c.in-Err.e c.in-Ok.ensures has help);
      bad = λ bad. tt;
    }

pub returns-in-Some-clause-only : goal.returns-in-Some-clause-only
returns-in-Some-clause-only g c =
    let words = map g.W.AsStr.text c.args.words.now in
    let m = c.in-Ok-try_get_matches_from.matches in
    let same = rows_are _ words m c.in-Ok.ensures c.in-Ok-try_get_matches_from.ensures.matches in
    is_for words m c.in-Some.wish same (no_fault _ words c.in-Ok.ensures c.in-Ok-try_get_matches_from.ensures.kinds) c.in-Some.ensures.only c.in-Some.ensures.asked

help_among : (kinds : Kinds) (e : Error) (kind : ErrorKind) → kind ≡ kind_of e → kind ≡ DisplayHelp → HasKind kinds e → IsAmong DisplayHelp kinds
help_among kinds e kind its help (inl memory) = absurd (cc)
help_among kinds e kind its help (inr among) = subst (λ k. IsAmong k kinds) (sym its ∙ help) among

pub returns-in-Some-clause-serial : goal.returns-in-Some-clause-serial
returns-in-Some-clause-serial g c line =
    let words = map g.W.AsStr.text c.args.words.now in
    let m = c.in-Ok-try_get_matches_from.matches in
    is_serial words m c.in-Some.wish (rows_are _ words m c.in-Ok.ensures c.in-Ok-try_get_matches_from.ensures.matches) c.in-Some.ensures.serial line

pub returns-in-Some-clause-check : goal.returns-in-Some-clause-check
returns-in-Some-clause-check g c line =
    let words = map g.W.AsStr.text c.args.words.now in
    let m = c.in-Ok-try_get_matches_from.matches in
    is_check words m c.in-Some.wish (rows_are _ words m c.in-Ok.ensures c.in-Ok-try_get_matches_from.ensures.matches) c.in-Some.ensures.check line

pub returns-in-Ok-try_get_matches_from-clause-serial : goal.returns-in-Ok-try_get_matches_from-clause-serial
returns-in-Ok-try_get_matches_from-clause-serial g c line =
    let words = map g.W.AsStr.text c.args.words.now in
    let m = c.in-Ok-try_get_matches_from.matches in
    let same = rows_are _ words m c.in-Ok.ensures c.in-Ok-try_get_matches_from.ensures.matches in
    let got = c.in-None.ensures.serial (name_is (codes "serial") m words same line.1) in
    absurd (cc)

pub returns-in-Ok-try_get_matches_from-clause-check : goal.returns-in-Ok-try_get_matches_from-clause-check
returns-in-Ok-try_get_matches_from-clause-check g c line =
    let words = map g.W.AsStr.text c.args.words.now in
    let m = c.in-Ok-try_get_matches_from.matches in
    let same = rows_are _ words m c.in-Ok.ensures c.in-Ok-try_get_matches_from.ensures.matches in
    let got = c.in-None.ensures.check (name_is (codes "check") m words same line.1) in
    absurd (cc)

pub returns-in-Ok-try_get_matches_from-clause-help : goal.returns-in-Ok-try_get_matches_from-clause-help
returns-in-Ok-try_get_matches_from-clause-help g c help =
    absurd (not_empty _ _ (sym help ∙ no_fault _ _ c.in-Ok.ensures c.in-Ok-try_get_matches_from.ensures.kinds))

pub returns-in-DisplayHelp-clause-sim : goal.returns-in-DisplayHelp-clause-sim
returns-in-DisplayHelp-clause-sim g c line =
    let has = c.in-Err.ensures.kinds (ap is_simple_and_free c.in-Ok.ensures ∙ is_free_line) in
    help_among [] c.in-Err.e _ c.kind.ensures c.in-DisplayHelp.is (kinds_at _ _ _ c.in-Err.e c.in-Ok.ensures has line.0.0)

pub returns-in-DisplayHelp-clause-bad : goal.returns-in-DisplayHelp-clause-bad
returns-in-DisplayHelp-clause-bad g c bad =
    let has = c.in-Err.ensures.kinds (ap is_simple_and_free c.in-Ok.ensures ∙ is_free_line) in
    bad.1 (help_among _ c.in-Err.e _ c.kind.ensures c.in-DisplayHelp.is (kinds_at _ _ _ c.in-Err.e c.in-Ok.ensures has refl))

pub returns-in-Some-clause-help : goal.returns-in-Some-clause-help
returns-in-Some-clause-help g c help =
    absurd (not_empty _ _ (sym help ∙ no_fault _ _ c.in-Ok.ensures c.in-Ok-try_get_matches_from.ensures.kinds))

pub returns-in-Some-clause-bad : goal.returns-in-Some-clause-bad
returns-in-Some-clause-bad g c bad =
    let words = map g.W.AsStr.text c.args.words.now in
    let m = c.in-Ok-try_get_matches_from.matches in
    let same = rows_are _ words m c.in-Ok.ensures c.in-Ok-try_get_matches_from.ensures.matches in
    bad.0 (is_taken_for words m c.in-Some.wish same (no_fault _ words c.in-Ok.ensures c.in-Ok-try_get_matches_from.ensures.kinds)
    c.in-Some.ensures.only c.in-Some.ensures.asked)

pub returns-in-Some-clause-sim : goal.returns-in-Some-clause-sim
returns-in-Some-clause-sim g c line =
    let words = map g.W.AsStr.text c.args.words.now in
    let same = rows_are _ words c.in-Ok-try_get_matches_from.matches c.in-Ok.ensures c.in-Ok-try_get_matches_from.ensures.matches in
    is_sim words c.in-Some.wish (sim_wish words c.in-Ok-try_get_matches_from.matches _ same c.in-Some.ensures.sim line)

pub returns-in-Ok-try_get_matches_from-clause-sim : goal.returns-in-Ok-try_get_matches_from-clause-sim
returns-in-Ok-try_get_matches_from-clause-sim g c line =
    let words = map g.W.AsStr.text c.args.words.now in
    let same = rows_are _ words c.in-Ok-try_get_matches_from.matches c.in-Ok.ensures c.in-Ok-try_get_matches_from.ensures.matches in
    let got = sim_wish words c.in-Ok-try_get_matches_from.matches _ same c.in-None.ensures.sim line in
    absurd (cc)

pub returns-in-Some-clause-run : goal.returns-in-Some-clause-run
returns-in-Some-clause-run g c line =
    let words = map g.W.AsStr.text c.args.words.now in
    let same = rows_are _ words c.in-Ok-try_get_matches_from.matches c.in-Ok.ensures c.in-Ok-try_get_matches_from.ensures.matches in
    is_run words c.in-Some.wish (run_wish words c.in-Ok-try_get_matches_from.matches _ same c.in-Some.ensures.run line)

pub returns-in-Ok-try_get_matches_from-clause-run : goal.returns-in-Ok-try_get_matches_from-clause-run
returns-in-Ok-try_get_matches_from-clause-run g c line =
    let words = map g.W.AsStr.text c.args.words.now in
    let same = rows_are _ words c.in-Ok-try_get_matches_from.matches c.in-Ok.ensures c.in-Ok-try_get_matches_from.ensures.matches in
    let got = run_wish words c.in-Ok-try_get_matches_from.matches _ same c.in-None.ensures.run line in
    absurd (cc)
