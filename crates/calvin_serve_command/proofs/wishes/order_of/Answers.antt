use Rattle.std.proofs.Common.{◌≡◌, ◌∙◌, ap, codes, sym, List, ℕ, Option, option_map}
use Rattle.std.specs.Prelude.{option_and_then}
use Rattle.std.specs.Borrow.{Bor}
use Rattle.clap.specs.Words.{found_of, rows_of, first_of}
use Rattle.clap.proofs.WalkLemmas.{first_value-rows}
use Rattle.calvin_serve_command.specs.Line.{application_named}
use Rattle.calvin_serve_command.proofs.Orders.{none_some}
use Rattle.calvin_serve_command.proofs.wishes.order_of.Goals as goal

abbrev text_of : Option (Bor (List ℕ)) → Option (List ℕ)
text_of given = option_map (λ (s : Bor (List ℕ)). s.now) given

pub returns-in_err-name-clause-some : goal.returns-in_err-name-clause-some
returns-in_err-name-clause-some c order asked =
    let first = c.get_str.ensures ∙ first_value-rows (found_of c.args.found.now) (codes "journal") in
    absurd (none_some _ (ap text_of (sym c.in_err-name.was) ∙ first ∙ asked.name))

pub returns-in_err-get_str-clause-some : goal.returns-in_err-get_str-clause-some
returns-in_err-get_str-clause-some c order asked =
    let first = c.get_str-2.ensures ∙ first_value-rows (found_of c.args.found.now) (codes "app") in
    absurd (none_some _ (ap (option_and_then application_named) (ap text_of (sym c.in_err-get_str.was) ∙ first) ∙ asked.application))

pub returns-in_err-application-clause-some : goal.returns-in_err-application-clause-some
returns-in_err-application-clause-some c order asked =
    let first = c.get_str-2.ensures ∙ first_value-rows (found_of c.args.found.now) (codes "app") in
    absurd (none_some _ (sym c.in_err-application.was ∙ c.application_named.ensures
    ∙ ap (option_and_then application_named) (ap text_of (sym c.in_ok-get_str.was) ∙ first) ∙ asked.application))

pub returns-clause-ok : goal.returns-clause-ok
returns-clause-ok c =
    let journal = c.get_str.ensures ∙ first_value-rows (found_of c.args.found.now) (codes "journal") in
    let app = c.get_str-2.ensures ∙ first_value-rows (found_of c.args.found.now) (codes "app") in
    record {
      name = sym journal ∙ ap text_of c.in_ok-name.was;
      application = ap (option_and_then application_named) (sym app ∙ ap text_of c.in_ok-get_str.was) ∙ sym c.application_named.ensures ∙ c.in_ok-application.was;
      partitions = c.in_ok-setting.ensures.ok.0;
      sets = c.in_ok-setting.ensures.ok.1;
      task = sym c.task_of.ensures ∙ c.in_ok-task.was;
    }

pub returns-in_err-task-clause-some : goal.returns-in_err-task-clause-some
returns-in_err-task-clause-some c order asked = absurd (none_some _ (sym c.in_err-task.was ∙ c.task_of.ensures ∙ asked.task))
