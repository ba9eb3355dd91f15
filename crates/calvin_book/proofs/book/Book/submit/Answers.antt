-- What was so when it was made; or why it wasn't made.
use Rattle.std.proofs.Common.{rules, ◌≡◌, length, Err, sym, ap, ◌∙◌}
use Rattle.std.proofs.lemmas.Result.{err_from_is_err_and}
use Rattle.calvin_book.proofs.Keeping.{same_err}
use Rattle.calvin_book.proofs.Submitting.{submitted, not_taken}
use Rattle.calvin_book.proofs.book.Book.submit.Goals as goal

pub returns-clause-submitted : goal.returns-clause-submitted
returns-clause-submitted g c =
    let number : c.len-number.result ≡ length c.self.inside.events.items = search rules in
    submitted g.A.App.meaning c.args.self.now c.apply.new.self c.args.id c.args.txn c.args.told c.in_ok-check_told.ensures.ok c.in_ok-apply.ensures.ok c.len-number.result (number ∙ ap (λ l. length l.events) c.self.view_is)

pub returns-in_err-apply-clause-only : goal.returns-in_err-apply-clause-only
returns-in_err-apply-clause-only g c = λ fault is.
    let failed = err_from_is_err_and c.from_residual-in_err-apply.result c.from_residual-in_err-apply.ensures.1 in
    let same = same_err fault c.in_err-apply.field-0.0 (sym is ∙ failed.1 ∙ ap Err failed.2) in
    not_taken g.A.App.meaning c.args.self.now c.args.id c.args.txn c.args.told c.in_ok-check_told.ensures.ok fault (c.in_err-apply.ensures.only fault (ap Err (sym same)))
