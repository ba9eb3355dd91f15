use Rattle.std.proofs.Common.{◌<◌, ◌∙◌, Some, ap, sym, subst}
use Rattle.std.proofs.lemmas.Result.{IfOk-weaker}
use Rattle.serde_json.specs.Data.{depth}
use Rattle.serde_json.specs.Read.{max_depth}
use Rattle.serde_json.specs.View.{view}
use Rattle.calvin_serve_rows.specs.OnceForms.{once_row}
use Rattle.calvin_serve_rows.proofs.Spells.{inner_read, kept_read, kept_depth}
use Rattle.calvin_serve_rows.proofs.once.OnceRowStockRowStockReplyStoredRow.to_json.Goals as goal

pub returns-in-Row-clause-spelled : goal.returns-in-Row-clause-spelled
returns-in-Row-clause-spelled c = IfOk-weaker c.to_json.result _ _ (λ v e. inner_read (view v) c.in-Row.row e ∙ ap Some (sym c.in-Row.is)) c.to_json.ensures.spelled

pub returns-in-Reply-clause-spelled : goal.returns-in-Reply-clause-spelled
returns-in-Reply-clause-spelled c = IfOk-weaker c.kept_reply_json.result _ _ (λ v e. ap once_row e ∙ kept_read c.in-Reply.reply c.kept_reply_json.ensures.small ∙ ap Some (sym c.in-Reply.is)) c.kept_reply_json.ensures.data

pub returns-in-Reply-clause-shallow : goal.returns-in-Reply-clause-shallow
returns-in-Reply-clause-shallow c = IfOk-weaker c.kept_reply_json.result _ _ (λ v e. subst (λ d. depth d < max_depth) (sym e) (kept_depth c.in-Reply.reply)) c.kept_reply_json.ensures.data
