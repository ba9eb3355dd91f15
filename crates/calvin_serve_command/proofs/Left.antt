-- What stands under a journal's name, and what was done, by the name of the application.
use Rattle.std.proofs.Common.{ℕ, List, ◌≡◌, Option, Some, None, IfSome, OnOk, Result, Ok, Err, inl, subst}
use Rattle.calvin_app.specs.Kv.{kv}
use Rattle.calvin_stock.specs.Stock.{stock}
use Rattle.calvin_script.specs.KvOperations.{kv_grammar}
use Rattle.calvin_script.specs.StockOperations.{stock_grammar}
use Rattle.calvin_script.specs.OnceOperations.{once_grammar, once_stock}
use Rattle.calvin_text.specs.Texts.{kv_text, stock_text}
use Rattle.calvin_serve_rows.specs.KvForms.{kv_row}
use Rattle.calvin_serve_rows.specs.StockForms.{stock_row}
use Rattle.calvin_serve_rows.specs.OnceForms.{once_row}
use Rattle.calvin_serve_command.specs.Headings.{heading}
use Rattle.calvin_serve_command.specs.Services.{DoesFor, DoesBy}
use Rattle.calvin_journal_log.specs.Disks.{Disk}
use Rattle.calvin_serve_desk.specs.declared.setting.Setting.{Setting}
use Rattle.calvin_script.specs.declared.reading.AppName.{AppName}
use Rattle.calvin_script.specs.declared.reading.AppName.TheVariants.{Kv, Stock, Once}
use Rattle.calvin_serve_command.specs.declared.order.Task.{Task}
use Rattle.calvin_serve_command.specs.declared.order.Task.TheVariants.{Serve, Compact, Replay}
use Rattle.calvin_serve_command.specs.declared.order.Order.{Order}
use Rattle.calvin_serve_command.specs.Compacting.{LeavesFor, LeavesBy, Leaves}

leaves_by : (application : AppName) (setting : Setting) (task : Task) (found now : Option Disk) → now ≡ found → LeavesBy application setting task found now
leaves_by Kv setting Serve found now same = same
leaves_by Kv setting Compact found now same = inl same
leaves_by Kv setting Replay found now same = same
leaves_by Stock setting Serve found now same = same
leaves_by Stock setting Compact found now same = inl same
leaves_by Stock setting Replay found now same = same
leaves_by Once setting Serve found now same = same
leaves_by Once setting Compact found now same = inl same
leaves_by Once setting Replay found now same = same

pub leaves_still : (order : Order) (found now : Option Disk) → now ≡ found → Leaves order found now
leaves_still order found now same = leaves_by order.application order.setting order.task found now same

-- ---- by the name of the application: the heading is the one that was made, and the log the one that was found

module _ (setting : Setting) (task : Task) (h : List ℕ) where
  module _ (found mid now : Option Disk) (same : mid ≡ found) where
    pub leaves_kv : h ≡ heading Kv setting → LeavesFor kv kv_text kv_row kv_grammar setting h task mid now → LeavesBy Kv setting task found now
    leaves_kv made left = subst (λ w. LeavesFor kv kv_text kv_row kv_grammar setting w task found now) made (subst (λ w. LeavesFor kv kv_text kv_row kv_grammar setting h task w now) same left)

    pub leaves_stock : h ≡ heading Stock setting → LeavesFor stock stock_text stock_row stock_grammar setting h task mid now → LeavesBy Stock setting task found now
    leaves_stock made left = subst (λ w. LeavesFor stock stock_text stock_row stock_grammar setting w task found now) made (subst (λ w. LeavesFor stock stock_text stock_row stock_grammar setting h task w now) same left)

    pub leaves_once : h ≡ heading Once setting → LeavesFor once_stock stock_text once_row once_grammar setting h task mid now → LeavesBy Once setting task found now
    leaves_once made left = subst (λ w. LeavesFor once_stock stock_text once_row once_grammar setting w task found now) made (subst (λ w. LeavesFor once_stock stock_text once_row once_grammar setting h task w now) same left)

  module _ (out out_now : Option (List ℕ)) (seen bytes : List ℕ) where
    pub does_stock : h ≡ heading Stock setting → DoesFor stock stock_text stock_row stock_grammar setting h task seen bytes out out_now → DoesBy Stock setting task seen bytes out out_now
    does_stock made did = subst (λ w. DoesFor stock stock_text stock_row stock_grammar setting w task seen bytes out out_now) made did

    pub does_once : h ≡ heading Once setting → DoesFor once_stock stock_text once_row once_grammar setting h task seen bytes out out_now → DoesBy Once setting task seen bytes out out_now
    does_once made did = subst (λ w. DoesFor once_stock stock_text once_row once_grammar setting w task seen bytes out out_now) made did

-- what is done of the log that was opened is done of what was found
pub done_as_found : {A E : Type 0} (r : Result A E) (told found : Option Disk) (given : Option (List ℕ)) {P Q : List ℕ → List ℕ → Type 0} → told ≡ found → ((seen bytes : List ℕ) → P seen bytes → Q seen bytes)
    → OnOk r (IfSome told (λ disk. IfSome given (P disk.seen))) → OnOk r (IfSome found (λ disk. IfSome given (Q disk.seen)))
done_as_found {A} {E} r told found given {P} {Q} same f done = subst (λ (w : Option Disk). OnOk r (IfSome w (λ disk. IfSome given (Q disk.seen)))) same (on r done)
  where
    given_too : (seen : List ℕ) (g : Option (List ℕ)) → IfSome g (P seen) → IfSome g (Q seen)
    given_too seen None h = tt
    given_too seen (Some bytes) h = f seen bytes h

    told_too : (t : Option Disk) → IfSome t (λ disk. IfSome given (P disk.seen)) → IfSome t (λ disk. IfSome given (Q disk.seen))
    told_too None h = tt
    told_too (Some disk) h = given_too disk.seen given h

    on : (q : Result A E) → OnOk q (IfSome told (λ disk. IfSome given (P disk.seen))) → OnOk q (IfSome told (λ disk. IfSome given (Q disk.seen)))
    on (Ok a) h = told_too told h
    on (Err e) h = tt
