use Rattle.std.proofs.Common.{◌≡◌, ℕ, Option, IfSome, subst}
use Rattle.calvin_serve_recovery.specs.Beginnings.{SaysOfStart}
use Rattle.calvin_serve_recovery.proofs.Beginnings.{starts_on, starts_on_none}
use Rattle.calvin_serve_recovery.proofs.starting.hand_out_start.Goals as goal

pub returns-in-Ok-clause-ok : goal.returns-in-Ok-clause-ok
returns-in-Ok-clause-ok g c =
    let old = c.args.opening.now.lines in
    let said = subst (λ (s : Option (ℕ × ℕ)). IfSome old (λ lines. SaysOfStart s lines.ahead)) c.in-Ok-Some.field-0-is c.in-Ok-Some.ensures.said in
    starts_on g.A.Row.StoredRow.form c.in-Ok-Some.epoch c.in-Ok-Some.count c.in-Ok.store old c.peek_start.new.opening.lines c.store_behind.new.opening.lines c.peek_start.ensures.stays said c.in-Ok.ensures.ok

pub returns-in-Err-store_behind-clause-no_start : goal.returns-in-Err-store_behind-clause-no_start
returns-in-Err-store_behind-clause-no_start g c = λ is.
    let old = c.args.opening.now.lines in
    let said = subst (λ (s : Option (ℕ × ℕ)). IfSome old (λ lines. SaysOfStart s lines.ahead)) c.in-Ok-Some.field-0-is c.in-Ok-Some.ensures.said in
    starts_on_none g.A.Row.StoredRow.form c.in-Ok-Some.epoch c.in-Ok-Some.count old c.peek_start.new.opening.lines c.peek_start.ensures.stays said (c.in-Err-store_behind.ensures.no_rows is)
