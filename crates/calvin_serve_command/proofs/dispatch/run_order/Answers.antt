use Rattle.std.proofs.Common.{◌∙◌, ap, sym, subst}
use Rattle.calvin_script.specs.declared.reading.AppName.{AppName}
use Rattle.calvin_serve_command.specs.Headings.{heading}
use Rattle.calvin_serve_command.specs.Services.{DoesBy}
use Rattle.calvin_serve_command.specs.Compacting.{LeavesBy}
use Rattle.calvin_serve_command.proofs.Left.{leaves_kv, leaves_stock, leaves_once, does_stock, does_once, done_as_found}
use Rattle.calvin_serve_command.proofs.dispatch.run_order.Goals as goal

pub returns-in-Kv-clause-leaves : goal.returns-in-Kv-clause-leaves
returns-in-Kv-clause-leaves g c =
    let order = c.args.order.now in
    let made = c.deref-in-Kv.ensures.value ∙ c.in-Ok.ensures.text ∙ ap (λ (a : AppName). heading a order.setting) c.in-Kv.is in
    subst (λ (a : AppName). LeavesBy a order.setting order.task (g.J.Journals.found c.args.journals.now order.name.now) (g.J.Journals.found c.run_for.new.journals order.name.now)) (sym c.in-Kv.is)
    (leaves_kv order.setting order.task c.deref-in-Kv.result.now _ _ _ c.open.ensures.same made c.run_for.ensures.leaves)

pub returns-in-Stock-clause-ok : goal.returns-in-Stock-clause-ok
returns-in-Stock-clause-ok g c =
    let order = c.args.order.now in
    let made = c.deref-in-Stock.ensures.value ∙ c.in-Ok.ensures.text ∙ ap (λ (a : AppName). heading a order.setting) c.in-Stock.is in
    done_as_found c.run_for-in-Stock.result (g.L.Log.told c.in-Ok-open.log) _ (g.S.Source.left c.args.input.now) c.in-Ok-open.ensures.log
    (λ seen bytes did. subst (λ (a : AppName). DoesBy a order.setting order.task seen bytes (g.K.Sink.taken c.args.output.now) (g.K.Sink.taken c.run_for-in-Stock.new.output)) (sym c.in-Stock.is)
    (does_stock order.setting order.task c.deref-in-Stock.result.now _ _ seen bytes made did))
    c.run_for-in-Stock.ensures.ok

pub returns-in-Stock-clause-leaves : goal.returns-in-Stock-clause-leaves
returns-in-Stock-clause-leaves g c =
    let order = c.args.order.now in
    let made = c.deref-in-Stock.ensures.value ∙ c.in-Ok.ensures.text ∙ ap (λ (a : AppName). heading a order.setting) c.in-Stock.is in
    subst (λ (a : AppName). LeavesBy a order.setting order.task (g.J.Journals.found c.args.journals.now order.name.now) (g.J.Journals.found c.run_for-in-Stock.new.journals order.name.now)) (sym c.in-Stock.is)
    (leaves_stock order.setting order.task c.deref-in-Stock.result.now _ _ _ c.open.ensures.same made c.run_for-in-Stock.ensures.leaves)

pub returns-clause-ok : goal.returns-clause-ok
returns-clause-ok g c =
    let order = c.args.order.now in
    let made = c.deref-in-Once.ensures.value ∙ c.in-Ok.ensures.text ∙ ap (λ (a : AppName). heading a order.setting) c.in-Once.is in
    done_as_found c.run_for-in-Once.result (g.L.Log.told c.in-Ok-open.log) _ (g.S.Source.left c.args.input.now) c.in-Ok-open.ensures.log
    (λ seen bytes did. subst (λ (a : AppName). DoesBy a order.setting order.task seen bytes (g.K.Sink.taken c.args.output.now) (g.K.Sink.taken c.run_for-in-Once.new.output)) (sym c.in-Once.is)
    (does_once order.setting order.task c.deref-in-Once.result.now _ _ seen bytes made did))
    c.run_for-in-Once.ensures.ok

pub returns-clause-leaves : goal.returns-clause-leaves
returns-clause-leaves g c =
    let order = c.args.order.now in
    let made = c.deref-in-Once.ensures.value ∙ c.in-Ok.ensures.text ∙ ap (λ (a : AppName). heading a order.setting) c.in-Once.is in
    subst (λ (a : AppName). LeavesBy a order.setting order.task (g.J.Journals.found c.args.journals.now order.name.now) (g.J.Journals.found c.run_for-in-Once.new.journals order.name.now)) (sym c.in-Once.is)
    (leaves_once order.setting order.task c.deref-in-Once.result.now _ _ _ c.open.ensures.same made c.run_for-in-Once.ensures.leaves)
