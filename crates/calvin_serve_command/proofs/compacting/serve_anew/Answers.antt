use Rattle.std.proofs.Common.{◌∙◌, ◌+◌, ap, refl, inl, inr, ⊎_elim}
use Rattle.calvin_serve_command.specs.declared.order.Task.TheVariants.{Compact}
use Rattle.calvin_serve_command.proofs.Anew.{opens_anew, compacted_of, stays, well_so, ill_so, log_failed}
use Rattle.calvin_serve_command.proofs.Sessions.{midway, refused_then, served, untold, well_then}
use Rattle.calvin_serve_command.proofs.compacting.serve_anew.Goals as goal

pub returns-in-Ok-serve-clause-ok : goal.returns-in-Ok-serve-clause-ok
returns-in-Ok-serve-clause-ok g c =
    let opens = opens_anew g.A.App.meaning g.A.Reply.Printed.printed g.A.Row.StoredRow.form g.A.Args.Operation.grammar c.args.setting c.args.heading.now (g.L.Log.told c.args.log) c.in-Ok.desk c.in-Ok-write_anew.anew
    c.in-Ok.ensures.ok c.in-Ok-write_anew.ensures.ok in
    let t = c.in-Ok-serve.ensures.ok in
    well_then c.finish.result
    (served g.A.App.meaning g.A.Reply.Printed.printed g.A.Row.StoredRow.form g.A.Args.Operation.grammar c.args.setting c.args.heading.now Compact (g.L.Log.told c.args.log) (g.S.Source.left c.args.source.now)
    (g.K.Sink.taken c.args.sink.now) c.in-Ok-write_anew.anew opens c.in-Ok-serve.desk _ t.0 t.1 t.2 _)
    c.finish.ensures.ok

pub returns-in-Ok-serve-clause-stopped : goal.returns-in-Ok-serve-clause-stopped
returns-in-Ok-serve-clause-stopped g c =
    let opens = opens_anew g.A.App.meaning g.A.Reply.Printed.printed g.A.Row.StoredRow.form g.A.Args.Operation.grammar c.args.setting c.args.heading.now (g.L.Log.told c.args.log) c.in-Ok.desk c.in-Ok-write_anew.anew
    c.in-Ok.ensures.ok c.in-Ok-write_anew.ensures.ok in
    let t = c.in-Ok-serve.ensures.ok in
    refused_then c.finish.result
    (λ r part left. untold g.A.App.meaning g.A.Reply.Printed.printed g.A.Row.StoredRow.form g.A.Args.Operation.grammar c.args.setting c.args.heading.now Compact (g.L.Log.told c.args.log) (g.S.Source.left c.args.source.now)
    (g.K.Sink.taken c.args.sink.now) c.in-Ok-write_anew.anew opens c.in-Ok-serve.desk _ t.0 t.1 t.2 (g.L.Log.told r.log) _ part.0 part.1 left)
    c.finish.ensures.err c.finish.ensures.left

pub returns-in-Err-serve-clause-stopped : goal.returns-in-Err-serve-clause-stopped
returns-in-Err-serve-clause-stopped g c =
    let opens = opens_anew g.A.App.meaning g.A.Reply.Printed.printed g.A.Row.StoredRow.form g.A.Args.Operation.grammar c.args.setting c.args.heading.now (g.L.Log.told c.args.log) c.in-Ok.desk c.in-Ok-write_anew.anew
    c.in-Ok.ensures.ok c.in-Ok-write_anew.ensures.ok in
    let t = c.in-Err-serve.ensures.stopped in
    midway g.A.App.meaning g.A.Reply.Printed.printed g.A.Row.StoredRow.form g.A.Args.Operation.grammar c.args.setting c.args.heading.now Compact (g.L.Log.told c.args.log) (g.S.Source.left c.args.source.now)
    (g.K.Sink.taken c.args.sink.now) c.in-Ok-write_anew.anew opens (g.L.Log.told c.in-Err-serve.refused.log) _ t.0 t.1 t.2

pub returns-in-Err-write_anew-clause-stopped : goal.returns-in-Err-write_anew-clause-stopped
returns-in-Err-write_anew-clause-stopped g c =
    stays g.A.App.meaning g.A.Reply.Printed.printed g.A.Row.StoredRow.form g.A.Args.Operation.grammar c.args.setting c.args.heading.now (g.L.Log.told c.args.log) (g.L.Log.told c.in-Err-write_anew.refused.log)
    (g.S.Source.left c.args.source.now) (g.K.Sink.taken c.args.sink.now) (g.K.Sink.taken c.args.sink.now) c.in-Ok.desk (g.met.L.Log.in_order c.args.log) c.in-Ok.ensures.ok c.in-Err-write_anew.ensures.left refl

pub returns-in-Ok-serve-clause-replaced : goal.returns-in-Ok-serve-clause-replaced
returns-in-Ok-serve-clause-replaced g c =
    well_so c.finish.result (compacted_of g.A.App.meaning g.A.Reply.Printed.printed g.A.Row.StoredRow.form g.A.Args.Operation.grammar c.args.setting c.args.heading.now (g.L.Log.told c.args.log)
    (g.J.Journals.found c.write_anew.new.journals c.args.name.now) c.in-Ok.desk c.in-Ok.ensures.ok c.in-Ok-write_anew.ensures.replaced)

pub returns-in-Ok-serve-clause-whole : goal.returns-in-Ok-serve-clause-whole
returns-in-Ok-serve-clause-whole g c =
    ill_so c.finish.result (inr (compacted_of g.A.App.meaning g.A.Reply.Printed.printed g.A.Row.StoredRow.form g.A.Args.Operation.grammar c.args.setting c.args.heading.now (g.L.Log.told c.args.log)
    (g.J.Journals.found c.write_anew.new.journals c.args.name.now) c.in-Ok.desk c.in-Ok.ensures.ok c.in-Ok-write_anew.ensures.replaced))

pub returns-in-Err-serve-clause-whole : goal.returns-in-Err-serve-clause-whole
returns-in-Err-serve-clause-whole g c =
    inr (compacted_of g.A.App.meaning g.A.Reply.Printed.printed g.A.Row.StoredRow.form g.A.Args.Operation.grammar c.args.setting c.args.heading.now (g.L.Log.told c.args.log)
    (g.J.Journals.found c.write_anew.new.journals c.args.name.now) c.in-Ok.desk c.in-Ok.ensures.ok c.in-Ok-write_anew.ensures.replaced)

pub returns-in-Err-serve-clause-failed : goal.returns-in-Err-serve-clause-failed
returns-in-Err-serve-clause-failed g c is =
    let begun = c.in-Ok-write_anew.ensures.counted in
    inr (begun.0, c.in-Err-serve.refused.log, log_failed c.in-Err-serve.refused.fault _ _ _ _ c.in-Err-serve.ensures.blame is ∙ ap (λ n. n + 1) begun.1)

pub returns-in-Err-write_anew-clause-whole : goal.returns-in-Err-write_anew-clause-whole
returns-in-Err-write_anew-clause-whole g c =
    ⊎_elim (λ stays. inl (stays, refl))
    (λ whole. inr (compacted_of g.A.App.meaning g.A.Reply.Printed.printed g.A.Row.StoredRow.form g.A.Args.Operation.grammar c.args.setting c.args.heading.now (g.L.Log.told c.args.log)
    (g.J.Journals.found c.write_anew.new.journals c.args.name.now) c.in-Ok.desk c.in-Ok.ensures.ok whole))
    c.in-Err-write_anew.ensures.whole
