use Rattle.calvin_serve_command.specs.declared.order.Task.TheVariants.{Serve}
use Rattle.calvin_serve_command.proofs.Sessions.{midway, refused_then, served, untold, well_then}
use Rattle.calvin_serve_command.proofs.serving.serve_journal.Goals as goal

pub returns-in-Ok-serve-clause-ok : goal.returns-in-Ok-serve-clause-ok
returns-in-Ok-serve-clause-ok g c =
    let t = c.in-Ok-serve.ensures.ok in
    well_then c.finish.result
    (served g.A.App.meaning g.A.Reply.Printed.printed g.A.Row.StoredRow.form g.A.Args.Operation.grammar c.args.setting c.args.heading.now Serve (g.L.Log.told c.args.log) (g.S.Source.left c.args.source.now)
    (g.K.Sink.taken c.args.sink.now) c.in-Ok.desk c.in-Ok.ensures.ok c.in-Ok-serve.desk _ t.0 t.1 t.2 _)
    c.finish.ensures.ok

pub returns-in-Ok-serve-clause-stopped : goal.returns-in-Ok-serve-clause-stopped
returns-in-Ok-serve-clause-stopped g c =
    let t = c.in-Ok-serve.ensures.ok in
    refused_then c.finish.result
    (λ r part left. untold g.A.App.meaning g.A.Reply.Printed.printed g.A.Row.StoredRow.form g.A.Args.Operation.grammar c.args.setting c.args.heading.now Serve (g.L.Log.told c.args.log) (g.S.Source.left c.args.source.now)
    (g.K.Sink.taken c.args.sink.now) c.in-Ok.desk c.in-Ok.ensures.ok c.in-Ok-serve.desk _ t.0 t.1 t.2 (g.L.Log.told r.log) _ part.0 part.1 left)
    c.finish.ensures.err c.finish.ensures.left

pub returns-in-Err-serve-clause-stopped : goal.returns-in-Err-serve-clause-stopped
returns-in-Err-serve-clause-stopped g c =
    let t = c.in-Err-serve.ensures.stopped in
    midway g.A.App.meaning g.A.Reply.Printed.printed g.A.Row.StoredRow.form g.A.Args.Operation.grammar c.args.setting c.args.heading.now Serve (g.L.Log.told c.args.log) (g.S.Source.left c.args.source.now)
    (g.K.Sink.taken c.args.sink.now) c.in-Ok.desk c.in-Ok.ensures.ok (g.L.Log.told c.in-Err-serve.refused.log) _ t.0 t.1 t.2
