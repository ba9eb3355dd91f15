use Rattle.std.proofs.Common.{[], ◌∷◌, ◌++◌, ◌≡◌, ◌<◌, Ok, rules, sym, ◌∙◌, ap, subst, Result}
use Rattle.calvin_types.specs.declared.fault.Fault.{Fault}
use Rattle.calvin_types.specs.declared.fault.Fault.TheVariants.{OutOfMemory}
use Rattle.calvin_serve_lines.specs.Asking.{Asked, IsRefusal, request_line}
use Rattle.calvin_serve_desk.specs.Desks.{Standing}
use Rattle.calvin_serve.specs.Serving.{Follows, Ends}
use Rattle.calvin_serve.proofs.Requests.{line_below, refused_as}
use Rattle.calvin_serve.proofs.Steps.{ok_then, err_then, ends_here, ends_more}
use Rattle.calvin_serve.proofs.sitting.Sitting.take_line.Goals as goal

pub returns-then-self-ge-MOST_EPOCHS-clause-err : goal.returns-then-self-ge-MOST_EPOCHS-clause-err
returns-then-self-ge-MOST_EPOCHS-clause-err g c = λ old out lines f.
    let m = g.A.App.meaning in
    let show = g.A.Reply.Printed.printed in
    let grammar = g.A.Args.Operation.grammar in
    let out_now = g.K.Sink.taken c.args.sink.now in
    let disk = g.L.Log.told c.stop.result.log in
    ends_more m show grammar old out lines disk out_now (request_line grammar old.setting.partitions c.args.line.now ∷ []) (ends_here m show grammar old out lines c.args.self out_now f disk c.stop.ensures.left)

pub returns-in-Ok-clause-ok : goal.returns-in-Ok-clause-ok
returns-in-Ok-clause-ok g c =
    let m = g.A.App.meaning in
    let show = g.A.Reply.Printed.printed in
    let grammar = g.A.Args.Operation.grammar in
    let out_new = g.K.Sink.taken c.take.new.sink in
    let read : request_line grammar c.args.self.desk.setting.partitions c.args.line.now ≡ Ok c.in-Ok.asked = search rules in
    ok_then c.take.result
    (λ s p old out lines f.
    subst (λ (item : Result (Asked g.row.A-Args.Denot) Fault). Follows m show grammar old out (lines ++ item ∷ []) s out_new)
    (sym (ap (λ (d : Standing g.row.A-Row.Denot). request_line grammar d.setting.partitions c.args.line.now) (sym f.stands) ∙ read)) (p old out lines f))
    c.take.ensures.ok

pub returns-in-Ok-clause-err : goal.returns-in-Ok-clause-err
returns-in-Ok-clause-err g c =
    let m = g.A.App.meaning in
    let show = g.A.Reply.Printed.printed in
    let grammar = g.A.Args.Operation.grammar in
    let out_new = g.K.Sink.taken c.take.new.sink in
    let read : request_line grammar c.args.self.desk.setting.partitions c.args.line.now ≡ Ok c.in-Ok.asked = search rules in
    err_then c.take.result
    (λ s p old out lines f.
    subst (λ (item : Result (Asked g.row.A-Args.Denot) Fault). Ends m show grammar old out (lines ++ item ∷ []) (g.L.Log.told s.log) out_new)
    (sym (ap (λ (d : Standing g.row.A-Row.Denot). request_line grammar d.setting.partitions c.args.line.now) (sym f.stands) ∙ read)) (p old out lines f))
    c.take.ensures.err

pub take-requires-clause-group : goal.take-requires-clause-group
take-requires-clause-group g c =
    let grammar = g.A.Args.Operation.grammar in
    let partitions = c.args.self.desk.setting.partitions in
    let read : request_line grammar partitions c.args.line.now ≡ Ok c.in-Ok.asked = search rules in
    let some : 0 < partitions = search rules in
    line_below grammar partitions some c.args.line.now c.in-Ok.asked read

pub returns-then-eq-clause-err : goal.returns-then-eq-clause-err
returns-then-eq-clause-err g c = λ old out lines f.
    let m = g.A.App.meaning in
    let show = g.A.Reply.Printed.printed in
    let grammar = g.A.Args.Operation.grammar in
    let out_now = g.K.Sink.taken c.args.sink.now in
    let disk = g.L.Log.told c.stop-then-eq.result.log in
    ends_more m show grammar old out lines disk out_now (request_line grammar old.setting.partitions c.args.line.now ∷ []) (ends_here m show grammar old out lines c.args.self out_now f disk c.stop-then-eq.ensures.left)

pub returns-else-eq-clause-ok : goal.returns-else-eq-clause-ok
returns-else-eq-clause-ok g c =
    let m = g.A.App.meaning in
    let show = g.A.Reply.Printed.printed in
    let grammar = g.A.Args.Operation.grammar in
    let out_new = g.K.Sink.taken c.refuse.new.sink in
    let line_read = request_line grammar c.args.self.desk.setting.partitions c.args.line.now in
    let other : c.in-Err.fault ≡ OutOfMemory → ⊥ = search rules in
    let refused : IsRefusal c.in-Err.fault line_read = search rules in
    let read = refused_as c.in-Err.fault line_read other refused in
    ok_then c.refuse.result
    (λ s p old out lines f.
    subst (λ (item : Result (Asked g.row.A-Args.Denot) Fault). Follows m show grammar old out (lines ++ item ∷ []) s out_new)
    (sym (ap (λ (d : Standing g.row.A-Row.Denot). request_line grammar d.setting.partitions c.args.line.now) (sym f.stands) ∙ read)) (p old out lines f))
    c.refuse.ensures.ok

pub returns-else-eq-clause-err : goal.returns-else-eq-clause-err
returns-else-eq-clause-err g c =
    let m = g.A.App.meaning in
    let show = g.A.Reply.Printed.printed in
    let grammar = g.A.Args.Operation.grammar in
    let out_new = g.K.Sink.taken c.refuse.new.sink in
    let line_read = request_line grammar c.args.self.desk.setting.partitions c.args.line.now in
    let other : c.in-Err.fault ≡ OutOfMemory → ⊥ = search rules in
    let refused : IsRefusal c.in-Err.fault line_read = search rules in
    let read = refused_as c.in-Err.fault line_read other refused in
    err_then c.refuse.result
    (λ s p old out lines f.
    subst (λ (item : Result (Asked g.row.A-Args.Denot) Fault). Ends m show grammar old out (lines ++ item ∷ []) (g.L.Log.told s.log) out_new)
    (sym (ap (λ (d : Standing g.row.A-Row.Denot). request_line grammar d.setting.partitions c.args.line.now) (sym f.stands) ∙ read)) (p old out lines f))
    c.refuse.ensures.err
