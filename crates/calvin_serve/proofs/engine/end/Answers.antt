use Rattle.std.proofs.Common.{sym, subst}
use Rattle.calvin_serve_desk.specs.Desks.{Standing}
use Rattle.calvin_serve.specs.Serving.{Serves}
use Rattle.calvin_serve.proofs.Settling.{serves_all}
use Rattle.calvin_serve.proofs.engine.end.Goals as goal

pub returns-in-Ok-clause-ok : goal.returns-in-Ok-clause-ok
returns-in-Ok-clause-ok g c = λ old out lines f.
    let m = g.A.App.meaning in
    let show = g.A.Reply.Printed.printed in
    let grammar = g.A.Args.Operation.grammar in
    let out_now = g.K.Sink.taken c.settle.new.sink in
    subst (λ (d : Standing g.row.A-Row.Denot). Serves m show grammar old out lines d out_now) (sym c.into_desk.ensures)
    (serves_all m show grammar old out lines c.in-Ok.settled out_now c.in-Ok.ensures.rests (c.in-Ok.ensures.ok old out lines f))
