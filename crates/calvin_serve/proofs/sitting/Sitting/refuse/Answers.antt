use Rattle.std.proofs.Common.{[], ◌∷◌, Err}
use Rattle.calvin_serve.proofs.Steps.{ok_then, err_then, ends_more}
use Rattle.calvin_serve.proofs.sitting.Sitting.refuse.Goals as goal

pub returns-in-Ok-clause-ok : goal.returns-in-Ok-clause-ok
returns-in-Ok-clause-ok g c = ok_then c.tell.result (λ s p old out lines f. p old out lines (c.in-Ok.ensures.ok old out lines f)) c.tell.ensures.ok

pub returns-in-Ok-clause-err : goal.returns-in-Ok-clause-err
returns-in-Ok-clause-err g c = err_then c.tell.result (λ s p old out lines f. p old out lines (c.in-Ok.ensures.ok old out lines f)) c.tell.ensures.err

pub returns-in-Err-clause-err : goal.returns-in-Err-clause-err
returns-in-Err-clause-err g c = λ old out lines f.
    let m = g.A.App.meaning in
    let show = g.A.Reply.Printed.printed in
    let grammar = g.A.Args.Operation.grammar in
    ends_more m show grammar old out lines (g.L.Log.told c.in-Err.stopped.log) (g.K.Sink.taken c.settle.new.sink) (Err c.args.fault ∷ []) (c.in-Err.ensures.err old out lines f)
