use Rattle.std.proofs.Common.{sym, subst}
use Rattle.calvin_serve.specs.Serving.{Sitting, Follows}
use Rattle.calvin_serve.proofs.Steps.{follow_add}
use Rattle.calvin_serve.proofs.sitting.Sitting.add.Goals as goal

pub returns-in-Ok-clause-ok : goal.returns-in-Ok-clause-ok
returns-in-Ok-clause-ok g c = λ old out out_now lines f.
    let m = g.A.App.meaning in
    let show = g.A.Reply.Printed.printed in
    let grammar = g.A.Args.Operation.grammar in
    let inside = c.self.inside in
    let now : Sitting g.row.A-Args.Denot g.row.A-Row.Denot = record { desk = inside.desk; waiting = inside.waiting; count = inside.count; waits = inside.waits } in
    follow_add m show grammar old out lines now out_now (subst (λ (x : Sitting g.row.A-Args.Denot g.row.A-Row.Denot). Follows m show grammar old out lines x out_now) (sym c.self.view_is) f)
    c.args.asked c.add.new.self c.in-Ok.ensures.ok
