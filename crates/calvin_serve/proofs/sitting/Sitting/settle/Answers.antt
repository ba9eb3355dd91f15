use Rattle.std.proofs.Common.{◌≡◌, length, true, rules, refl, sym, ◌∙◌, ap, subst}
use Rattle.calvin_script.specs.Scripts.{all_listed}
use Rattle.calvin_serve_lines.specs.Epochs.{epoch_in}
use Rattle.calvin_serve.specs.Serving.{Sitting, Follows}
use Rattle.calvin_serve.proofs.Steps.{err_then, ends_here}
use Rattle.calvin_serve.proofs.Settling.{ok_both, settled_so, ends_so}
use Rattle.calvin_serve.proofs.sitting.Sitting.settle.Goals as goal

pub returns-in-Ok-clause-ok : goal.returns-in-Ok-clause-ok
returns-in-Ok-clause-ok g c =
    let m = g.A.App.meaning in
    let show = g.A.Reply.Printed.printed in
    let grammar = g.A.Args.Operation.grammar in
    let inside = c.self.inside in
    let now : Sitting g.row.A-Args.Denot g.row.A-Row.Denot = record { desk = inside.desk; waiting = inside.waiting; count = inside.count; waits = inside.waits } in
    let out_now = g.K.Sink.taken c.args.sink.now in
    let out_new = g.K.Sink.taken c.settle_as.new.sink in
    let waits : inside.waits ≡ true = search rules in
    let reads = ap (epoch_in grammar (length inside.waiting)) c.deref.ensures.value ∙ c.in-Ok.ensures.reads in
    ok_both c.settle_as.result
    (λ s p q old out lines f.
    settled_so m show grammar now out_now c.deref.result.now (all_listed c.in-Ok.epoch) reads c.in-Ok.ensures.epoch waits old out lines
    (subst (λ (x : Sitting g.row.A-Args.Denot g.row.A-Row.Denot). Follows m show grammar old out lines x out_now) (sym c.self.view_is) f) s.desk p.0 p.1 s refl q out_new p.2)
    c.settle_as.ensures.ok c.settle_as.ensures.rests

pub returns-in-Ok-clause-err : goal.returns-in-Ok-clause-err
returns-in-Ok-clause-err g c =
    let m = g.A.App.meaning in
    let show = g.A.Reply.Printed.printed in
    let grammar = g.A.Args.Operation.grammar in
    let inside = c.self.inside in
    let now : Sitting g.row.A-Args.Denot g.row.A-Row.Denot = record { desk = inside.desk; waiting = inside.waiting; count = inside.count; waits = inside.waits } in
    let out_now = g.K.Sink.taken c.args.sink.now in
    let out_new = g.K.Sink.taken c.settle_as.new.sink in
    let waits : inside.waits ≡ true = search rules in
    let reads = ap (epoch_in grammar (length inside.waiting)) c.deref.ensures.value ∙ c.in-Ok.ensures.reads in
    err_then c.settle_as.result
    (λ s either old out lines f.
    ends_so m show grammar now out_now c.deref.result.now (all_listed c.in-Ok.epoch) reads c.in-Ok.ensures.epoch waits old out lines
    (subst (λ (x : Sitting g.row.A-Args.Denot g.row.A-Row.Denot). Follows m show grammar old out lines x out_now) (sym c.self.view_is) f) out_new (g.L.Log.told s.log) either)
    c.settle_as.ensures.err

pub returns-in-Err-clause-err : goal.returns-in-Err-clause-err
returns-in-Err-clause-err g c = λ old out lines f.
    let m = g.A.App.meaning in
    let show = g.A.Reply.Printed.printed in
    let grammar = g.A.Args.Operation.grammar in
    let inside = c.self.inside in
    let now : Sitting g.row.A-Args.Denot g.row.A-Row.Denot = record { desk = inside.desk; waiting = inside.waiting; count = inside.count; waits = inside.waits } in
    let out_now = g.K.Sink.taken c.args.sink.now in
    ends_here m show grammar old out lines now out_now (subst (λ (x : Sitting g.row.A-Args.Denot g.row.A-Row.Denot). Follows m show grammar old out lines x out_now) (sym c.self.view_is) f)
    (g.L.Log.told c.into_log.result) c.into_log.ensures.any_moment
