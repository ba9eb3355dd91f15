use Rattle.std.proofs.Common.{[], ◌∷◌, ◌++◌, ◌+◌, Err, false, take, sym, ◌∙◌, ap, subst}
use Rattle.std.specs.Io.KnownBytes.{Appends}
use Rattle.calvin_serve.specs.Turns.{refusal}
use Rattle.calvin_serve.specs.Serving.{Sitting, Follows}
use Rattle.calvin_serve.proofs.Steps.{ends_here, ends_more, ends_refused, follow_refuse}
use Rattle.calvin_serve.proofs.sitting.Sitting.tell.Goals as goal

pub returns-in_default-clause-err : goal.returns-in_default-clause-err
returns-in_default-clause-err g c = λ old out lines f.
    let m = g.A.App.meaning in
    let show = g.A.Reply.Printed.printed in
    let grammar = g.A.Args.Operation.grammar in
    let disk = g.L.Log.told c.stop.result.log in
    let out_now = g.K.Sink.taken c.args.sink.now in
    ends_more m show grammar old out lines disk out_now (Err c.args.fault ∷ []) (ends_here m show grammar old out lines c.args.self out_now f disk c.stop.ensures.left)

pub returns-in-Ok-write_all-clause-ok : goal.returns-in-Ok-write_all-clause-ok
returns-in-Ok-write_all-clause-ok g c = λ old out lines f.
    let m = g.A.App.meaning in
    let show = g.A.Reply.Printed.printed in
    let grammar = g.A.Args.Operation.grammar in
    let out_now = g.K.Sink.taken c.args.sink.now in
    let out_new = g.K.Sink.taken c.write_all.new.sink in
    let text = c.deref.ensures.value ∙ c.in-Ok.ensures ∙ ap (λ s. refusal (s.count + 1) c.args.fault) c.self.view_is in
    let printed = subst (Appends out_now out_new) text c.in-Ok-write_all.ensures.whole in
    subst (λ (now : Sitting g.row.A-Args.Denot g.row.A-Row.Denot). Follows m show grammar old out (lines ++ Err c.args.fault ∷ []) (record { desk = now.desk; waiting = now.waiting; count = now.count + 1; waits = false }) out_new)
    (sym c.self.view_is) (follow_refuse m show grammar old out lines c.args.self out_now f c.requires.rests c.args.fault out_new printed)

pub returns-clause-err : goal.returns-clause-err
returns-clause-err g c = λ old out lines f.
    let m = g.A.App.meaning in
    let show = g.A.Reply.Printed.printed in
    let grammar = g.A.Args.Operation.grammar in
    let out_now = g.K.Sink.taken c.args.sink.now in
    let out_new = g.K.Sink.taken c.write_all.new.sink in
    let disk = g.L.Log.told c.stop-in-Err.result.log in
    let n = c.in-Err.ensures.beginning.0 in
    let text = c.deref.ensures.value ∙ c.in-Ok.ensures ∙ ap (λ s. refusal (s.count + 1) c.args.fault) c.self.view_is in
    let printed = subst (λ w. Appends out_now out_new (take n w)) text c.in-Err.ensures.beginning.2 in
    ends_refused m show grammar old out lines c.args.self out_now f c.requires.rests c.args.fault out_new n printed disk c.stop-in-Err.ensures.left
