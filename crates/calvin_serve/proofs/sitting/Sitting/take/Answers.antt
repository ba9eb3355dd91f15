use Rattle.std.proofs.Common.{[], ◌∷◌, Ok, ◌∙◌, ap}
use Rattle.calvin_serve_lines.specs.Gathered.{has_room}
use Rattle.calvin_serve.proofs.Requests.{room_for}
use Rattle.calvin_serve.proofs.Steps.{ok_then, err_then, ends_here, ends_more}
use Rattle.calvin_serve.proofs.sitting.Sitting.take.Goals as goal

pub returns-then-has_room-clause-ok : goal.returns-then-has_room-clause-ok
returns-then-has_room-clause-ok g c = ok_then c.add.result (λ s p old out lines f. p old out (g.K.Sink.taken c.args.sink.now) lines f) c.add.ensures.ok

pub returns-then-has_room-clause-err : goal.returns-then-has_room-clause-err
returns-then-has_room-clause-err g c =
    let m = g.A.App.meaning in
    let show = g.A.Reply.Printed.printed in
    let grammar = g.A.Args.Operation.grammar in
    let out_now = g.K.Sink.taken c.args.sink.now in
    err_then c.add.result
    (λ s left old out lines f. ends_more m show grammar old out lines (g.L.Log.told s.log) out_now (Ok c.args.asked ∷ []) (ends_here m show grammar old out lines c.args.self out_now f (g.L.Log.told s.log) left))
    c.add.ensures.err

pub returns-in-Ok-clause-ok : goal.returns-in-Ok-clause-ok
returns-in-Ok-clause-ok g c = ok_then c.add-in-Ok.result (λ s p old out lines f. p old out (g.K.Sink.taken c.settle.new.sink) lines (c.in-Ok.ensures.ok old out lines f)) c.add-in-Ok.ensures.ok

pub returns-in-Ok-clause-err : goal.returns-in-Ok-clause-err
returns-in-Ok-clause-err g c =
    let m = g.A.App.meaning in
    let show = g.A.Reply.Printed.printed in
    let grammar = g.A.Args.Operation.grammar in
    let out_now = g.K.Sink.taken c.settle.new.sink in
    err_then c.add-in-Ok.result
    (λ s left old out lines f.
    ends_more m show grammar old out lines (g.L.Log.told s.log) out_now (Ok c.args.asked ∷ []) (ends_here m show grammar old out lines c.in-Ok.settled out_now (c.in-Ok.ensures.ok old out lines f) (g.L.Log.told s.log) left))
    c.add-in-Ok.ensures.err

pub returns-in-Err-clause-err : goal.returns-in-Err-clause-err
returns-in-Err-clause-err g c = λ old out lines f.
    let m = g.A.App.meaning in
    let show = g.A.Reply.Printed.printed in
    let grammar = g.A.Args.Operation.grammar in
    ends_more m show grammar old out lines (g.L.Log.told c.in-Err.stopped.log) (g.K.Sink.taken c.settle.new.sink) (Ok c.args.asked ∷ []) (c.in-Err.ensures.err old out lines f)

pub add-requires-in-Ok-clause-room : goal.add-requires-in-Ok-clause-room
add-requires-in-Ok-clause-room g c =
    ap (λ w. has_room w c.args.asked.group) c.in-Ok.ensures.none ∙ room_for g.row.A-Args.Denot c.args.self.desk.setting.partitions c.args.asked.group c.requires.group
