use Rattle.std.proofs.Common.{rules, ◌≡◌, ◌∷◌, ◌++◌, [], map, sym, ◌∙◌, ap, subst, append-nil}
use Rattle.calvin_serve_desk.specs.Desks.{Standing}
use Rattle.calvin_serve_input.specs.Inputs.{coming}
use Rattle.calvin_serve_lines.specs.Asking.{request_line}
use Rattle.calvin_serve.specs.Serving.{Serves, Ends}
use Rattle.calvin_serve.proofs.Steps.{ok_then, err_then}
use Rattle.calvin_serve.proofs.Settling.{serves_all}
use Rattle.calvin_serve.proofs.engine.finish.Goals as goal

pub returns-then-not-last_line-clause-ok : goal.returns-then-not-last_line-clause-ok
returns-then-not-last_line-clause-ok g c = λ old out lines f.
    let m = g.A.App.meaning in
    let show = g.A.Reply.Printed.printed in
    let grammar = g.A.Args.Operation.grammar in
    let out_now = g.K.Sink.taken c.args.sink.now in
    let none : coming c.args.input.now [] ≡ [] = search rules in
    let all : lines ≡ lines ++ map (request_line grammar old.setting.partitions) (coming c.args.input.now []) = sym (append-nil lines) ∙ ap (λ w. lines ++ map (request_line grammar old.setting.partitions) w) (sym none) in
    subst (λ ls. Serves m show grammar old out ls c.into_desk.result out_now) all
    (subst (λ (d : Standing g.row.A-Row.Denot). Serves m show grammar old out lines d out_now) (sym c.into_desk.ensures) (serves_all m show grammar old out lines c.args.sitting out_now c.requires.rests f))

pub returns-in-Ok-clause-ok : goal.returns-in-Ok-clause-ok
returns-in-Ok-clause-ok g c =
    let m = g.A.App.meaning in
    let show = g.A.Reply.Printed.printed in
    let grammar = g.A.Args.Operation.grammar in
    let out_now = g.K.Sink.taken c.end.new.sink in
    let line : coming c.args.input.now [] ≡ c.last_line.new.line.items ∷ [] = search rules in
    let read : c.deref.result.now ∷ [] ≡ coming c.args.input.now [] = ap (λ w. w ∷ []) c.deref.ensures.value ∙ sym line in
    ok_then c.end.result
    (λ desk p old out lines f.
    subst (λ ls. Serves m show grammar old out (lines ++ map (request_line grammar old.setting.partitions) ls) desk out_now) read
    (p old out (lines ++ request_line grammar old.setting.partitions c.deref.result.now ∷ []) (c.in-Ok.ensures.ok old out lines f)))
    c.end.ensures.ok

pub returns-in-Ok-clause-err : goal.returns-in-Ok-clause-err
returns-in-Ok-clause-err g c =
    let m = g.A.App.meaning in
    let show = g.A.Reply.Printed.printed in
    let grammar = g.A.Args.Operation.grammar in
    let out_now = g.K.Sink.taken c.end.new.sink in
    let line : coming c.args.input.now [] ≡ c.last_line.new.line.items ∷ [] = search rules in
    let read : c.deref.result.now ∷ [] ≡ coming c.args.input.now [] = ap (λ w. w ∷ []) c.deref.ensures.value ∙ sym line in
    err_then c.end.result
    (λ s p old out lines f.
    subst (λ ls. Ends m show grammar old out (lines ++ map (request_line grammar old.setting.partitions) ls) (g.L.Log.told s.log) out_now) read
    (p old out (lines ++ request_line grammar old.setting.partitions c.deref.result.now ∷ []) (c.in-Ok.ensures.ok old out lines f)))
    c.end.ensures.err

pub returns-in-Err-clause-err : goal.returns-in-Err-clause-err
returns-in-Err-clause-err g c = λ old out lines f.
    let m = g.A.App.meaning in
    let show = g.A.Reply.Printed.printed in
    let grammar = g.A.Args.Operation.grammar in
    let out_now = g.K.Sink.taken c.take_line.new.sink in
    let line : coming c.args.input.now [] ≡ c.last_line.new.line.items ∷ [] = search rules in
    let read : c.deref.result.now ∷ [] ≡ coming c.args.input.now [] = ap (λ w. w ∷ []) c.deref.ensures.value ∙ sym line in
    subst (λ ls. Ends m show grammar old out (lines ++ map (request_line grammar old.setting.partitions) ls) (g.L.Log.told c.in-Err.stopped.log) out_now) read (c.in-Err.ensures.err old out lines f)
