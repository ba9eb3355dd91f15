use Rattle.std.proofs.Common.{ℕ, ◌≡◌, ◌∷◌, List, refl, sym, ◌∙◌, ap}
use Rattle.calvin_serve_input.specs.Inputs.{coming}
use Rattle.calvin_serve.proofs.Steps.{ok_then, err_then, ends_here}
use Rattle.calvin_serve.proofs.Taking.{takes_none, takes_one, takes_so, ends_at, ends_so_far}
use Rattle.calvin_serve.proofs.engine.take_lines.Goals as goal

pub lines-init : goal.lines-init
lines-init g c =
    let m = g.A.App.meaning in
    let show = g.A.Reply.Printed.printed in
    let grammar = g.A.Args.Operation.grammar in
    record {
      takes = takes_none m show grammar c.args.input.now c.args.sitting (g.K.Sink.taken c.args.sink.now);
      most = λ i. c.args.input.now.most;
      log = refl;
      sink = refl;
    }

pub lines-preserved : goal.lines-preserved
lines-preserved g c =
    let m = g.A.App.meaning in
    let show = g.A.Reply.Printed.printed in
    let grammar = g.A.Args.Operation.grammar in
    let out_before = g.K.Sink.taken c.args.sink.now in
    let out_now = g.K.Sink.taken c.lines.sink in
    let handed = c.in-Ok-true.ensures.line c.in-Ok-true.field-0-test in
    let read : (left : List ℕ) → coming c.lines.input left ≡ c.deref.result.now ∷ coming c.next_line.new.self left = λ left. handed left ∙ ap (λ w. w ∷ coming c.next_line.new.self left) (sym c.deref.ensures.value) in
    record {
      takes =
          takes_one m show grammar c.args.input.now c.args.sitting out_before c.lines.input c.lines.sitting out_now c.lines.invariant.takes c.next_line.new.self c.deref.result.now read
          c.in-Ok.taken (g.K.Sink.taken c.take_line.new.sink) c.in-Ok.ensures.ok;
      most = c.in-Ok-true.ensures.most ∙ c.lines.invariant.most;
      log = c.in-Ok.ensures.no_failure.0 ∙ c.lines.invariant.log;
      sink = c.in-Ok.ensures.no_failure.1 ∙ c.lines.invariant.sink;
    }

pub returns-in-Err-take_line-clause-err : goal.returns-in-Err-take_line-clause-err
returns-in-Err-take_line-clause-err g c =
    let m = g.A.App.meaning in
    let show = g.A.Reply.Printed.printed in
    let grammar = g.A.Args.Operation.grammar in
    let out_before = g.K.Sink.taken c.args.sink.now in
    let out_now = g.K.Sink.taken c.lines.sink in
    let handed = c.in-Ok-true.ensures.line c.in-Ok-true.field-0-test in
    let read : (left : List ℕ) → coming c.lines.input left ≡ c.deref.result.now ∷ coming c.next_line.new.self left = λ left. handed left ∙ ap (λ w. w ∷ coming c.next_line.new.self left) (sym c.deref.ensures.value) in
    ends_at m show grammar c.args.input.now c.args.sitting out_before c.lines.input c.lines.sitting out_now c.lines.invariant.takes c.next_line.new.self c.deref.result.now read
    (g.L.Log.told c.in-Err-take_line.stopped.log) (g.K.Sink.taken c.take_line.new.sink) c.in-Err-take_line.ensures.err

pub returns-in-Ok-false-clause-ok : goal.returns-in-Ok-false-clause-ok
returns-in-Ok-false-clause-ok g c =
    let m = g.A.App.meaning in
    let show = g.A.Reply.Printed.printed in
    let grammar = g.A.Args.Operation.grammar in
    let out_before = g.K.Sink.taken c.args.sink.now in
    let out_now = g.K.Sink.taken c.lines.sink in
    let same = (c.in-Ok-false.ensures.none c.in-Ok-false.field-0-test).1 in
    ok_then c.settle.result
    (λ s p. takes_so m show grammar c.args.input.now c.args.sitting out_before c.lines.input c.lines.sitting out_now c.lines.invariant.takes c.next_line.new.self same s (g.K.Sink.taken c.settle.new.sink) p)
    c.settle.ensures.ok

pub returns-in-Ok-false-clause-err : goal.returns-in-Ok-false-clause-err
returns-in-Ok-false-clause-err g c =
    let m = g.A.App.meaning in
    let show = g.A.Reply.Printed.printed in
    let grammar = g.A.Args.Operation.grammar in
    let out_before = g.K.Sink.taken c.args.sink.now in
    let out_now = g.K.Sink.taken c.lines.sink in
    err_then c.settle.result
    (λ s p. ends_so_far m show grammar c.args.input.now c.args.sitting out_before c.lines.input c.lines.sitting out_now c.lines.invariant.takes (g.L.Log.told s.log) (g.K.Sink.taken c.settle.new.sink) p)
    c.settle.ensures.err

pub returns-in-Err-clause-err : goal.returns-in-Err-clause-err
returns-in-Err-clause-err g c =
    let m = g.A.App.meaning in
    let show = g.A.Reply.Printed.printed in
    let grammar = g.A.Args.Operation.grammar in
    let out_before = g.K.Sink.taken c.args.sink.now in
    let out_now = g.K.Sink.taken c.lines.sink in
    let disk = g.L.Log.told c.stop.result.log in
    ends_so_far m show grammar c.args.input.now c.args.sitting out_before c.lines.input c.lines.sitting out_now c.lines.invariant.takes disk out_now
    (λ old out lines f. ends_here m show grammar old out lines c.lines.sitting out_now f disk c.stop.ensures.left)
