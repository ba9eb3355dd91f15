use Rattle.std.proofs.Common.{refl, ◌∙◌}
use Rattle.calvin_serve.proofs.Steps.{ok_then, err_then, ends_here}
use Rattle.calvin_serve.proofs.Reading.{so_far-none, so_far-lines, so_far-read, serves_whole, ends_whole, ends_now, ends_in_lines}
use Rattle.calvin_serve.proofs.engine.serve_input.Goals as goal

pub reads-init : goal.reads-init
reads-init g c = record {
  so_far = so_far-none g.A.App.meaning g.A.Reply.Printed.printed g.A.Args.Operation.grammar c.args.input (g.S.Source.left c.args.source.now) c.args.sitting (g.K.Sink.taken c.args.sink.now) (g.S.Source.left c.args.source.now) refl;
  log = refl;
  source = refl;
  sink = refl;
}

pub returns-in-Err-clause-err : goal.returns-in-Err-clause-err
returns-in-Err-clause-err g c =
    let m = g.A.App.meaning in
    let show = g.A.Reply.Printed.printed in
    let grammar = g.A.Args.Operation.grammar in
    ends_in_lines m show grammar c.args.input (g.S.Source.left c.args.source.now) c.args.sitting (g.K.Sink.taken c.args.sink.now) c.reads.input (g.S.Source.left c.reads.source) c.reads.sitting (g.K.Sink.taken c.reads.sink) c.reads.invariant.so_far
    (g.L.Log.told c.in-Err.stopped.log) (g.K.Sink.taken c.take_lines.new.sink) c.in-Err.ensures.err

pub reads-preserved : goal.reads-preserved
reads-preserved g c =
    let m = g.A.App.meaning in
    let show = g.A.Reply.Printed.printed in
    let grammar = g.A.Args.Operation.grammar in
    let told = g.S.Source.left c.args.source.now in
    let left = g.S.Source.left c.reads.source in
    let out_before = g.K.Sink.taken c.args.sink.now in
    let out_now = g.K.Sink.taken c.take_lines.new.sink in
    let s = so_far-lines m show grammar c.args.input told c.args.sitting out_before c.reads.input left c.reads.sitting (g.K.Sink.taken c.reads.sink) c.reads.invariant.so_far c.take_lines.new.input c.in-Ok.taken out_now c.in-Ok.ensures.ok in
    let read = c.in-Ok-true.ensures.ok in
    record {
      so_far =
          so_far-read m show grammar c.args.input told c.args.sitting out_before c.take_lines.new.input left c.in-Ok.taken out_now s c.read.new.self (g.S.Source.left c.read.new.source) c.in-Ok.ensures.rests.1 read.0 read.1 read.2;
      log = c.in-Ok.ensures.no_failure.0 ∙ c.reads.invariant.log;
      source = c.in-Ok-true.ensures.not_failed ∙ c.reads.invariant.source;
      sink = c.in-Ok.ensures.no_failure.1 ∙ c.reads.invariant.sink;
    }

pub returns-in-Ok-false-clause-ok : goal.returns-in-Ok-false-clause-ok
returns-in-Ok-false-clause-ok g c =
    let m = g.A.App.meaning in
    let show = g.A.Reply.Printed.printed in
    let grammar = g.A.Args.Operation.grammar in
    let told = g.S.Source.left c.args.source.now in
    let left = g.S.Source.left c.reads.source in
    let left_now = g.S.Source.left c.read.new.source in
    let out_before = g.K.Sink.taken c.args.sink.now in
    let out_now = g.K.Sink.taken c.take_lines.new.sink in
    let s = so_far-lines m show grammar c.args.input told c.args.sitting out_before c.reads.input left c.reads.sitting (g.K.Sink.taken c.reads.sink) c.reads.invariant.so_far c.take_lines.new.input c.in-Ok.taken out_now c.in-Ok.ensures.ok in
    let read = c.in-Ok-false.ensures.ok in
    let last = so_far-read m show grammar c.args.input told c.args.sitting out_before c.take_lines.new.input left c.in-Ok.taken out_now s c.read.new.self left_now c.in-Ok.ensures.rests.1 read.0 read.1 read.2 in
    let end = (c.in-Ok-false.ensures.end c.in-Ok-false.field-0-test).1 in
    ok_then c.finish.result
    (λ desk p. serves_whole m show grammar c.args.input told c.args.sitting out_before c.read.new.self left_now c.in-Ok.taken out_now last end desk (g.K.Sink.taken c.finish.new.sink) p)
    c.finish.ensures.ok

pub returns-in-Ok-false-clause-err : goal.returns-in-Ok-false-clause-err
returns-in-Ok-false-clause-err g c =
    let m = g.A.App.meaning in
    let show = g.A.Reply.Printed.printed in
    let grammar = g.A.Args.Operation.grammar in
    let told = g.S.Source.left c.args.source.now in
    let left = g.S.Source.left c.reads.source in
    let left_now = g.S.Source.left c.read.new.source in
    let out_before = g.K.Sink.taken c.args.sink.now in
    let out_now = g.K.Sink.taken c.take_lines.new.sink in
    let s = so_far-lines m show grammar c.args.input told c.args.sitting out_before c.reads.input left c.reads.sitting (g.K.Sink.taken c.reads.sink) c.reads.invariant.so_far c.take_lines.new.input c.in-Ok.taken out_now c.in-Ok.ensures.ok in
    let read = c.in-Ok-false.ensures.ok in
    let last = so_far-read m show grammar c.args.input told c.args.sitting out_before c.take_lines.new.input left c.in-Ok.taken out_now s c.read.new.self left_now c.in-Ok.ensures.rests.1 read.0 read.1 read.2 in
    let end = (c.in-Ok-false.ensures.end c.in-Ok-false.field-0-test).1 in
    err_then c.finish.result
    (λ stopped p. ends_whole m show grammar c.args.input told c.args.sitting out_before c.read.new.self left_now c.in-Ok.taken out_now last end (g.L.Log.told stopped.log) (g.K.Sink.taken c.finish.new.sink) p)
    c.finish.ensures.err

pub returns-in-Err-read-clause-err : goal.returns-in-Err-read-clause-err
returns-in-Err-read-clause-err g c =
    let m = g.A.App.meaning in
    let show = g.A.Reply.Printed.printed in
    let grammar = g.A.Args.Operation.grammar in
    let told = g.S.Source.left c.args.source.now in
    let left = g.S.Source.left c.reads.source in
    let out_before = g.K.Sink.taken c.args.sink.now in
    let out_now = g.K.Sink.taken c.take_lines.new.sink in
    let s = so_far-lines m show grammar c.args.input told c.args.sitting out_before c.reads.input left c.reads.sitting (g.K.Sink.taken c.reads.sink) c.reads.invariant.so_far c.take_lines.new.input c.in-Ok.taken out_now c.in-Ok.ensures.ok in
    let disk = g.L.Log.told c.stop.result.log in
    ends_now m show grammar c.args.input told c.args.sitting out_before c.take_lines.new.input left c.in-Ok.taken out_now s disk out_now
    (λ old out lines f. ends_here m show grammar old out lines c.in-Ok.taken out_now f disk c.stop.ensures.left)

pub returns-clause-err : goal.returns-clause-err
returns-clause-err g c =
    let m = g.A.App.meaning in
    let show = g.A.Reply.Printed.printed in
    let grammar = g.A.Args.Operation.grammar in
    let disk = g.L.Log.told c.stop-2.result.log in
    let out_now = g.K.Sink.taken c.reads.sink in
    ends_now m show grammar c.args.input (g.S.Source.left c.args.source.now) c.args.sitting (g.K.Sink.taken c.args.sink.now) c.reads.input (g.S.Source.left c.reads.source) c.reads.sitting out_now c.reads.invariant.so_far disk out_now
    (λ old out lines f. ends_here m show grammar old out lines c.reads.sitting out_now f disk c.stop-2.ensures.left)
