use Rattle.std.proofs.Common.{◌≡◌}
use Rattle.calvin_serve.proofs.Reading.{SoFar}
use Rattle.calvin_serve.proofs.engine.serve_input.Given as goal

-- what was read so far was dealt with, and no device failed
abbrev pub invariant-reads : goal.invariant-reads
invariant-reads g l = record {
  so_far : SoFar g.A.App.meaning g.A.Reply.Printed.printed g.A.Args.Operation.grammar l.fn.input (g.S.Source.left l.fn.source) l.fn.sitting (g.K.Sink.taken l.fn.sink) l.input (g.S.Source.left l.source) l.sitting (g.K.Sink.taken l.sink);
  log : l.sitting.desk.failures ≡ l.fn.sitting.desk.failures;
  source : g.S.Source.failures l.source ≡ g.S.Source.failures l.fn.source;
  sink : g.K.Sink.failures l.sink ≡ g.K.Sink.failures l.fn.sink;
}
