use Rattle.std.proofs.Common.{◌≡◌, length}
use Rattle.calvin_serve.specs.Serving.{Takes}
use Rattle.calvin_serve.proofs.engine.take_lines.Given as goal

-- the lines so far were dealt with, and no device failed
abbrev pub invariant-lines : goal.invariant-lines
invariant-lines g l = record {
  takes : Takes g.A.App.meaning g.A.Reply.Printed.printed g.A.Args.Operation.grammar l.fn.input l.input l.fn.sitting (g.K.Sink.taken l.fn.sink) l.sitting (g.K.Sink.taken l.sink);
  most : l.input.most ≡ l.fn.input.most;
  log : l.sitting.desk.failures ≡ l.fn.sitting.desk.failures;
  sink : g.K.Sink.failures l.sink ≡ g.K.Sink.failures l.fn.sink;
}

abbrev pub decreases-lines : goal.decreases-lines
decreases-lines g l = length l.input.ahead
