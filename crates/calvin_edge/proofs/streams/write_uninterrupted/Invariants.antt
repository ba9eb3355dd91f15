use Rattle.std.specs.Io.KnownBytes.{Keeps}
use Rattle.calvin_edge.proofs.streams.write_uninterrupted.Given as goal

-- the tries so far moved no byte
abbrev pub invariant-loop : goal.invariant-loop
invariant-loop g l = Keeps (g.W.Write.contents l.initial.writer) (g.W.Write.contents l.writer)
