use Rattle.std.specs.Io.KnownBytes.{Keeps}
use Rattle.calvin_edge.proofs.streams.read_uninterrupted.Given as goal

-- the tries so far moved no byte
abbrev pub invariant-loop : goal.invariant-loop
invariant-loop g l = Keeps (g.R.Read.remaining l.initial.reader) (g.R.Read.remaining l.reader)
