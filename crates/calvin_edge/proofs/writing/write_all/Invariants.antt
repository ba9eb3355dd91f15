use Rattle.std.proofs.Common.{length, ◌-◌, ◌≡◌, ◌≤◌, take}
use Rattle.std.specs.Io.KnownBytes.{Appends}
use Rattle.calvin_edge.proofs.writing.write_all.Given as goal

abbrev pub invariant-loop-out : goal.invariant-loop-out
invariant-loop-out g l =
    let sink = g.K.Sink in
    record {
      within : l.out ≤ length l.bytes;
      bytes : Appends (sink.taken l.fn.sink) (sink.taken l.sink) (take l.out l.bytes);
      no_failure : sink.failures l.sink ≡ sink.failures l.fn.sink;
    }

abbrev pub decreases-loop-out : goal.decreases-loop-out
decreases-loop-out g l = length l.bytes - l.out
