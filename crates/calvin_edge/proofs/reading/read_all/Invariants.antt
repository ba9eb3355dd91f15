use Rattle.std.proofs.Common.{◌-◌, ◌+◌, ◌≡◌, ◌≤◌, vec_len}
use Rattle.std.specs.Io.KnownBytes.{Consumes}
use Rattle.calvin_edge.specs.declared.reading.TheConstants.{MOST_BYTES}
use Rattle.calvin_edge.proofs.reading.read_all.Given as goal

abbrev pub invariant-text : goal.invariant-text
invariant-text g l =
    let source = g.S.Source in
    record {
      most : vec_len l.text ≤ MOST_BYTES + 1;
      bytes : Consumes (source.left l.fn.source) (source.left l.source) l.text.items;
      no_failure : source.failures l.source ≡ source.failures l.fn.source;
    }

abbrev pub decreases-text : goal.decreases-text
decreases-text g l = MOST_BYTES + 1 - vec_len l.text
