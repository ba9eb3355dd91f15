use Rattle.std.proofs.Common.{length}
use Rattle.calvin_script_tokens.proofs.Onward.{Onward}
use Rattle.calvin_script_tokens.proofs.object.read_object.Given as goal

abbrev pub invariant-members : goal.invariant-members
invariant-members g l = Onward g.T.Object.holds g.T.Object.deep l.initial.reader l.reader l.object

abbrev pub decreases-members : goal.decreases-members
decreases-members g l = length l.reader
