use Rattle.std.proofs.Common.{arith}
use Rattle.calvin_view_list.proofs.Steps.{begin-before}
use Rattle.calvin_view_list.proofs.view_list.begin_of.Goals as goal

pub returns-in_default : goal.returns-in_default
returns-in_default c = begin-before c.args.ends.now c.args.number (omega arith) c.requires
