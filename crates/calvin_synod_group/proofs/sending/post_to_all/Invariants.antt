-- So far a packet is sent to each replica below the next.
use Rattle.std.proofs.Common.{◌≡◌, ◌++◌}
use Rattle.calvin_synod.specs.Cases as cases
use Rattle.calvin_synod_group.specs.Groups.{packets_of}
use Rattle.calvin_synod_group.proofs.sending.post_to_all.Given as goal

abbrev pub invariant-loop-to : goal.invariant-loop-to
invariant-loop-to g l = l.packets.items ≡ l.fn.packets.items ++ packets_of l.to l.from (cases.ToAll l.message)
