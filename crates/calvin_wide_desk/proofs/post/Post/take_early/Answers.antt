-- An entry and a packet fit in memory.
use denote.Memory.{lone}
use Rattle.calvin_node_packets.proofs.PacketSizes.{packet_of}
use Rattle.calvin_histories.proofs.EntrySizes.{an_entry}
use Rattle.calvin_wide_desk.proofs.post.Post.take_early.Goals as goal

pub next_early-requires-after_bounds : goal.next_early-requires-after_bounds
next_early-requires-after_bounds g c κs within = an_entry (lone g.row.A-Args.mir) (lone g.row.A-Row.mir) (lone g.row.A-Reply.mir) g.met.A.App.work_fits

pub receive-taken-requires-after_bounds : goal.receive-taken-requires-after_bounds
receive-taken-requires-after_bounds g c κs within = packet_of (lone g.row.A-Args.mir) (lone g.row.A-Row.mir) (lone g.row.A-Reply.mir) g.met.A.App.work_fits
