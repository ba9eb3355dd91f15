use denote.Memory.{lone}
use Rattle.calvin_node_packets.proofs.PacketSizes.{content_of}
use Rattle.calvin_node_packets.proofs.outbox.Outbox.tell_decided.Goals as goal

pub post_to_each-requires : goal.post_to_each-requires
post_to_each-requires g c = content_of (lone g.row.A-Args.mir) (lone g.row.A-Row.mir) (lone g.row.A-Reply.mir) g.met.A.App.work_fits
