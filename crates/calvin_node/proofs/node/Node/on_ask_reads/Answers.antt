use denote.Memory.{lone}
use Rattle.calvin_node_packets.proofs.PacketSizes.{packet_of}
use Rattle.calvin_node.proofs.node.Node.on_ask_reads.Goals as goal

pub push-requires : goal.push-requires
push-requires g c = packet_of (lone g.row.A-Args.mir) (lone g.row.A-Row.mir) (lone g.row.A-Reply.mir) g.met.A.App.work_fits
