-- A packet fits in memory.
use denote.Memory.{lone}
use Rattle.calvin_node_packets.proofs.PacketSizes.{packet_of}
use Rattle.calvin_wide.proofs.courier.deliver.Goals as goal

pub packet-requires-after_bounds : goal.packet-requires-after_bounds
packet-requires-after_bounds g c κs within = packet_of (lone g.row.A-Args.mir) (lone g.row.A-Row.mir) (lone g.row.A-Reply.mir) g.met.A.App.work_fits

pub deliver-requires-after_bounds : goal.deliver-requires-after_bounds
deliver-requires-after_bounds g c κs within = packet_of (lone g.row.A-Args.mir) (lone g.row.A-Row.mir) (lone g.row.A-Reply.mir) g.met.A.App.work_fits
