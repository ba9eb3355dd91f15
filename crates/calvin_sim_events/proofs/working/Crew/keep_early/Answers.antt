-- What a packet says fits in memory.
use denote.Memory.{lone}
use Rattle.calvin_node_packets.proofs.PacketSizes.{sent_of}
use Rattle.calvin_sim_events.proofs.working.Crew.keep_early.Goals as goal

pub sent-requires : goal.sent-requires
sent-requires g c = sent_of (lone g.row.A-Args.mir) (lone g.row.A-Row.mir) (lone g.row.A-Reply.mir) g.met.A.App.work_fits
