-- The packets up to here are listed.
use Rattle.std.proofs.Common.{◌≡◌, take}
use Rattle.calvin_histories.specs.Positions.{AreListed, senders_of}
use Rattle.calvin_histories.proofs.senders.Senders.note_all.Given as goal

abbrev pub invariant-loop-number : goal.invariant-loop-number
invariant-loop-number g l = record {
  partitions : l.self.partitions ≡ l.fn.self.partitions;
  listed : AreListed l.fn.self.partitions l.fn.self.lists.items (take l.fn.self.listed (senders_of l.packets.packets)) → AreListed l.self.partitions l.self.lists.items (take l.number (senders_of l.packets.packets));
}
