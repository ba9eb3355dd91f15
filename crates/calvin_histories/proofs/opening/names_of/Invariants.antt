-- The packets up to here have their names.
use Rattle.std.proofs.Common.{◌≡◌, ◌*◌, length, take}
use Rattle.calvin_histories.specs.Positions.{AreListed, senders_of}
use Rattle.calvin_histories.proofs.Naming.{AreNamedTo}
use Rattle.calvin_histories.proofs.opening.names_of.Given as goal

abbrev pub invariant-loop-number : goal.invariant-loop-number
invariant-loop-number g l = record {
  partitions : l.senders.partitions ≡ l.config.partitions;
  lists : length l.senders.lists.items ≡ l.config.replicas * l.config.partitions;
  listed : AreListed l.senders.partitions l.senders.lists.items (take l.number (senders_of l.packets.packets));
  long : length l.names.items ≡ l.number;
  named : AreNamedTo l.packets.packets l.names.items l.number;
}
