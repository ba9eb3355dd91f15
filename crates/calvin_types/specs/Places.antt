-- Places, slots, ballots and nodes: their orders (Thomson et al. 2012, section 3.1: an order by epochs, and in an epoch by
-- sequencers).
--     place_cmp, slot_cmp      by epoch, and then by number, or by group
--     ballot_cmp      by round, and then by replica ("Paxos Made Simple", section 2.2: proposal numbers are totally ordered)
--     node_cmp      by replica, and then by partition
--     IsBefore a b      the place a comes before the place b
use Rattle.std.specs.Prelude.{◌≡◌}
use Rattle.std.specs.declared.cmp.Ordering.{Ordering}
use Rattle.std.specs.declared.cmp.Ordering.TheVariants.{Less}
use Rattle.std.specs.Ordering.{nat_cmp, ordering_then}
use Rattle.calvin_types.specs.declared.place.Place.{Place}
use Rattle.calvin_types.specs.declared.place.Slot.{Slot}
use Rattle.calvin_types.specs.declared.place.Ballot.{Ballot}
use Rattle.calvin_types.specs.declared.place.NodeId.{NodeId}

-- by epoch, and then by number
abbrev pub place_cmp : Place → Place → Ordering
place_cmp a b = ordering_then (nat_cmp a.epoch b.epoch) (nat_cmp a.n b.n)

-- by epoch, and then by group
abbrev pub slot_cmp : Slot → Slot → Ordering
slot_cmp a b = ordering_then (nat_cmp a.epoch b.epoch) (nat_cmp a.group b.group)

abbrev pub ballot_cmp : Ballot → Ballot → Ordering
ballot_cmp a b = ordering_then (nat_cmp a.round b.round) (nat_cmp a.replica b.replica)

abbrev pub node_cmp : NodeId → NodeId → Ordering
node_cmp a b = ordering_then (nat_cmp a.replica b.replica) (nat_cmp a.partition b.partition)

abbrev pub IsBefore : Place → Place → Type 0
IsBefore a b = place_cmp a b ≡ Less
