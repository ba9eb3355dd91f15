-- A list of events that assembles beginnings of histories, as it grows. The notions are of this project.
--     Took m old id entry new      one event more took effect, which is this entry of this node
--     IsBegun m log histories taken      the list assembles so many entries of each history
--     IsIndexed m log senders      the packets so far are listed by who sent them
--     IsStuckAt m log histories taken i      the next entry of a node doesn't fit
use Rattle.std.specs.Prelude.{◌≡◌, ℕ, ◌≤◌, List, length, take, Some, slice_get}
use Rattle.calvin_types.specs.declared.place.NodeId.{NodeId}
use Rattle.calvin_app.specs.Meaning.{Meaning}
use Rattle.calvin_world.specs.declared.event.Event.{Event}
use Rattle.calvin_world.specs.Worlds.{opening}
use Rattle.calvin_book.specs.Books.{Log, IsRun, world_after, Applied}
use Rattle.calvin_histories.specs.declared.entry.Entry.{Entry}
use Rattle.calvin_histories.specs.declared.senders.Senders.{Senders}
use Rattle.calvin_histories.specs.Histories.{id_of, entry_of, part_at, Fits}
use Rattle.calvin_histories.specs.Positions.{AreListed, senders_of}

module _ {Args Row Reply : Type 0} (m : Meaning Args Row Reply) where
  pub record Took (old : Log Args) (id : NodeId) (entry : Entry Args Row Reply) (new : Log Args) : Type 0 where
    pub run : IsRun m old.config old.events (world_after m old.config old.events)
    pub event : Event Args
    pub is : entry_of (world_after m old.config old.events) event ≡ Some (id, entry)
    pub applied : Applied m old event new

  pub record IsBegun (log : Log Args) (histories : List (List (Entry Args Row Reply))) (taken : List ℕ) : Type 0 where
    pub number : length taken ≡ length histories
    pub each : (i n : ℕ) (history : List (Entry Args Row Reply)) → slice_get taken i ≡ Some n → slice_get histories i ≡ Some history
        → (n ≤ length history) × (part_at m (opening log.config) log.events (id_of log.config.partitions i) ≡ take n history)

  pub record IsIndexed (log : Log Args) (senders : Senders) : Type 0 where
    pub listed : senders.listed ≡ length (world_after m log.config log.events).packets
    pub each : AreListed senders.partitions senders.lists.items (senders_of (world_after m log.config log.events).packets)

  abbrev pub IsStuckAt : Log Args → List (List (Entry Args Row Reply)) → List ℕ → ℕ → Type 0
  IsStuckAt log histories taken i = (n : ℕ) (history : List (Entry Args Row Reply)) (next : Entry Args Row Reply) → slice_get taken i ≡ Some n
      → slice_get histories i ≡ Some history → slice_get history n ≡ Some next
      → Fits m (world_after m log.config log.events) (id_of log.config.partitions i) next → ⊥
