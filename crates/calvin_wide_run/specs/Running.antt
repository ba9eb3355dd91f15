-- How a store with a lock for each node goes on with a list of events. The notions are of this project.
--     BeginsAtNodes m c before after      at each node of a store that was opened so, what happened in the later list begins with what happened in the earlier one
--     IsWideFault fault      a fault that such a store may end with
use Rattle.std.specs.Prelude.{ℕ, ◌<◌, ◌*◌, List}
use mathlib.Core.List.{IsPrefix}
use Rattle.calvin_types.specs.declared.fault.Fault.{Fault}
use Rattle.calvin_types.specs.declared.fault.Fault.TheVariants.{OutOfMemory, NoRun, NotEnded}
use Rattle.calvin_app.specs.Meaning.{Meaning}
use Rattle.calvin_order.specs.Configs.{Config}
use Rattle.calvin_world.specs.declared.event.Event.{Event}
use Rattle.calvin_world.specs.Worlds.{opening}
use Rattle.calvin_histories.specs.Histories.{id_of, part_at}

module _ {Args Row Reply : Type 0} (m : Meaning Args Row Reply) (c : Config) (before after : List (Event Args)) where
  abbrev pub BeginsAtNodes : Type 0
  BeginsAtNodes = (i : ℕ) → i < c.replicas * c.partitions → IsPrefix (part_at m (opening c) before (id_of c.partitions i)) (part_at m (opening c) after (id_of c.partitions i))

-- want of memory; or a node is still shared; or no list gives the histories
abbrev pub IsWideFault : Fault → Type 0
IsWideFault OutOfMemory = Unit {0}
IsWideFault NotEnded = Unit {0}
IsWideFault NoRun = Unit {0}
IsWideFault _ = ⊥
