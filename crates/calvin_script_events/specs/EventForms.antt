-- The events of a world as they are written. The form of scripts is of this project.
--     act_of a, event_of e      the event itself of one that is kept
--     node_of r p, place_of e n, slot_of e g      the node, the place and the slot of two numbers
--     act_at grammar name d      what happens at a node, by its name: a request is submitted, or an event without one, act_named name d
--     event grammar d      one of the fifteen events, with exactly its numbers, its key or its request
use Rattle.std.specs.Prelude.{ℕ, ◌^◌, List, if◌then◌else◌, Option, Some, option_and_then, option_map, is_none, codes, bytes_eq}
use Rattle.serde_json.specs.Data.{Data}
use Rattle.serde_json.specs.Find.{at, as_str}
use Rattle.calvin_types.specs.declared.limits.TheConstants.{MOST_EPOCHS}
use Rattle.calvin_types.specs.declared.key.Key.{Key}
use Rattle.calvin_types.specs.declared.place.NodeId.{NodeId}
use Rattle.calvin_types.specs.declared.place.Place.{Place}
use Rattle.calvin_types.specs.declared.place.Slot.{Slot}
use Rattle.calvin_node_acts.specs.declared.act.Act.{Act}
use Rattle.calvin_node_acts.specs.declared.act.Act.TheVariants as act
use Rattle.calvin_world.specs.declared.event.Event.{Event}
use Rattle.calvin_world.specs.declared.event.Event.TheVariants as world
use Rattle.calvin_script.specs.declared.contents.Request.{Request}
use Rattle.calvin_script.specs.Spelling.{◌>>=◌, only_if, below}
use Rattle.calvin_script.specs.Numbers.{one_number}
use Rattle.calvin_script.specs.KeyLists.{key}
use Rattle.calvin_script.specs.Grammar.{Grammar}
use Rattle.calvin_script.specs.Requests.{request}
use Rattle.calvin_script_events.specs.declared.event.ListedAct.{ListedAct}
use Rattle.calvin_script_events.specs.declared.event.ListedAct.TheVariants.{Submit, SubmitCold, Cool, Close, Merge, Lock, Restart, Propose, Snapshot, Mark, Begin, Finish, AskForReads, AskForBatch}
use Rattle.calvin_script_events.specs.declared.event.ListedEvent.{ListedEvent}
use Rattle.calvin_script_events.specs.declared.event.ListedEvent.TheVariants.{At, Deliver}

-- ---- numbers behind the name

-- r and p: partition p of replica r
unfoldable pub node_of : Data → Data → Option NodeId
node_of r p = do
  replica ← below (2 ^ 8) r
  partition ← below (2 ^ 8) p
  Some (record { replica = replica; partition = partition })

-- e and n: request n of epoch e
unfoldable pub place_of : Data → Data → Option Place
place_of e n = do
  epoch ← below MOST_EPOCHS e
  number ← below (2 ^ 32) n
  Some (record { epoch = epoch; n = number })

-- e and g: what group g decides for epoch e
unfoldable pub slot_of : Data → Data → Option Slot
slot_of e g = do
  epoch ← below MOST_EPOCHS e
  group ← below (2 ^ 8) g
  Some (record { epoch = epoch; group = group })

-- the node of `[NAME,r,p, ..]`
unfoldable pub node : Data → Option NodeId
node d = do
  r ← at 1 d
  p ← at 2 d
  node_of r p

-- the epoch of `[NAME,r,p,e]`
unfoldable pub epoch : Data → Option ℕ
epoch d = only_if (is_none (at 4 d)) (option_and_then (below MOST_EPOCHS) (at 3 d))

-- the key of `[NAME,r,p,KEY]`
unfoldable pub cooled : Data → Option Key
cooled d = only_if (is_none (at 4 d)) (option_and_then key (at 3 d))

-- the place of `[NAME,r,p,e,n]`
unfoldable pub place : Data → Option Place
place d = only_if (is_none (at 5 d)) (do
  e ← at 3 d
  n ← at 4 d
  place_of e n)

-- the place of `[NAME,r,p,e,n,r2]`, and the replica r2
unfoldable pub place_and_replica : Data → Option (Place × ℕ)
place_and_replica d = only_if (is_none (at 6 d)) (do
  e ← at 3 d
  n ← at 4 d
  place ← place_of e n
  replica ← option_and_then (below (2 ^ 8)) (at 5 d)
  Some (place, replica))

-- the slot of `[NAME,r,p,e,g,r2,p2]`, and the node of r2 and p2
unfoldable pub slot_and_node : Data → Option (Slot × NodeId)
slot_and_node d = only_if (is_none (at 7 d)) (do
  e ← at 3 d
  g ← at 4 d
  slot ← slot_of e g
  r ← at 5 d
  p ← at 6 d
  of ← node_of r p
  Some (slot, of))

module _ {Args : Type 0} where
  -- ---- events without where they lie in memory

  abbrev pub act_of : ListedAct (Request Args) → Act Args
  act_of (Submit r) = act.Submit r.value.txn
  act_of (SubmitCold r) = act.SubmitCold r.value.txn
  act_of (Cool k) = act.Cool k
  act_of Close = act.Close
  act_of Merge = act.Merge
  act_of Lock = act.Lock
  act_of Restart = act.Restart
  act_of (Propose e) = act.Propose e
  act_of (Snapshot e) = act.Snapshot e
  act_of (Mark e) = act.Mark e
  act_of (Begin p) = act.Begin p
  act_of (Finish p) = act.Finish p
  act_of (AskForReads p r) = act.AskForReads p r
  act_of (AskForBatch s id) = act.AskForBatch s id

  abbrev pub event_of : ListedEvent (Request Args) → Event Args
  event_of (At id a) = world.At id (act_of a)
  event_of (Deliver k) = world.Deliver k

  -- ---- what is written

  -- `["close",r,p]`, `["merge",r,p]`, `["lock",r,p]`, `["restart",r,p]`
  unfoldable pub act_alone : List ℕ → Data → Option (Act Args)
  act_alone name d = only_if (is_none (at 3 d)) (
      if bytes_eq name (codes "close") then Some act.Close
      else (if bytes_eq name (codes "merge") then Some act.Merge
      else (if bytes_eq name (codes "lock") then Some act.Lock
      else only_if (bytes_eq name (codes "restart")) (Some act.Restart))))

  -- `["propose",r,p,e]`, `["snapshot",r,p,e]`, `["mark",r,p,e]`, `["cool",r,p,KEY]`, `["begin",r,p,e,n]`, `["finish",r,p,e,n]`,
  -- `["askreads",r,p,e,n,r2]`, `["askbatch",r,p,e,g,r2,p2]`, or one with nothing behind its node
  unfoldable pub act_named : List ℕ → Data → Option (Act Args)
  act_named name d =
      if bytes_eq name (codes "propose") then option_map act.Propose (epoch d)
      else (if bytes_eq name (codes "snapshot") then option_map act.Snapshot (epoch d)
      else (if bytes_eq name (codes "mark") then option_map act.Mark (epoch d)
      else (if bytes_eq name (codes "cool") then option_map act.Cool (cooled d)
      else (if bytes_eq name (codes "begin") then option_map act.Begin (place d)
      else (if bytes_eq name (codes "finish") then option_map act.Finish (place d)
      else (if bytes_eq name (codes "askreads") then option_map (λ a. act.AskForReads a.0 a.1) (place_and_replica d)
      else (if bytes_eq name (codes "askbatch") then option_map (λ a. act.AskForBatch a.0 a.1) (slot_and_node d)
      else act_alone name d)))))))

  -- the request of `["submit",r,p,TXN]` and of `["submitcold",r,p,TXN]`; one that no sequencer takes has the form too
  unfoldable pub submit : Grammar Args → Data → Option (Request Args)
  submit grammar d = only_if (is_none (at 4 d)) (option_and_then (request grammar) (at 3 d))

  -- what happens at the node of `[NAME,r,p, ..]`
  unfoldable pub act_at : Grammar Args → List ℕ → Data → Option (Act Args)
  act_at grammar name d =
      if bytes_eq name (codes "submit") then option_map (λ r. act.Submit r.txn) (submit grammar d)
      else (if bytes_eq name (codes "submitcold") then option_map (λ r. act.SubmitCold r.txn) (submit grammar d)
      else act_named name d)

  -- `["deliver",k]`, or an event at a node
  unfoldable pub event : Grammar Args → Data → Option (Event Args)
  event grammar d = do
    name ← option_and_then as_str (at 0 d)
    if bytes_eq name (codes "deliver") then option_map world.Deliver (one_number d) else (do
      id ← node d
      a ← act_at grammar name d
      Some (world.At id a))
