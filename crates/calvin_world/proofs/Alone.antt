-- A world of one node: how one event of it is a step, lists of events one after another, and what a new node refuses.
use Rattle.std.proofs.Common.{◌≡◌, ℕ, suc, Bool, true, cond, ◌&&◌, List, [], ◌∷◌, ◌++◌, inl, Option, Some, None, refl, sym, ap, ◌∙◌, subst}
use Rattle.std.specs.Prelude.{is_some, slice_get}
use Rattle.std.specs.Option.{unwrap_or}
use Rattle.std.specs.FinMap.{get, empty, get-empty}
use Rattle.calvin_types.specs.declared.fault.Fault.{Fault}
use Rattle.calvin_types.specs.declared.fault.Fault.TheVariants as fault
use Rattle.calvin_types.specs.Deeds.{Refuses, Does}
use Rattle.calvin_types.specs.Participants.{site}
use Rattle.calvin_types.specs.Places.{place_cmp, slot_cmp}
use Rattle.calvin_app.specs.Meaning.{Meaning}
use Rattle.calvin_synod.specs.Cases.{Replica, fresh, replica_from}
use Rattle.calvin_order.specs.Merged.{Batch, numbered}
use Rattle.calvin_sched.specs.Scheduling.{Turn}
use Rattle.calvin_sched.specs.Standing.{local_places}
use Rattle.calvin_sched.specs.Steps as sched
use Rattle.calvin_node_packets.specs.declared.packet.Packet.{Packet}
use Rattle.calvin_node_packets.specs.declared.packet.Address.TheVariants.{AtNode}
use Rattle.calvin_node_acts.specs.declared.act.Act.TheVariants.{Merge, Begin}
use Rattle.calvin_node_acts.specs.NodeStates.{NodeState, node_from}
use Rattle.calvin_node_acts.specs.Handling.{NodeDeed, handle}
use Rattle.calvin_node_acts.specs.Acting as node
use Rattle.calvin_world.specs.declared.event.Event.{Event}
use Rattle.calvin_world.specs.declared.event.Event.TheVariants.{At, Deliver}
use Rattle.calvin_world.specs.declared.event.Outcome.{Outcome}
use Rattle.calvin_world.specs.declared.event.Outcome.TheVariants.{Done, Refused}
use Rattle.calvin_world.specs.WorkedCases.{alone_with, alone, own_id, first_place, no_start, refusals}
use Rattle.calvin_world.specs.Worlds.{WorldState, carry_out, deliver, deliver_to, happens, Leads, opening}

module _ {Args : Type 0} where
  -- the synod at first
  abbrev pub new_synod : Replica (Batch Args)
  new_synod = replica_from empty 0

  pub is_new : fresh {B = Batch Args} ≡ new_synod
  unfolding fresh
  is_new = refl

module _ {Args Row : Type 0} where
  -- the node at first
  abbrev pub first_node : NodeState Args Row
  first_node = node_from own_id new_synod 0 empty

  -- the node that has merged e epochs
  abbrev pub at_epoch : NodeState Args Row → ℕ → NodeState Args Row
  at_epoch before e = record before { id = own_id; merged_epochs = e }

module _ {Args Row Reply : Type 0} where
  -- one list of events after another
  pub joined : (m : Meaning Args Row Reply) (w : WorldState Args Row Reply) (events : List (Event Args)) (outcomes : List Outcome) (v : WorldState Args Row Reply) → Leads m w events outcomes v
      → (later : List (Event Args)) (more : List Outcome) (after : WorldState Args Row Reply) → Leads m v later more after → Leads m w (events ++ later) (outcomes ++ more) after
  joined m w [] [] v leads later more after on = subst (λ z. Leads m z later more after) leads on
  joined m w [] (outcome ∷ outcomes) v leads later more after on = absurd leads
  joined m w (event ∷ events) [] v leads later more after on = absurd leads
  joined m w (event ∷ events) (outcome ∷ outcomes) v (next, step, rest) later more after on = (next, step, joined m next events outcomes v rest later more after on)

  module _ (points cold : Bool) where
    -- a world of one node, with these packets sent
    abbrev pub one : NodeState Args Row → List (Packet Args Row Reply) → WorldState Args Row Reply
    one x packets = record { config = alone_with points cold; nodes = x ∷ []; packets = packets }

    pub opening_is : one first_node [] ≡ opening (alone_with points cold)
    opening_is = λ i. record { config = alone_with points cold; nodes = node_from own_id (sym (is_new {Args = Args}) i) 0 empty ∷ []; packets = [] }

    -- a deed that takes effect there, or is refused
    pub done_at : (x next : NodeState Args Row) (packets sent : List (Packet Args Row Reply)) (deed : NodeDeed Args Row Reply) → deed ≡ Does next sent → (Done, one next (packets ++ sent)) ≡ carry_out (one x packets) own_id deed
    done_at x next packets sent deed e = sym (ap (carry_out (one x packets) own_id) e)

    pub refused_at : (x : NodeState Args Row) (packets : List (Packet Args Row Reply)) (f : Fault) (deed : NodeDeed Args Row Reply) → deed ≡ Refuses f → (Refused f, one x packets) ≡ carry_out (one x packets) own_id deed
    refused_at x packets f deed e = sym (ap (carry_out (one x packets) own_id) e)

    pub delivered_at : (m : Meaning Args Row Reply) (x next : NodeState Args Row) (packets sent : List (Packet Args Row Reply)) (p : Packet Args Row Reply) (number : ℕ) → slice_get packets number ≡ Some p → p.to ≡ AtNode own_id
        → handle (alone_with points cold) p x ≡ Does next sent → (Done, one next (packets ++ sent)) ≡ happens m (one x packets) (Deliver number)
    delivered_at m x next packets sent p number there to e = sym (ap (deliver (one x packets)) there ∙ ap (deliver_to (one x packets) p) to ∙ ap (carry_out (one x packets) own_id) e)

    -- a merge of epoch e, by whether its batch is held, and which
    abbrev merge_by : NodeState Args Row → ℕ → Option (Batch Args) → NodeDeed Args Row Reply
    merge_by x e o = cond (is_some o && true) (Does (record x {
      merged_epochs = suc e;
      due = x.due ++ local_places (site 1 0) (numbered e 0 ([] ++ unwrap_or o []));
      pending = x.pending ++ numbered e 0 ([] ++ unwrap_or o []);
    }) []) (Refuses fault.NotComplete)

    module _ (before : NodeState Args Row) (e : ℕ) where
      pub merges : (batch : Batch Args) → get before.held (record { epoch = e; group = 0 }) ≡ Some batch → ◌≡◌ {A = NodeDeed Args Row Reply} (node.merge (alone_with points cold) (at_epoch before e))
          (Does (record (at_epoch before e) { merged_epochs = suc e; due = before.due ++ local_places (site 1 0) (numbered e 0 batch); pending = before.pending ++ numbered e 0 batch }) [])
      merges batch held = ap (merge_by (at_epoch before e) e) held

      pub cannot_merge : get before.held (record { epoch = e; group = 0 }) ≡ None → ◌≡◌ {A = NodeDeed Args Row Reply} (node.merge (alone_with points cold) (at_epoch before e)) (Refuses fault.NotComplete)
      cannot_merge unheld = ap (merge_by (at_epoch before e) e) unheld

  -- ---- what a new node refuses

  pub new_node_refuses : (m : Meaning Args Row Reply) → Leads m (opening {Args = Args} {Row = Row} {Reply = Reply} alone) no_start refusals (opening alone)
  new_node_refuses m = subst (λ (w : WorldState Args Row Reply). Leads m w no_start refusals w) (opening_is true true)
      (at_first, inl refl, (at_first, inl merging, (at_first, inl refl, (at_first, inl refl, (at_first, inl begins, (at_first, inl refl, refl))))))
    where
      at_first : WorldState Args Row Reply
      at_first = one true true first_node []

      merging : (Refused fault.NotComplete, at_first) ≡ happens m at_first (At own_id Merge)
      merging = refused_at true true first_node [] fault.NotComplete (node.merge alone first_node) (cannot_merge true true first_node 0 (get-empty slot_cmp (record { epoch = 0; group = 0 })))

      begins : (Refused fault.NotReady, at_first) ≡ happens m at_first (At own_id (Begin first_place))
      begins = refused_at true true first_node [] fault.NotReady (node.begin alone first_place first_node)
          (ap (λ (o : Option (Turn Args Row)). node.begin_by {Reply = Reply} alone first_node first_place (sched.begin_at (site 1 0) first_place first_node.scheduler o)) (get-empty place_cmp first_place))
