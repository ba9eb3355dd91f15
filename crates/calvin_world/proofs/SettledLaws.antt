-- What is promised after every list of events is so of a world in code that the events lead to.
use Rattle.std.proofs.Common.{◌≡◌, ℕ, ◌<◌, List, [], Some, sym, ap, subst, ◌∙◌}
use Rattle.std.specs.List.{Contains}
use Rattle.std.specs.FinMap.{get}
use Rattle.calvin_types.specs.declared.fault.Fault.{Fault}
use Rattle.calvin_types.specs.declared.fault.Fault.TheVariants.{NothingToLock}
use Rattle.calvin_types.specs.declared.place.Ballot.{Ballot}
use Rattle.calvin_types.specs.declared.place.NodeId.{NodeId}
use Rattle.calvin_types.specs.declared.place.Place.{Place}
use Rattle.calvin_types.specs.declared.place.RequestId.{RequestId}
use Rattle.calvin_types.specs.declared.place.Slot.{Slot}
use Rattle.calvin_types.specs.declared.txn.Txn.{Txn}
use Rattle.calvin_types.specs.Deeds.{Refuses, Does}
use Rattle.calvin_types.specs.Orders.{StandsAt}
use Rattle.calvin_app.specs.declared.answer.Answer.{Answer}
use Rattle.calvin_app.specs.Meaning.{Meaning, WritesWithin}
use Rattle.calvin_order.specs.Configs.{Config, order}
use Rattle.calvin_order.specs.Merged.{Batch, Assignment}
use Rattle.calvin_bench.proofs.Lists.{get_map}
use Rattle.calvin_node_acts.specs.NodeStates.{NodeState}
use Rattle.calvin_node_acts.specs.Handling.{NodeDeed}
use Rattle.calvin_node_acts.specs.Acting.{lock}
use Rattle.calvin_node_acts.specs.Running.{settled}
use Rattle.calvin_node_acts.specs.declared.act.Act.TheVariants.{Lock}
use Rattle.calvin_node_packets.specs.declared.packet.Packet.{Packet}
use Rattle.calvin_node_packets.specs.declared.packet.Content.TheVariants.{Replies}
use Rattle.calvin_world.specs.declared.event.Event.{Event}
use Rattle.calvin_world.specs.declared.event.Outcome.{Outcome}
use Rattle.calvin_world.specs.Worlds.{WorldState, index_of, opening, Leads}
use Rattle.calvin_world.specs.SettledWorlds.{settled_world, SettledStep, SettledLeads}
use Rattle.calvin_world.specs.Promises.{IsNode, Chosen, IsChosenUpTo, IsSubmitFor, Submits, Sometime, Agrees, IsSerial, PointsAreSerial, StandAlike}
use Rattle.calvin_world.proofs.EveryEvent.{all_nodes_agree, all_given_held, all_locks_refuse, all_replicas_serial, all_points_serial, all_stand_alike}
use Rattle.calvin_world.proofs.Submissions.{all_there, all_named, same_config, chosen_stays, held_stays, was_submitted, submitted_before, stands_later}
use Rattle.calvin_world.proofs.SettledNodes.{settled_deed, acts_same}
use Rattle.calvin_world.proofs.SettledEvents.{leads_none, opening_none, settled_leads, settled_next, settled_later}
use Rattle.calvin_world.proofs.SettledPromises.{settled_nodes, serial_settled, points_settled, alike_settled}

module _ {Args Row Reply : Type 0} where
  pub node_settled : (w : WorldState Args Row Reply) (id : NodeId) (x : NodeState Args Row) → IsNode w id x → IsNode (settled_world w) id (settled x)
  node_settled w id x is = record { replica = is.replica; partition = is.partition; there = get_map settled w.nodes (index_of w.config.partitions id) x is.there }

  refuses_too : (d : NodeDeed Args Row Reply) (f : Fault) → settled_deed d ≡ Refuses f → d ≡ Refuses f
  refuses_too (Refuses g) f e = e
  refuses_too (Does next sent) f e = absurd (does_not e)
    where
      does_not : {x : NodeState Args Row} {sent : List (Packet Args Row Reply)} → ◌≡◌ {A = NodeDeed Args Row Reply} (Does x sent) (Refuses f) → ⊥
      does_not e = cc

module _ {Args Row Reply : Type 0} (m : Meaning Args Row Reply) (law : WritesWithin m) (c : Config) (events : List (Event Args)) (outcomes : List Outcome) (v : WorldState Args Row Reply) (leads : SettledLeads m (opening c) events outcomes v) where
  -- what is so of each world that the events lead to, settled, is so of this one
  of_world : (P : WorldState Args Row Reply → Type 0) → ((w : WorldState Args Row Reply) → Leads m (opening c) events outcomes w → P (settled_world w)) → P v
  of_world P holds = let was = settled_leads m c events outcomes v leads in subst P (sym was.2) (holds was.0 was.1)

  pub serial_in_code : IsSerial m v
  serial_in_code = of_world (IsSerial m) (λ w h. serial_settled m w (all_replicas_serial m law c events outcomes w h))

  pub points_in_code : PointsAreSerial m v
  points_in_code = of_world (PointsAreSerial m) (λ w h. points_settled m w (all_points_serial m law c events outcomes w h))

  pub alike_in_code : StandAlike v
  alike_in_code = of_world StandAlike (λ w h. alike_settled w (all_stand_alike m law c events outcomes w h))

  pub agrees_in_code : (w : WorldState Args Row Reply) × Agrees w × (v ≡ settled_world w)
  agrees_in_code = let was = settled_leads m c events outcomes v leads in (was.0, all_nodes_agree m law c events outcomes was.0 was.1, was.2)

  -- ---- the nodes

  pub config_in_code : v.config ≡ c
  config_in_code = of_world (λ v. v.config ≡ c) (λ w h. same_config m law c events outcomes w h)

  pub there_in_code : (id : NodeId) → id.replica < v.config.replicas → id.partition < v.config.partitions → (x : NodeState Args Row) × IsNode v id x
  there_in_code = of_world (λ v. (id : NodeId) → id.replica < v.config.replicas → id.partition < v.config.partitions → (x : NodeState Args Row) × IsNode v id x)
      (λ w h id replica partition. let node = all_there m law c events outcomes w h id replica partition in (settled node.0, node_settled w id node.0 node.1))

  pub named_in_code : (id : NodeId) (x : NodeState Args Row) → IsNode v id x → x.id ≡ id
  named_in_code = of_world (λ v. (id : NodeId) (x : NodeState Args Row) → IsNode v id x → x.id ≡ id) (λ w h. settled_nodes w (λ id y. y.id ≡ id) (all_named m law c events outcomes w h))

  pub given_in_code : (id : NodeId) (x : NodeState Args Row) → IsNode v id x → (slot : Slot) (ballot : Ballot) → get x.synod.learner.given slot ≡ Some ballot → (batch : Batch Args) × (get x.held slot ≡ Some batch)
  given_in_code = of_world (λ v. (id : NodeId) (x : NodeState Args Row) → IsNode v id x → (slot : Slot) (ballot : Ballot) → get x.synod.learner.given slot ≡ Some ballot → (batch : Batch Args) × (get x.held slot ≡ Some batch))
      (λ w h. settled_nodes w (λ id y. (slot : Slot) (ballot : Ballot) → get y.synod.learner.given slot ≡ Some ballot → (batch : Batch Args) × (get y.held slot ≡ Some batch)) (all_given_held m law c events outcomes w h))

  pub locks_in_code : (id : NodeId) (x : NodeState Args Row) → IsNode v id x → (fault : Fault) → ◌≡◌ {A = NodeDeed Args Row Reply} (lock v.config x) (Refuses fault) → (fault ≡ NothingToLock) × (x.pending ≡ [])
  locks_in_code = of_world (λ v. (id : NodeId) (x : NodeState Args Row) → IsNode v id x → (fault : Fault) → ◌≡◌ {A = NodeDeed Args Row Reply} (lock v.config x) (Refuses fault) → (fault ≡ NothingToLock) × (x.pending ≡ []))
      (λ w h. settled_nodes w (λ id y. (fault : Fault) → ◌≡◌ {A = NodeDeed Args Row Reply} (lock w.config y) (Refuses fault) → (fault ≡ NothingToLock) × (y.pending ≡ [])) (refused w h))
    where
      refused : (w : WorldState Args Row Reply) → Leads m (opening c) events outcomes w → (id : NodeId) (x : NodeState Args Row) → IsNode w id x → (fault : Fault) → ◌≡◌ {A = NodeDeed Args Row Reply} (lock w.config (settled x)) (Refuses fault) → (fault ≡ NothingToLock) × (x.pending ≡ [])
      refused w h id x node fault e =
          let none = leads_none m (opening c) (opening_none m c) events outcomes w h (index_of w.config.partitions id) x node.there in
          all_locks_refuse m law c events outcomes w h id x node fault (refuses_too (lock w.config x) fault (sym (acts_same Reply w.config x m none Lock) ∙ ap settled_deed e))

  -- ---- what is chosen

  pub chosen_in_code : (later : List (Event Args)) (more : List Outcome) (u : WorldState Args Row Reply) → SettledLeads m v later more u → (slot : Slot) (batch : Batch Args) → Chosen v slot batch → Chosen u slot batch
  chosen_in_code = of_world (λ v. (later : List (Event Args)) (more : List Outcome) (u : WorldState Args Row Reply) → SettledLeads m v later more u → (slot : Slot) (batch : Batch Args) → Chosen v slot batch → Chosen u slot batch)
      (λ w h later more u on slot batch chosen.
      let next = settled_later m c events outcomes w h later more u on in
      subst (λ (u : WorldState Args Row Reply). Chosen u slot batch) (sym next.2) (chosen_stays m law c events outcomes w h later more next.0 next.1 slot batch chosen))

  pub held_in_code : (later : List (Event Args)) (more : List Outcome) (u : WorldState Args Row Reply) → SettledLeads m v later more u → (id : NodeId) (x : NodeState Args Row) → IsNode v id x → (slot : Slot) (batch : Batch Args) → get x.held slot ≡ Some batch → Chosen u slot batch
  held_in_code = of_world (λ v. (later : List (Event Args)) (more : List Outcome) (u : WorldState Args Row Reply) → SettledLeads m v later more u → (id : NodeId) (x : NodeState Args Row) → IsNode v id x → (slot : Slot) (batch : Batch Args) → get x.held slot ≡ Some batch → Chosen u slot batch)
      (λ w h later more u on.
      let next = settled_later m c events outcomes w h later more u on in
      settled_nodes w (λ id y. (slot : Slot) (batch : Batch Args) → get y.held slot ≡ Some batch → Chosen u slot batch)
      (λ id x node slot batch held. subst (λ (u : WorldState Args Row Reply). Chosen u slot batch) (sym next.2) (held_stays m law c events outcomes w h later more next.0 next.1 id x node slot batch held)))

  -- ---- what is submitted

  abbrev pub Before : (WorldState Args Row Reply → (w : WorldState Args Row Reply) → Leads m (opening c) events outcomes w → Type 0) → Type 0
  Before P = (w : WorldState Args Row Reply) × (h : Leads m (opening c) events outcomes w) × (v ≡ settled_world w) × P v w h

  of_both : (P : WorldState Args Row Reply → (w : WorldState Args Row Reply) → Leads m (opening c) events outcomes w → Type 0) → ((w : WorldState Args Row Reply) (h : Leads m (opening c) events outcomes w) → P (settled_world w) w h) → Before P
  of_both P holds = let was = settled_leads m c events outcomes v leads in (was.0, was.1, was.2, subst (λ v. P v was.0 was.1) (sym was.2) (holds was.0 was.1))

  pub submitted_in_code : Before (λ v w h. (slot : Slot) (batch : Batch Args) → Chosen v slot batch → (t : Txn Args) → Contains batch t → Sometime m (IsSubmitFor slot t) (opening c) events outcomes w h)
  submitted_in_code = of_both (λ v w h. (slot : Slot) (batch : Batch Args) → Chosen v slot batch → (t : Txn Args) → Contains batch t → Sometime m (IsSubmitFor slot t) (opening c) events outcomes w h)
      (λ w h. was_submitted m law c events outcomes w h)

  abbrev SubmittedBefore : WorldState Args Row Reply → (w : WorldState Args Row Reply) → Leads m (opening c) events outcomes w → Type 0
  SubmittedBefore v w h = (event : Event Args) (outcome : Outcome) (u : WorldState Args Row Reply) → SettledStep m v event outcome u → (slot : Slot) (batch : Batch Args) → (Chosen v slot batch → ⊥) → Chosen u slot batch
      → (t : Txn Args) → Contains batch t → Sometime m (IsSubmitFor slot t) (opening c) events outcomes w h

  pub before_in_code : Before SubmittedBefore
  before_in_code = of_both SubmittedBefore (λ w h event outcome u step slot batch never chosen.
      let next = settled_next m c events outcomes w h event outcome u step in
      submitted_before m law c events outcomes w h event outcome next.0 next.1 slot batch never (subst (λ (u : WorldState Args Row Reply). Chosen u slot batch) next.2 chosen))

  abbrev StandLater : WorldState Args Row Reply → (w : WorldState Args Row Reply) → Leads m (opening c) events outcomes w → Type 0
  StandLater v w h = (later : List (Event Args)) (more : List Outcome) (u : WorldState Args Row Reply) → SettledLeads m v later more u
      → (p : Packet Args Row Reply) → Contains v.packets p → (q : Place) (id : RequestId) (attempt : ℕ) (answer : Answer Reply) → p.content ≡ Replies q id attempt answer
      → (t : Txn Args) → (Sometime m (Submits t) (opening c) events outcomes w h → ⊥)
      → (B : Assignment Args) (n : ℕ) → IsChosenUpTo u B n → (r : Place) → StandsAt (order u.config B n) r t → q.epoch < r.epoch

  pub later_in_code : Before StandLater
  later_in_code = of_both StandLater (λ w h later more u on p there q id attempt answer says t never B n.
      let next = settled_later m c events outcomes w h later more u on in
      subst (λ (u : WorldState Args Row Reply). IsChosenUpTo u B n → (r : Place) → StandsAt (order u.config B n) r t → q.epoch < r.epoch) (sym next.2)
      (stands_later m law c events outcomes w h later more next.0 next.1 p there q id attempt answer says t never B n))
