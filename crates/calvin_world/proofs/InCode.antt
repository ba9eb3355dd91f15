-- A world in code: how it is opened, and what an event of one node makes of it.
--     index_within      where a node stands is within the nodes
--     opened_nodes, opened_world      the nodes that a store is opened with
--     steady      a world that is reached is settled
--     acted, delivered      what a node makes of an act and of a packet is a step of its world, which stays opened and reached
--     no_node, no_packet, for_a_client, for_nobody      what is refused before a node is asked
use Rattle.std.proofs.Common.{◌≡◌, ℕ, suc, zero, ◌+◌, ◌*◌, ◌/◌, ◌%◌, ◌<◌, ◌≤◌, inl, inr, Bool, true, ◌&&◌, List, [], ◌∷◌, ◌++◌, map, take, length, length-append, Option, Some, None, Result, Ok, Err, refl, sym, ap, subst, ◌∙◌, arith, slice_get, slice_set}
use Rattle.std.proofs.lemmas.List.FromFn.{map-range_with_len_more, length-map-range_with_len}
use Rattle.std.proofs.lemmas.List.{length-set, append-nil, get_or_append_left, get_or-set_same, set-append_left, take_more}
use Rattle.std.specs.Option.{option_map}
use lib.ListN.{get_or}
use Rattle.std.proofs.lemmas.Option.{slice_get-get_or, slice_get_within, same_Some}
use Rattle.std.proofs.lemmas.Bool.{lt-ltb}
use Rattle.std.specs.Prelude.{nat_lt}
use Rattle.std.specs.List.{range_with_len}
use Rattle.calvin_types.specs.declared.fault.Fault.{Fault}
use Rattle.calvin_types.specs.declared.fault.Fault.TheVariants.{NoNode, NoPacket, NotMine}
use Rattle.calvin_types.specs.declared.place.NodeId.{NodeId}
use Rattle.calvin_types.specs.Deeds.{Refuses, Does}
use Rattle.calvin_app.specs.Meaning.{Meaning, WritesWithin}
use Rattle.calvin_bench.proofs.Lists.{set_each, set_map, map_twice, was_map, get_map}
use Rattle.calvin_order.specs.Configs.{Config}
use Rattle.calvin_node_acts.specs.NodeStates.{NodeState, new_node}
use Rattle.calvin_node_acts.specs.Handling.{NodeDeed, handle}
use Rattle.calvin_node_acts.specs.Acting.{deed_of}
use Rattle.calvin_node_acts.specs.Growing.{act_grows, content_grows}
use Rattle.calvin_node_acts.specs.Running.{Running, NodeDid}
use Rattle.calvin_node_acts.specs.declared.act.Act.{Act}
use Rattle.calvin_node_packets.specs.declared.packet.Address.{Address}
use Rattle.calvin_node_packets.specs.declared.packet.Address.TheVariants.{AtNode, AtClient}
use Rattle.calvin_node_packets.specs.declared.packet.Packet.{Packet}
use Rattle.calvin_node_packets.specs.Packets.{IsLent, CanBePut}
use Rattle.calvin_world.specs.declared.event.Event.{Event}
use Rattle.calvin_world.specs.declared.event.Event.TheVariants.{At, Deliver}
use Rattle.calvin_world.specs.declared.event.Outcome.{Outcome}
use Rattle.calvin_world.specs.declared.event.Outcome.TheVariants.{Refused}
use Rattle.calvin_world.specs.Worlds.{WorldState, index_of, opening, node_at, carry_out, at_node, deliver_to, deliver, happens, Leads}
use Rattle.calvin_world.specs.SettledWorlds.{settled_world, outcome_of, SettledStep, SettledLeads}
use Rattle.calvin_world.specs.RunningWorlds.{world_of, IsOpened, IsReached}
use Rattle.calvin_world.specs.Promises.{Agrees, IsSerial, PointsAreSerial, StandAlike}
use Rattle.calvin_world.proofs.EveryEvent.{all_nodes_agree, all_replicas_serial, all_points_serial, all_stand_alike}
use Rattle.calvin_world.proofs.SettledPromises.{serial_settled, points_settled, alike_settled}
use Rattle.calvin_world.proofs.SettledCalls.{act_called, delivery_called}
use Rattle.calvin_world.proofs.SettledEvents.{ending, world_twice, settled_leads}

-- where a node stands is within the nodes
pub index_within : (parts replicas : ℕ) (id : NodeId) → id.replica < replicas → id.partition < parts → index_of parts id < replicas * parts
index_within parts replicas id r p = go id.replica replicas r
  where
    go : (a n : ℕ) → a < n → a * parts + id.partition < n * parts
    go a zero less = absurd (omega (arith, less))
    go zero (suc n) less = omega (arith, p)
    go (suc a) (suc n) less = let rest = go a n (omega (arith, less)) in omega (arith, rest)

-- the name of the node that stands there
abbrev pub id_at : Config → ℕ → NodeId
id_at c i = record { replica = i / c.partitions; partition = i % c.partitions }

-- a node that is there
pub there_is : (parts replicas : ℕ) (id : NodeId) → id.replica < replicas → id.partition < parts → (nat_lt id.replica replicas && nat_lt id.partition parts) ≡ true
there_is parts replicas id r p = λ i. lt-ltb id.replica replicas r i && lt-ltb id.partition parts p i

module _ {Args Row : Type 0} (c : Config) where
  abbrev pub at_first : ℕ → Running Args Row
  at_first i = record { config = c; state = new_node (id_at c i) }

  pub one_more : (n : ℕ) (made : Running Args Row) (now after : List (Running Args Row)) → now ≡ map at_first (range_with_len 0 n) → made.config ≡ c → (id : NodeId) → id ≡ id_at c n → made.state ≡ new_node id → after ≡ now ++ made ∷ [] → after ≡ map at_first (range_with_len 0 (n + 1))
  one_more n made now after so_far of_config id is_id new pushed =
      pushed
      ∙ (λ i. so_far i ++ record { config = of_config i; state = (new ∙ ap new_node is_id) i } ∷ [])
      ∙ sym (map-range_with_len_more at_first 0 n n (omega arith))

  pub opened_nodes : (nodes : List (Running Args Row)) → nodes ≡ map at_first (range_with_len 0 (c.replicas * c.partitions)) → IsOpened c nodes
  opened_nodes nodes is = subst (IsOpened c) (sym is) (record {
    number = length-map-range_with_len at_first 0 (c.replicas * c.partitions);
    each = λ i n there. let was = was_map at_first (range_with_len 0 (c.replicas * c.partitions)) i n there in sym (ap (λ (x : Running Args Row). x.config) was.2);
  })

  pub opened_world : (Reply : Type 0) (nodes : List (Running Args Row)) → nodes ≡ map at_first (range_with_len 0 (c.replicas * c.partitions)) → (packets : List (Packet Args Row Reply)) → packets ≡ [] → world_of c nodes packets ≡ opening c
  opened_world Reply nodes is packets none = λ k. record {
    config = c;
    nodes = (ap (map (λ (n : Running Args Row). n.state)) is ∙ map_twice at_first (λ n. n.state) (λ i. new_node (id_at c i)) (range_with_len 0 (c.replicas * c.partitions)) (λ i x there. refl)) k;
    packets = none k;
  }

module _ {Args Row Reply : Type 0} (m : Meaning Args Row Reply) where
  -- the opening is reached
  pub opening_reached : (w : WorldState Args Row Reply) → w ≡ opening w.config → IsReached m w
  opening_reached w e = ([], [], e)

  -- a world that is reached is settled
  pub steady : (w : WorldState Args Row Reply) → IsReached m w → settled_world w ≡ w
  steady w reached =
      let was = settled_leads m w.config reached.0 reached.1 w reached.2 in
      ap settled_world was.2 ∙ world_twice was.0 ∙ sym was.2

  -- one event more
  leads_on : (w : WorldState Args Row Reply) (events : List (Event Args)) (outcomes : List Outcome) (v : WorldState Args Row Reply) (event : Event Args) (outcome : Outcome) (after : WorldState Args Row Reply) → SettledLeads m w events outcomes v → SettledStep m v event outcome after
      → SettledLeads m w (events ++ event ∷ []) (outcomes ++ outcome ∷ []) after
  leads_on w [] [] v event outcome after run step = (after, subst (λ u. SettledStep m u event outcome after) run step, refl)
  leads_on w [] (o ∷ outcomes) v event outcome after run step = absurd run
  leads_on w (e ∷ events) [] v event outcome after run step = absurd run
  leads_on w (e ∷ events) (o ∷ outcomes) v event outcome after run step = (run.0, run.1, leads_on run.0 events outcomes v event outcome after run.2 step)

  pub reached_on : (w : WorldState Args Row Reply) → IsReached m w → (event : Event Args) (outcome : Outcome) (after : WorldState Args Row Reply) → after.config ≡ w.config → SettledStep m w event outcome after → IsReached m after
  reached_on w reached event outcome after same step = (
    reached.0 ++ event ∷ [],
    reached.1 ++ outcome ∷ [],
    subst (λ (c : Config). SettledLeads m (opening c) (reached.0 ++ event ∷ []) (reached.1 ++ outcome ∷ []) after) (sym same) (leads_on (opening w.config) reached.0 reached.1 w event outcome after reached.2 step),
  )

-- ---- packets

module _ {A : Type 0} where
  -- what stood there is put back
  pub set_back : (xs : List A) (k : ℕ) (s p : A) → slice_get xs k ≡ Some p → slice_set (slice_set xs k s) k p ≡ xs
  set_back [] k s p at = refl
  set_back (x ∷ xs) zero s p at = let same : x ≡ p = cc in ap (λ y. y ∷ xs) (sym same)
  set_back (x ∷ xs) (suc k) s p at = ap (λ ys. x ∷ ys) (set_back xs k s p at)

module _ {Args Row Reply : Type 0} where
  pub longer : (grows : Bool) (r : Result (Unit {0}) Fault) (d : NodeDeed Args Row Reply) (x y : Running Args Row) (sent all : List (Packet Args Row Reply)) → NodeDid grows r d x y sent all → length sent ≤ length all
  longer grows (Ok out) (Refuses f) x y sent all did = absurd did
  longer grows (Ok out) (Does next packets) x y sent all did = let h = length-append sent packets in omega (arith, ap length did.1, h)
  longer grows (Err e) (Refuses f) x y sent all did = omega (arith, ap length did.2)
  longer grows (Err e) (Does next packets) x y sent all did = omega (arith, ap length did.3)

  -- a packet that another one stood for while it was handled
  pub put_back : (grows : Bool) (r : Result (Unit {0}) Fault) (d : NodeDeed Args Row Reply) (x y : Running Args Row) (packets all : List (Packet Args Row Reply)) (k : ℕ) (s p : Packet Args Row Reply) → slice_get packets k ≡ Some p → k < length packets
      → NodeDid grows r d x y (slice_set packets k s) all → NodeDid grows r d x y packets (slice_set all k p)
  put_back grows (Ok out) (Refuses f) x y packets all k s p at within did = did
  put_back grows (Ok out) (Does next sent) x y packets all k s p at within did = (
    did.0,
    ap (λ l. slice_set l k p) did.1
        ∙ set-append_left (slice_set packets k s) sent k p (subst (λ n. k < n) (sym (length-set packets k s)) within)
        ∙ ap (λ l. l ++ sent) (set_back packets k s p at),
  )
  put_back grows (Err e) (Refuses f) x y packets all k s p at within did = (did.0, did.1, ap (λ l. slice_set l k p) did.2 ∙ set_back packets k s p at)
  put_back grows (Err e) (Does next sent) x y packets all k s p at within did = (did.0, did.1, did.2, ap (λ l. slice_set l k p) did.3 ∙ set_back packets k s p at)

-- a node that was left as it is opened, and its world
module _ {Args Row : Type 0} (c : Config) (nodes : List (Running Args Row)) (is : IsOpened c nodes) (k : ℕ) (y : Running Args Row) where
  pub still_opened : y.config ≡ c → IsOpened c (slice_set nodes k y)
  still_opened same = record {
    number = length-set nodes k y ∙ is.number;
    each = λ i n there. set_each (λ j (x : Running Args Row). x.config ≡ c) nodes k y same is.each i n there;
  }

-- no event of a node changes what it is opened with
pub config_kept : {Args Row Reply : Type 0} (grows : Bool) (r : Result (Unit {0}) Fault) (d : NodeDeed Args Row Reply) (x y : Running Args Row) (sent all : List (Packet Args Row Reply)) → NodeDid grows r d x y sent all → y.config ≡ x.config
config_kept grows (Ok out) (Refuses f) x y sent all did = absurd did
config_kept grows (Ok out) (Does next packets) x y sent all did = ap (λ n. n.config) did.0
config_kept grows (Err e) (Refuses f) x y sent all did = ap (λ n. n.config) did.1
config_kept grows (Err e) (Does next packets) x y sent all did = ap (λ n. n.config) did.2

-- ---- what is refused before a node is asked

module _ {Args Row Reply : Type 0} (m : Meaning Args Row Reply) (w : WorldState Args Row Reply) (reached : IsReached m w) where
  refused : (event : Event Args) (f : Fault) → happens m w event ≡ (Refused f, w) → SettledStep m w event (Refused f) w
  refused event f is = inl ((λ i. (Refused f, sym (steady m w reached) i)) ∙ (λ i. ending (sym is i)))

  pub no_node : (id : NodeId) → node_at w id ≡ None → (act : Act Args) → SettledStep m w (At id act) (Refused NoNode) w
  no_node id none act = refused (At id act) NoNode (ap (at_node w id (deed_of m w.config act)) none)

  pub no_packet : (number : ℕ) → slice_get w.packets number ≡ None → SettledStep m w (Deliver number) (Refused NoPacket) w
  no_packet number none = refused (Deliver number) NoPacket (ap (deliver w) none)

  module _ (number : ℕ) (p : Packet Args Row Reply) (sent : slice_get w.packets number ≡ Some p) where
    pub for_a_client : (client : ℕ) → p.to ≡ AtClient client → SettledStep m w (Deliver number) (Refused NotMine) w
    for_a_client client to = refused (Deliver number) NotMine (ap (deliver w) sent ∙ ap (deliver_to w p) to)

    pub for_nobody : (id : NodeId) → p.to ≡ AtNode id → node_at w id ≡ None → SettledStep m w (Deliver number) (Refused NoNode) w
    for_nobody id to none = refused (Deliver number) NoNode (ap (deliver w) sent ∙ ap (deliver_to w p) to ∙ ap (at_node w id (handle w.config p)) none)

-- what an outbox tells of the packet of a number
module _ {Args Row Reply : Type 0} where
  pub seen : (o : Option (Packet Args Row Reply)) (to : Address) → Some to ≡ option_map (λ p. p.to) o → (p : Packet Args Row Reply) × (o ≡ Some p) × (p.to ≡ to)
  seen None to e = absurd (cc)
  seen (Some p) to e = (p, refl, sym (same_Some to p.to e))

  pub unseen : (o : Option (Packet Args Row Reply)) → None ≡ option_map (λ p. p.to) o → o ≡ None
  unseen None e = refl
  unseen (Some p) e = absurd (cc)

  -- a packet that was taken out can be put back where a node handled it
  pub handled : (grows : Bool) (r : Result (Unit {0}) Fault) (d : NodeDeed Args Row Reply) (old new : Running Args Row) (sent all : List (Packet Args Row Reply)) → NodeDid grows r d old new sent all → (more : List (Packet Args Row Reply)) × (all ≡ sent ++ more)
  handled grows (Ok out) (Refuses f) old new sent all did = absurd did
  handled grows (Ok out) (Does next packets) old new sent all did = (packets, did.1)
  handled grows (Err f) (Refuses fault) old new sent all did = ([], did.2 ∙ sym (append-nil sent))
  handled grows (Err f) (Does next packets) old new sent all did = ([], did.3 ∙ sym (append-nil sent))

  pub can_be_put : (before sent all : List (Packet Args Row Reply)) (number : ℕ) (packet : Packet Args Row Reply) → IsLent before sent number packet → (more : List (Packet Args Row Reply)) → all ≡ sent ++ more → CanBePut all number packet
  can_be_put before sent all number packet lent more is =
      let low : number < length before = slice_get_within before number packet lent.there in
      let long : length (slice_set before number lent.other) ≡ length before = length-set before number lent.other in
      let within : number < length (slice_set before number lent.other) = omega (arith, low, long) in
      let whole : number < length (slice_set before number lent.other ++ more) = omega (arith, within, length-append (slice_set before number lent.other) more) in
      let here : get_or (slice_set before number lent.other ++ more) number lent.other ≡ lent.other = get_or_append_left (slice_set before number lent.other) more lent.other number within ∙ get_or-set_same before number lent.other lent.other low in
      let all_is : all ≡ slice_set before number lent.other ++ more = is ∙ ap (λ ps. ps ++ more) lent.after_is in
      record {
        other = lent.other;
        there = ap (λ ps. slice_get ps number) all_is ∙ slice_get-get_or (slice_set before number lent.other ++ more) number lent.other whole ∙ ap Some here;
        alike = lent.alike;
        same = lent.same;
      }

-- ---- what a node makes of an event

module _ {Args Row Reply : Type 0} (m : Meaning Args Row Reply) (c : Config) (nodes : List (Running Args Row)) (packets : List (Packet Args Row Reply)) (is : IsOpened c nodes) (reached : IsReached m (world_of c nodes packets))
    (id : NodeId) (at : ℕ) (at_is : at ≡ index_of c.partitions id) (found : node_at (world_of c nodes packets) id ≡ slice_get (map (λ n. n.state) nodes) at) (x y : Running Args Row) (there : slice_get nodes at ≡ Some x) where
  abbrev w : WorldState Args Row Reply
  w = world_of c nodes packets

  node_there : node_at w id ≡ Some x.state
  node_there = found ∙ get_map (λ (n : Running Args Row). n.state) nodes at x there

  config_is : x.config ≡ c
  config_is = is.each at x there

  same_world : (all : List (Packet Args Row Reply)) → ◌≡◌ {A = WorldState Args Row Reply} (record w { nodes = slice_set w.nodes (index_of c.partitions id) y.state; packets = all }) (world_of c (slice_set nodes at y) all)
  same_world all = λ i. record {
    config = c;
    nodes = (ap (λ k. slice_set (map (λ (n : Running Args Row). n.state) nodes) k y.state) (sym at_is) ∙ sym (set_map (λ (n : Running Args Row). n.state) nodes at y)) i;
    packets = all;
  }

  kept : (grows : Bool) (r : Result (Unit {0}) Fault) (d : NodeDeed Args Row Reply) (sent all after : List (Packet Args Row Reply)) → NodeDid grows r d x y sent all → (event : Event Args) → SettledStep m w event (outcome_of r) (world_of c (slice_set nodes at y) after)
      → IsOpened c (slice_set nodes at y) × IsReached m (world_of c (slice_set nodes at y) after)
  kept grows r d sent all after did event step = (
    still_opened c nodes is at y (config_kept grows r d x y sent all did ∙ config_is),
    reached_on m w reached event (outcome_of r) (world_of c (slice_set nodes at y) after) refl step,
  )

  module _ (act : Act Args) (r : Result (Unit {0}) Fault) (all : List (Packet Args Row Reply)) (did : NodeDid (act_grows x.config act x.state) r (deed_of m x.config act x.state) x y packets all) where
    pub acted : SettledStep m w (At id act) (outcome_of r) (world_of c (slice_set nodes at y) all)
    acted =
        subst (SettledStep m w (At id act) (outcome_of r)) (same_world all)
        (act_called m w (steady m w reached) id x.state node_there act r y all
        (subst (λ k. NodeDid (act_grows k act x.state) r (deed_of m k act x.state) (record { config = k; state = x.state }) y packets all) config_is did))

    pub acted_kept : IsOpened c (slice_set nodes at y) × IsReached m (world_of c (slice_set nodes at y) all)
    acted_kept = kept (act_grows x.config act x.state) r (deed_of m x.config act x.state) packets all all did (At id act) acted

  module _ (number : ℕ) (p other : Packet Args Row Reply) (sent : slice_get packets number ≡ Some p) (to : p.to ≡ AtNode id) (r : Result (Unit {0}) Fault) (all : List (Packet Args Row Reply))
      (did : NodeDid (content_grows x.config p.content x.state) r (handle x.config p x.state) x y (slice_set packets number other) all) where
    within : (xs : List (Packet Args Row Reply)) (k : ℕ) → slice_get xs k ≡ Some p → k < length xs
    within [] k at = absurd (cc)
    within (z ∷ zs) zero at = omega arith
    within (z ∷ zs) (suc k) at = let rest = within zs k at in omega (arith, rest)

    pub delivered : SettledStep m w (Deliver number) (outcome_of r) (world_of c (slice_set nodes at y) (slice_set all number p))
    delivered =
        subst (SettledStep m w (Deliver number) (outcome_of r)) (same_world (slice_set all number p))
        (delivery_called m w (steady m w reached) id x.state node_there number p sent to r y (slice_set all number p)
        (put_back (content_grows c p.content x.state) r (handle c p x.state) (record { config = c; state = x.state }) y packets all number other p sent (within packets number sent)
        (subst (λ k. NodeDid (content_grows k p.content x.state) r (handle k p x.state) (record { config = k; state = x.state }) y (slice_set packets number other) all) config_is did)))

    pub delivered_kept : IsOpened c (slice_set nodes at y) × IsReached m (world_of c (slice_set nodes at y) (slice_set all number p))
    delivered_kept = kept (content_grows x.config p.content x.state) r (handle x.config p x.state) (slice_set packets number other) all (slice_set all number p) did (Deliver number) delivered

-- ---- lists of events

module _ {Args Row Reply : Type 0} (m : Meaning Args Row Reply) where
  carried_config : (w : WorldState Args Row Reply) (me : NodeId) (d : NodeDeed Args Row Reply) → (carry_out w me d).1.config ≡ w.config
  carried_config w me (Refuses f) = refl
  carried_config w me (Does next sent) = refl

  node_config : (w : WorldState Args Row Reply) (me : NodeId) (act : NodeState Args Row → NodeDeed Args Row Reply) (o : Option (NodeState Args Row)) → (at_node w me act o).1.config ≡ w.config
  node_config w me act None = refl
  node_config w me act (Some x) = carried_config w me (act x)

  packet_config : (w : WorldState Args Row Reply) (o : Option (Packet Args Row Reply)) → (deliver w o).1.config ≡ w.config
  packet_config w None = refl
  packet_config w (Some p) = go p.to
    where
      go : (to : Address) → (deliver_to w p to).1.config ≡ w.config
      go (AtNode id) = node_config w id (handle w.config p) (node_at w id)
      go (AtClient client) = refl

  happens_config : (w : WorldState Args Row Reply) (event : Event Args) → (happens m w event).1.config ≡ w.config
  happens_config w (At me act) = node_config w me (deed_of m w.config act) (node_at w me)
  happens_config w (Deliver number) = packet_config w (slice_get w.packets number)

  step_config : (w : WorldState Args Row Reply) (event : Event Args) (outcome : Outcome) (after : WorldState Args Row Reply) → SettledStep m w event outcome after → after.config ≡ w.config
  step_config w event outcome after (inl e) = ap (λ (y : Outcome × WorldState Args Row Reply). y.1.config) e ∙ happens_config w event
  step_config w event outcome after (inr e) = ap (λ (v : WorldState Args Row Reply). v.config) e.3

  -- what is reached from a world that is reached
  pub reached_by : (w : WorldState Args Row Reply) → IsReached m w → (events : List (Event Args)) (outcomes : List Outcome) (after : WorldState Args Row Reply) → SettledLeads m w events outcomes after → IsReached m after
  reached_by w reached [] [] after e = subst (IsReached m) (sym e) reached
  reached_by w reached [] (outcome ∷ outcomes) after e = absurd e
  reached_by w reached (event ∷ events) [] after e = absurd e
  reached_by w reached (event ∷ events) (outcome ∷ outcomes) after (next, step, rest) =
      reached_by next (reached_on m w reached event outcome next (step_config w event outcome next step) step) events outcomes after rest

  pub led_on : (initial : WorldState Args Row Reply) (events : List (Event Args)) (i : ℕ) (event : Event Args) → i < length events → event ≡ get_or events i event → (outcomes : List Outcome) (w : WorldState Args Row Reply) → SettledLeads m initial (take i events) outcomes w
      → (outcome told : Outcome) (after : WorldState Args Row Reply) → SettledStep m w event outcome after → told ≡ outcome → (all : List Outcome) → all ≡ outcomes ++ told ∷ [] → SettledLeads m initial (take (i + 1) events) all after
  led_on initial events i event within read outcomes w led outcome told after step same all pushed =
      let one_more : take i events ++ event ∷ [] ≡ take (i + 1) events = ap (λ (e : Event Args). take i events ++ e ∷ []) read ∙ sym (take_more events i event within) in
      subst (λ (y : List (Event Args) × List Outcome). SettledLeads m initial y.0 y.1 after)
      (λ k. (one_more k, (ap (λ (o : Outcome). outcomes ++ o ∷ []) (sym same) ∙ sym pushed) k))
      (leads_on m initial (take i events) outcomes w event outcome after led step)

  -- what is promised of a world that is reached
  module _ (law : WritesWithin m) (w : WorldState Args Row Reply) (reached : IsReached m w) where
    was : (v : WorldState Args Row Reply) × Leads m (opening w.config) reached.0 reached.1 v × (w ≡ settled_world v)
    was = settled_leads m w.config reached.0 reached.1 w reached.2

    pub reached_agrees : (v : WorldState Args Row Reply) × Agrees v × (w ≡ settled_world v)
    reached_agrees = (was.0, all_nodes_agree m law w.config reached.0 reached.1 was.0 was.1, was.2)

    pub reached_serial : IsSerial m w
    reached_serial = subst (IsSerial m) (sym was.2) (serial_settled m was.0 (all_replicas_serial m law w.config reached.0 reached.1 was.0 was.1))

    pub reached_points : PointsAreSerial m w
    reached_points = subst (PointsAreSerial m) (sym was.2) (points_settled m was.0 (all_points_serial m law w.config reached.0 reached.1 was.0 was.1))

    pub reached_alike : StandAlike w
    reached_alike = subst StandAlike (sym was.2) (alike_settled was.0 (all_stand_alike m law w.config reached.0 reached.1 was.0 was.1))
