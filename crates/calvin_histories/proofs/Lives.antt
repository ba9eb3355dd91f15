-- Each node of a world is what its own part of the events makes of it, and has sent what that part sends.
--     its_life v i x      the life of the node at a place
--     lived      a list of events that leads on from a world that is reached makes of each node's life what the node's part of it makes
--     lived_all      the same from the opening
--     life_more      a history that goes on by one entry
--     index_is, apart_index      where a node stands in the list of nodes
use Rattle.std.proofs.Common.{◌≡◌, ◌≢◌, ℕ, zero, suc, ◌+◌, ◌*◌, ◌/◌, ◌%◌, ◌<◌, Bool, true, false, cond, ◌&&◌, List, [], ◌∷◌, ◌++◌, Option, Some, None, inl, inr, refl, sym, ap, subst, ◌∙◌, arith}
use Rattle.std.specs.List.{range_with_len}
use Rattle.std.specs.Prelude.{nat_lt, option_and_then, slice_get, slice_set}
use Rattle.std.proofs.lemmas.Bool.{false≢true, and_parts, ltb-true}
use Rattle.std.proofs.lemmas.Option.{none-some}
use Rattle.std.proofs.lemmas.Nat.{div-add-mod'}
use Rattle.std.proofs.Math.Nat.{mod-lt}
use Rattle.calvin_types.specs.declared.fault.Fault.{Fault}
use Rattle.calvin_types.specs.declared.place.NodeId.{NodeId}
use Rattle.calvin_types.specs.Deeds.{Refuses, Does}
use Rattle.calvin_app.specs.Meaning.{Meaning, WritesWithin}
use Rattle.calvin_order.specs.Configs.{Config}
use Rattle.calvin_bench.proofs.Lists.{get_map, set_here, set_other}
use Rattle.calvin_node_packets.specs.declared.packet.Address.{Address}
use Rattle.calvin_node_packets.specs.declared.packet.Address.TheVariants.{AtNode, AtClient}
use Rattle.calvin_node_packets.specs.declared.packet.Packet.{Packet}
use Rattle.calvin_node_packets.specs.Packets.{same_node}
use Rattle.calvin_node_acts.specs.NodeStates.{NodeState, new_node}
use Rattle.calvin_node_acts.specs.Handling.{NodeDeed, handle}
use Rattle.calvin_node_acts.specs.Acting.{deed_of}
use Rattle.calvin_node_acts.specs.Running.{settled}
use Rattle.calvin_world.specs.declared.event.Event.{Event}
use Rattle.calvin_world.specs.declared.event.Event.TheVariants.{At, Deliver}
use Rattle.calvin_world.specs.declared.event.Outcome.{Outcome}
use Rattle.calvin_world.specs.declared.event.Outcome.TheVariants.{Done, Refused}
use Rattle.calvin_world.specs.Names.{sent_by, name_of}
use Rattle.calvin_world.specs.Promises.{IsNode}
use Rattle.calvin_world.specs.Worlds.{WorldState, index_of, opening, node_at, at_node, carry_out, deliver, deliver_to}
use Rattle.calvin_world.specs.SettledWorlds.{settled_world, settles, SettledStep, SettledLeads}
use Rattle.calvin_world.proofs.Cases.{acts_does, handle_does}
use Rattle.calvin_world.proofs.InCode.{steady, opening_reached, reached_on}
use Rattle.calvin_world.specs.RunningWorlds.{IsReached}
use Rattle.calvin_world.proofs.Indexes.{same_index}
use Rattle.calvin_world.proofs.SettledEvents.{ending}
use Rattle.calvin_world.proofs.SettledLaws.{config_in_code, named_in_code}
use Rattle.calvin_book.specs.Books.{done_each, IsRun}
use Rattle.calvin_histories.specs.declared.entry.Entry.{Entry}
use Rattle.calvin_histories.specs.declared.entry.Entry.TheVariants.{Own, Came}
use Rattle.calvin_histories.specs.Histories.{id_of, Life, new_life, came_to, coming, entry_of, of_node, lives_on, part_at, deed_in, life_of}
use Rattle.calvin_histories.proofs.Sent.{same_node_self, same_node_is, AllFrom, acts_from, handles_from, sent_more_here, sent_more_elsewhere}

some_is : {X : Type 0} {x y : X} → Some x ≡ Some y → x ≡ y
some_is e = cc

range_at : (a n i : ℕ) → i < n → slice_get (range_with_len a n) i ≡ Some (a + i)
range_at a zero i less = absurd (omega (arith, less))
range_at a (suc n) zero less = ap Some (omega arith)
range_at a (suc n) (suc i) less = range_at (a + 1) n i (omega (arith, less)) ∙ ap Some (omega arith)

-- ---- where nodes stand

pub index_is : (parts i : ℕ) → index_of parts (id_of parts i) ≡ i
index_is parts i = div-add-mod' i parts

-- another name stands at another place, where both are names of nodes that are there
pub apart_index : (parts i : ℕ) (me : NodeId) → 0 < parts → me.partition < parts → same_node me (id_of parts i) ≡ false → i ≢ index_of parts me
apart_index parts i me some within apart e =
    let same = same_index parts me (id_of parts i) within (mod-lt i some) (sym e ∙ sym (index_is parts i)) in
    false≢true (sym apart ∙ ap (λ a. same_node a (id_of parts i)) same ∙ same_node_self (id_of parts i))

pub refused_not_done : {f : Fault} → Done ≡ Refused f → ⊥
refused_not_done e = cc

module _ {Args Row Reply : Type 0} where
  -- the life of the node at a place
  abbrev pub its_life : WorldState Args Row Reply → ℕ → NodeState Args Row → Life Args Row Reply
  its_life v i x = record { state = x; sent = sent_by (id_of v.config.partitions i) v.packets }

  -- one node changes, and packets are sent; each is settled
  abbrev pub after : WorldState Args Row Reply → NodeId → NodeState Args Row → List (Packet Args Row Reply) → WorldState Args Row Reply
  after v me n packets = settled_world (record v { nodes = slice_set v.nodes (index_of v.config.partitions me) n; packets = v.packets ++ packets })

  -- what a deed that took effect left
  pub record Did (v : WorldState Args Row Reply) (me : NodeId) (act : NodeState Args Row → NodeDeed Args Row Reply) (next : WorldState Args Row Reply) : Type 0 where
    pub state : NodeState Args Row
    pub left : NodeState Args Row
    pub sent : List (Packet Args Row Reply)
    pub there : node_at v me ≡ Some state
    pub does : act state ≡ Does left sent
    pub now : next ≡ after v me left sent

  pub did : (v : WorldState Args Row Reply) (me : NodeId) (act : NodeState Args Row → NodeDeed Args Row Reply) (next : WorldState Args Row Reply) → (Done, next) ≡ ending (at_node v me act (node_at v me)) → Did v me act next
  did v me act next takes = by_node (node_at v me) refl takes
    where
      by_deed : (x : NodeState Args Row) → node_at v me ≡ Some x → (d : NodeDeed Args Row Reply) → act x ≡ d → (Done, next) ≡ ending (carry_out v me d) → Did v me act next
      by_deed x there (Refuses f) is e = absurd (refused_not_done (ap (λ (y : Outcome × WorldState Args Row Reply). y.0) e))
      by_deed x there (Does left sent) is e = record { state = x; left = left; sent = sent; there = there; does = is; now = ap (λ (y : Outcome × WorldState Args Row Reply). y.1) e }

      by_node : (o : Option (NodeState Args Row)) → node_at v me ≡ o → (Done, next) ≡ ending (at_node v me act o) → Did v me act next
      by_node None there e = absurd (refused_not_done (ap (λ (y : Outcome × WorldState Args Row Reply). y.0) e))
      by_node (Some x) there e = by_deed x there (act x) refl e

  pub record DidDeliver (v : WorldState Args Row Reply) (number : ℕ) (next : WorldState Args Row Reply) : Type 0 where
    pub packet : Packet Args Row Reply
    pub id : NodeId
    pub was_sent : slice_get v.packets number ≡ Some packet
    pub is_to : packet.to ≡ AtNode id
    pub did : Did v id (handle v.config packet) next

  pub did_deliver : (v : WorldState Args Row Reply) (number : ℕ) (next : WorldState Args Row Reply) → (Done, next) ≡ ending (deliver v (slice_get v.packets number)) → DidDeliver v number next
  did_deliver v number next takes = by_packet (slice_get v.packets number) refl takes
    where
      by_address : (p : Packet Args Row Reply) → slice_get v.packets number ≡ Some p → (to : Address) → p.to ≡ to → (Done, next) ≡ ending (deliver_to v p to) → DidDeliver v number next
      by_address p there (AtNode id) to e = record { packet = p; id = id; was_sent = there; is_to = to; did = did v id (handle v.config p) next e }
      by_address p there (AtClient client) to e = absurd (refused_not_done (ap (λ (y : Outcome × WorldState Args Row Reply). y.0) e))

      by_packet : (o : Option (Packet Args Row Reply)) → slice_get v.packets number ≡ o → (Done, next) ≡ ending (deliver v o) → DidDeliver v number next
      by_packet None there e = absurd (refused_not_done (ap (λ (y : Outcome × WorldState Args Row Reply). y.0) e))
      by_packet (Some p) there e = by_address p there p.to refl e

  -- a name at which a node is found is one of a node that is there
  pub in_range : (v : WorldState Args Row Reply) (me : NodeId) (x : NodeState Args Row) → node_at v me ≡ Some x → IsNode v me x
  in_range v me x e = go (nat_lt me.replica v.config.replicas && nat_lt me.partition v.config.partitions) refl e
    where
      go : (b : Bool) → (nat_lt me.replica v.config.replicas && nat_lt me.partition v.config.partitions) ≡ b → cond b (slice_get v.nodes (index_of v.config.partitions me)) None ≡ Some x → IsNode v me x
      go true within e = let both = and_parts (nat_lt me.replica v.config.replicas) (nat_lt me.partition v.config.partitions) within in record { replica = ltb-true me.replica v.config.replicas both.0; partition = ltb-true me.partition v.config.partitions both.1; there = e }
      go false within e = absurd (none-some x e)

module _ {Args Row Reply : Type 0} (m : Meaning Args Row Reply) where
  -- ---- one entry

  -- the node at a place, after a deed of a node, and what its life goes on with
  pub record GoesOn (v : WorldState Args Row Reply) (seen : Option (NodeId × Entry Args Row Reply)) (next : WorldState Args Row Reply) (i : ℕ) (y : NodeState Args Row) : Type 0 where
    pub now : NodeState Args Row
    pub there : slice_get next.nodes i ≡ Some now
    pub life : (rest : List (Entry Args Row Reply)) → life_of m v.config (its_life v i y) (of_node (id_of v.config.partitions i) seen ++ rest) ≡ life_of m v.config (its_life next i now) rest

  module _ (v : WorldState Args Row Reply) (steady : settled_world v ≡ v) (me : NodeId) (entry : Entry Args Row Reply) (x left : NodeState Args Row) (sent : List (Packet Args Row Reply)) (is : IsNode v me x) (named : x.id ≡ me) (does : deed_in m v.config entry x ≡ Does left sent) (from : AllFrom x.id sent)
      (i : ℕ) (y : NodeState Args Row) (there : slice_get v.nodes i ≡ Some y) where
    abbrev parts : ℕ
    parts = v.config.partitions

    from_me : AllFrom me sent
    from_me = subst (λ id. AllFrom id sent) named from

    goes_on_here : same_node me (id_of parts i) ≡ true → GoesOn v (Some (me, entry)) (after v me left sent) i y
    goes_on_here same =
        let name : me ≡ id_of parts i = same_node_is me (id_of parts i) same in
        let at : index_of parts me ≡ i = ap (index_of parts) name ∙ index_is parts i in
        let it : x ≡ y = some_same (sym (ap (slice_get v.nodes) (sym at) ∙ is.there) ∙ there) in
        let set : slice_get (slice_set v.nodes (index_of parts me) left) i ≡ Some left = ap (slice_get (slice_set v.nodes (index_of parts me) left)) (sym at) ∙ set_here v.nodes (index_of parts me) left x is.there in
        record {
          now = settled left;
          there = get_map settled (slice_set v.nodes (index_of parts me) left) i left set;
          life = λ rest.
              (λ k. life_of m v.config (its_life v i y) (cond (same k) (entry ∷ []) [] ++ rest))
              ∙ (λ k. option_and_then (λ next. life_of m v.config next rest) (lives_on (its_life v i y) ((ap (deed_in m v.config entry) (sym it) ∙ does) k)))
              ∙ (λ k. life_of m v.config (record { state = settled left; sent = sym (sent_more_here (id_of parts i) v.packets sent (subst (λ id. AllFrom id sent) name from_me)) k }) rest);
        }
      where
        some_same : {a b : NodeState Args Row} → Some a ≡ Some b → a ≡ b
        some_same e = cc

    goes_on_elsewhere : 0 < parts → same_node me (id_of parts i) ≡ false → GoesOn v (Some (me, entry)) (after v me left sent) i y
    goes_on_elsewhere some other =
        let apart : i ≢ index_of parts me = apart_index parts i me some is.partition other in
        let old : slice_get (slice_set v.nodes (index_of parts me) left) i ≡ Some y = set_other v.nodes (index_of parts me) i left apart ∙ there in
        let still : settled y ≡ y = some_same (sym (get_map settled v.nodes i y there) ∙ ap (λ (w : WorldState Args Row Reply). slice_get w.nodes i) steady ∙ there) in
        record {
          now = y;
          there = get_map settled (slice_set v.nodes (index_of parts me) left) i y old ∙ ap Some still;
          life = λ rest.
              (λ k. life_of m v.config (its_life v i y) (cond (other k) (entry ∷ []) [] ++ rest))
              ∙ (λ k. life_of m v.config (record { state = y; sent = sym (sent_more_elsewhere me (id_of parts i) other v.packets sent from_me) k }) rest);
        }
      where
        some_same : {a b : NodeState Args Row} → Some a ≡ Some b → a ≡ b
        some_same e = cc

    goes_on : GoesOn v (Some (me, entry)) (after v me left sent) i y
    goes_on = go (same_node me (id_of parts i)) refl
      where
        go : (b : Bool) → same_node me (id_of parts i) ≡ b → GoesOn v (Some (me, entry)) (after v me left sent) i y
        go true e = goes_on_here e
        go false e = goes_on_elsewhere (let p = is.partition in omega (arith, p)) e

  -- ---- one event

  module _ (law : WritesWithin m) (v : WorldState Args Row Reply) (reached : IsReached m v) (i : ℕ) (y : NodeState Args Row) (there : slice_get v.nodes i ≡ Some y) where
    named : (me : NodeId) (x : NodeState Args Row) → IsNode v me x → x.id ≡ me
    named = named_in_code m law v.config reached.0 reached.1 v reached.2

    by_did : (me : NodeId) (entry : Entry Args Row Reply) (act : NodeState Args Row → NodeDeed Args Row Reply) → act ≡ deed_in m v.config entry → ((x left : NodeState Args Row) (sent : List (Packet Args Row Reply)) → act x ≡ Does left sent → AllFrom x.id sent)
        → (next : WorldState Args Row Reply) → Did v me act next → GoesOn v (Some (me, entry)) next i y
    by_did me entry act same from next d =
        let is = in_range v me d.state d.there in
        subst (λ w. GoesOn v (Some (me, entry)) w i y) (sym d.now)
        (goes_on v (steady m v reached) me entry d.state d.left d.sent is (named me d.state is) (ap (λ (f : NodeState Args Row → NodeDeed Args Row Reply). f d.state) (sym same) ∙ d.does) (from d.state d.left d.sent d.does) i y there)

    pub event_goes_on : (event : Event Args) (next : WorldState Args Row Reply) → (Done, next) ≡ settles m v event → GoesOn v (entry_of v event) next i y
    event_goes_on (At me act) next takes = by_did me (Own act) (deed_of m v.config act) refl (λ x left sent does. acts_from m v.config x left sent act (acts_does v.config x left sent m act does)) next (did v me (deed_of m v.config act) next takes)
    event_goes_on (Deliver number) next takes =
        let d = did_deliver v number next takes in
        let p = d.packet in
        subst (λ seen. GoesOn v seen next i y) (sym ((λ k. coming v.packets number (d.was_sent k)) ∙ (λ k. came_to (name_of v.packets number p) p (d.is_to k))))
        (by_did d.id (Came (name_of v.packets number p) p) (handle v.config p) refl (λ x left sent does. handles_from m v.config x left sent p.from p.content (handle_does v.config x left sent m p does)) next d.did)

  -- ---- a list of events

  pub takes_effect : (w : WorldState Args Row Reply) (event : Event Args) (next : WorldState Args Row Reply) → SettledStep m w event Done next → (Done, next) ≡ settles m w event
  takes_effect w event next (inl e) = e
  takes_effect w event next (inr e) = absurd (refused_not_done e.2)

  module _ (law : WritesWithin m) where
    pub lived : (v : WorldState Args Row Reply) → IsReached m v → (events : List (Event Args)) (w : WorldState Args Row Reply) → SettledLeads m v events (done_each events) w → (i : ℕ) (y x : NodeState Args Row) → slice_get v.nodes i ≡ Some y → slice_get w.nodes i ≡ Some x
        → life_of m v.config (its_life v i y) (part_at m v events (id_of v.config.partitions i)) ≡ Some (its_life w i x)
    lived v reached [] w same i y x there here =
        let it : Some y ≡ Some x = sym there ∙ ap (λ (w : WorldState Args Row Reply). slice_get w.nodes i) (sym same) ∙ here in
        let is : y ≡ x = cc in
        λ k. Some (its_life (sym same k) i (is k))
    lived v reached (event ∷ events) w (next, first, rest) i y x there here =
        let takes = takes_effect v event next first in
        let to : next ≡ (settles m v event).1 = ap (λ (z : Outcome × WorldState Args Row Reply). z.1) takes in
        let config : next.config ≡ v.config = same_config v event next takes in
        let on = event_goes_on law v reached i y there event next takes in
        let next_reached = reached_on m v reached event Done next config first in
        on.life (part_at m (settles m v event).1 events (id_of v.config.partitions i))
        ∙ (λ k. life_of m (sym config k) (its_life next i on.now) (part_at m (sym to k) events (id_of (sym config k).partitions i)))
        ∙ lived next next_reached events w rest i on.now x on.there here
      where
        same_config : (v : WorldState Args Row Reply) (event : Event Args) (next : WorldState Args Row Reply) → (Done, next) ≡ settles m v event → next.config ≡ v.config
        same_config v (At me act) next takes = ap (λ (w : WorldState Args Row Reply). w.config) (did v me (deed_of m v.config act) next takes).now
        same_config v (Deliver number) next takes = ap (λ (w : WorldState Args Row Reply). w.config) (did_deliver v number next takes).did.now

    -- from the opening
    pub lived_all : (c : Config) (events : List (Event Args)) (w : WorldState Args Row Reply) → IsRun m c events w → (i : ℕ) (x : NodeState Args Row) → i < c.replicas * c.partitions → slice_get w.nodes i ≡ Some x
        → life_of m c (new_life (id_of c.partitions i)) (part_at m (opening c) events (id_of c.partitions i)) ≡ Some (record { state = x; sent = sent_by (id_of c.partitions i) w.packets })
    lived_all c events w run i x within here =
        lived (opening c) (opening_reached m (opening c) refl) events w run i (new_node (id_of c.partitions i)) x
        (get_map (λ i. new_node (record { replica = i / c.partitions; partition = i % c.partitions })) (range_with_len 0 (c.replicas * c.partitions)) i i (range_at 0 (c.replicas * c.partitions) i within ∙ ap Some (omega arith))) here
        ∙ (λ k. Some (record { state = x; sent = sent_by (id_of (same k).partitions i) w.packets }))
      where
        same : w.config ≡ c
        same = config_in_code m law c events (done_each events) w run

  -- a history that goes on by one entry
  pub life_more : (c : Config) (life : Life Args Row Reply) (entries : List (Entry Args Row Reply)) (entry : Entry Args Row Reply) (now : Life Args Row Reply) → life_of m c life entries ≡ Some now → life_of m c life (entries ++ entry ∷ []) ≡ lives_on now (deed_in m c entry now.state)
  life_more c life [] entry now is = go (lives_on life (deed_in m c entry life.state)) ∙ (λ i. lives_on (same i) (deed_in m c entry (same i).state))
    where
      same : life ≡ now
      same = some_is is

      go : (o : Option (Life Args Row Reply)) → option_and_then (λ next. life_of m c next []) o ≡ o
      go None = refl
      go (Some next) = refl
  life_more c life (e ∷ entries) entry now is = go (lives_on life (deed_in m c e life.state)) is (λ next. life_more c next entries entry now)
    where
      go : (o : Option (Life Args Row Reply)) → option_and_then (λ next. life_of m c next entries) o ≡ Some now → ((next : Life Args Row Reply) → life_of m c next entries ≡ Some now → life_of m c next (entries ++ entry ∷ []) ≡ lives_on now (deed_in m c entry now.state))
          → option_and_then (λ next. life_of m c next (entries ++ entry ∷ [])) o ≡ lives_on now (deed_in m c entry now.state)
      go None is rest = absurd (none-some now is)
      go (Some next) is rest = rest next is
