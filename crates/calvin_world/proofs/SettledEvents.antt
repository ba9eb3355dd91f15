-- What an event makes of a settled world is what it makes of the world, settled; so is what a list of events makes of it.
--     NonePastIn w      in no node anything is admitted past the last place
--     settled_is_there      a node of a settled world is one of the world, settled
--     opening_settled      the opening is settled
--     step_none, was_step      one event, in a world in code and in the definitions
--     settled_leads, settled_later, leads_settled      a list of events from the opening, and one after it, in a world in code and in the definitions
use Rattle.std.proofs.Common.{◌≡◌, ℕ, ◌*◌, ◌/◌, ◌%◌, inl, inr, Bool, true, false, cond, ◌&&◌, List, [], ◌∷◌, ◌++◌, map, Option, Some, None, refl, sym, ap, subst, ◌∙◌}
use Rattle.std.proofs.lemmas.Option.{none-some, slice_get-map}
use Rattle.std.specs.Prelude.{slice_get, nat_lt}
use Rattle.std.specs.List.{range_with_len}
use Rattle.std.specs.Option.{option_map}
use Rattle.std.specs.FinMap.{get-empty}
use Rattle.calvin_types.specs.declared.fault.Fault.TheVariants.{NoNode, NoPacket, NotMine}
use Rattle.calvin_types.specs.declared.place.NodeId.{NodeId}
use Rattle.calvin_types.specs.Deeds.{Refuses, Does}
use Rattle.calvin_types.specs.Places.{place_cmp}
use Rattle.calvin_app.specs.Meaning.{Meaning}
use Rattle.calvin_order.specs.Configs.{Config}
use Rattle.calvin_bench.proofs.Lists.{set_each, set_map, map_twice, was_map}
use Rattle.calvin_node_acts.specs.NodeStates.{NodeState, new_node}
use Rattle.calvin_node_acts.specs.Handling.{NodeDeed, handle}
use Rattle.calvin_node_acts.specs.Acting.{deed_of}
use Rattle.calvin_node_acts.specs.Growing.{act_grows, content_grows}
use Rattle.calvin_node_acts.specs.Running.{settled}
use Rattle.calvin_node_packets.specs.declared.packet.Address.{Address}
use Rattle.calvin_node_packets.specs.declared.packet.Address.TheVariants.{AtNode, AtClient}
use Rattle.calvin_node_packets.specs.declared.packet.Content.{Content}
use Rattle.calvin_node_packets.specs.declared.packet.Packet.{Packet}
use Rattle.calvin_world.specs.declared.event.Event.{Event}
use Rattle.calvin_world.specs.declared.event.Event.TheVariants.{At, Deliver}
use Rattle.calvin_world.specs.declared.event.Outcome.{Outcome}
use Rattle.calvin_world.specs.declared.event.Outcome.TheVariants.{Done, Refused}
use Rattle.calvin_world.specs.Worlds.{WorldState, TakesEffect, index_of, opening, node_at, carry_out, at_node, deliver_to, deliver, grows_at, grows_to, grows_by, grows, happens, Step, Leads}
use Rattle.calvin_world.specs.SettledWorlds.{settled_world, settles, SettledStep, SettledLeads}
use Rattle.calvin_world.proofs.NonePast.{NonePast, acts_none, handled_none}
use Rattle.calvin_world.proofs.SettledNodes.{settled_twice, settled_deed, acts_same, handled_same, act_grows_same, content_grows_same}

module _ {Args Row Reply : Type 0} where
  -- in no node anything is admitted past the last place
  abbrev pub NonePastIn : WorldState Args Row Reply → Type 0
  NonePastIn w = (i : ℕ) (x : NodeState Args Row) → slice_get w.nodes i ≡ Some x → NonePast x.scheduler

  -- how an event ends, and the world after it, settled
  abbrev pub ending : Outcome × WorldState Args Row Reply → Outcome × WorldState Args Row Reply
  ending e = (e.0, settled_world e.1)

  pub world_twice : (w : WorldState Args Row Reply) → settled_world (settled_world w) ≡ settled_world w
  world_twice w = λ i. record w { nodes = map_twice settled settled settled w.nodes (λ k x there. settled_twice x) i }

  -- a node that is there, where it stands in the list
  pub node_is_there : (w : WorldState Args Row Reply) (me : NodeId) (x : NodeState Args Row) → node_at w me ≡ Some x → slice_get w.nodes (index_of w.config.partitions me) ≡ Some x
  node_is_there w me x e = go (nat_lt me.replica w.config.replicas && nat_lt me.partition w.config.partitions) e
    where
      go : (b : Bool) → cond b (slice_get w.nodes (index_of w.config.partitions me)) None ≡ Some x → slice_get w.nodes (index_of w.config.partitions me) ≡ Some x
      go true e = e
      go false e = absurd (none-some x e)

  settled_there : (w : WorldState Args Row Reply) (me : NodeId) → node_at (settled_world w) me ≡ option_map settled (node_at w me)
  settled_there w me = go (nat_lt me.replica w.config.replicas && nat_lt me.partition w.config.partitions)
    where
      go : (b : Bool) → cond b (slice_get (map settled w.nodes) (index_of w.config.partitions me)) None ≡ option_map settled (cond b (slice_get w.nodes (index_of w.config.partitions me)) None)
      go true = slice_get-map settled w.nodes (index_of w.config.partitions me)
      go false = refl

  -- a node of a settled world is one of the world, settled
  pub settled_is_there : (w : WorldState Args Row Reply) (i : ℕ) (y : NodeState Args Row) → slice_get (settled_world w).nodes i ≡ Some y → (x : NodeState Args Row) × (slice_get w.nodes i ≡ Some x) × (settled x ≡ y)
  settled_is_there w i y there = was_map settled w.nodes i y there

  -- ---- deeds

  -- a deed that is carried out, settled, is the settled one, carried out in the settled world
  pub carried : (w : WorldState Args Row Reply) (me : NodeId) (d : NodeDeed Args Row Reply) → ending (carry_out w me d) ≡ carry_out (settled_world w) me (settled_deed d)
  carried w me (Refuses f) = refl
  carried w me (Does next sent) = λ i. (Done, record w { nodes = set_map settled w.nodes (index_of w.config.partitions me) next i; packets = w.packets ++ sent })

  carried_same : (w : WorldState Args Row Reply) (me : NodeId) (a b : NodeDeed Args Row Reply) → settled_deed a ≡ settled_deed b → ending (carry_out (settled_world w) me a) ≡ ending (carry_out w me b)
  carried_same w me a b same = carried (settled_world w) me a ∙ (λ i. carry_out (world_twice w i) me (same i)) ∙ sym (carried w me b)

  at_node_same : (w : WorldState Args Row Reply) (me : NodeId) (act : NodeState Args Row → NodeDeed Args Row Reply) → ((x : NodeState Args Row) → node_at w me ≡ Some x → settled_deed (act (settled x)) ≡ settled_deed (act x))
      → ending (at_node (settled_world w) me act (node_at (settled_world w) me)) ≡ ending (at_node w me act (node_at w me))
  at_node_same w me act same = ap (λ o. ending (at_node (settled_world w) me act o)) (settled_there w me) ∙ go (node_at w me) refl
    where
      go : (o : Option (NodeState Args Row)) → node_at w me ≡ o → ending (at_node (settled_world w) me act (option_map settled o)) ≡ ending (at_node w me act o)
      go None is = λ i. (Refused NoNode, world_twice w i)
      go (Some x) is = carried_same w me (act (settled x)) (act x) (same x is)

  -- ---- events

  address_same : (w : WorldState Args Row Reply) (p : Packet Args Row Reply) (to : Address) → ending (deliver_to (settled_world w) p to) ≡ ending (deliver_to w p to)
  address_same w p (AtNode id) = at_node_same w id (handle w.config p) (λ x is. handled_same Reply w.config x p)
  address_same w p (AtClient client) = λ i. (Refused NotMine, world_twice w i)

  delivered_same : (w : WorldState Args Row Reply) (o : Option (Packet Args Row Reply)) → ending (deliver (settled_world w) o) ≡ ending (deliver w o)
  delivered_same w None = λ i. (Refused NoPacket, world_twice w i)
  delivered_same w (Some p) = address_same w p p.to

  pub settles_same : (m : Meaning Args Row Reply) (w : WorldState Args Row Reply) → NonePastIn w → (event : Event Args) → settles m (settled_world w) event ≡ settles m w event
  settles_same m w none (At me act) = at_node_same w me (deed_of m w.config act) (λ x is. acts_same Reply w.config x m (none (index_of w.config.partitions me) x (node_is_there w me x is)) act)
  settles_same m w none (Deliver number) = delivered_same w (slice_get w.packets number)

  pub grows_same : (w : WorldState Args Row Reply) (event : Event Args) → grows (settled_world w) event ≡ grows w event
  grows_same w (At me act) = ap (grows_at (act_grows w.config act)) (settled_there w me) ∙ go (node_at w me)
    where
      go : (o : Option (NodeState Args Row)) → grows_at (act_grows w.config act) (option_map settled o) ≡ grows_at (act_grows w.config act) o
      go None = refl
      go (Some x) = act_grows_same w.config x act
  grows_same w (Deliver number) = by_packet (slice_get w.packets number)
    where
      by_node : (content : Content Args Row Reply) (o : Option (NodeState Args Row)) → grows_at (content_grows w.config content) (option_map settled o) ≡ grows_at (content_grows w.config content) o
      by_node content None = refl
      by_node content (Some x) = content_grows_same w.config x content

      by_address : (p : Packet Args Row Reply) (to : Address) → grows_to (settled_world w) p to ≡ grows_to w p to
      by_address p (AtNode id) = ap (grows_at (content_grows w.config p.content)) (settled_there w id) ∙ by_node p.content (node_at w id)
      by_address p (AtClient client) = refl

      by_packet : (o : Option (Packet Args Row Reply)) → grows_by (settled_world w) o ≡ grows_by w o
      by_packet None = refl
      by_packet (Some p) = by_address p p.to

  -- ---- nothing is admitted past the last place

  at_node_none : (w : WorldState Args Row Reply) → NonePastIn w → (me : NodeId) (act : NodeState Args Row → NodeDeed Args Row Reply)
      → ((x next : NodeState Args Row) (sent : List (Packet Args Row Reply)) → NonePast x.scheduler → act x ≡ Does next sent → NonePast next.scheduler) → NonePastIn (at_node w me act (node_at w me)).1
  at_node_none w none me act keeps = by_node (node_at w me) refl
    where
      by_deed : (x : NodeState Args Row) → NonePast x.scheduler → (d : NodeDeed Args Row Reply) → act x ≡ d → NonePastIn (carry_out w me d).1
      by_deed x past (Refuses f) is = none
      by_deed x past (Does next sent) is = set_each (λ i (y : NodeState Args Row). NonePast y.scheduler) w.nodes (index_of w.config.partitions me) next (keeps x next sent past is) none

      by_node : (o : Option (NodeState Args Row)) → node_at w me ≡ o → NonePastIn (at_node w me act o).1
      by_node None is = none
      by_node (Some x) is = by_deed x (none (index_of w.config.partitions me) x (node_is_there w me x is)) (act x) refl

  -- ---- at the opening

  pub opening_settled : (c : Config) → settled_world (opening {Args = Args} {Row = Row} {Reply = Reply} c) ≡ opening c
  opening_settled c = λ k. record (opening c) { nodes = map_twice (λ i. new_node {Args = Args} {Row = Row} (record { replica = i / c.partitions; partition = i % c.partitions })) settled (λ i. new_node {Args = Args} {Row = Row} (record { replica = i / c.partitions; partition = i % c.partitions })) (range_with_len 0 (c.replicas * c.partitions)) (λ i n there. refl) k }

module _ {Args Row Reply : Type 0} (m : Meaning Args Row Reply) where
  delivered_none : (w : WorldState Args Row Reply) → NonePastIn w → (o : Option (Packet Args Row Reply)) → NonePastIn (deliver w o).1
  delivered_none w none None = none
  delivered_none w none (Some p) = go p.to
    where
      go : (to : Address) → NonePastIn (deliver_to w p to).1
      go (AtNode id) = at_node_none w none id (handle w.config p) (λ x next sent past e. handled_none m w.config x next sent past p e)
      go (AtClient client) = none

  happens_none : (w : WorldState Args Row Reply) → NonePastIn w → (event : Event Args) → NonePastIn (happens m w event).1
  happens_none w none (At me act) = at_node_none w none me (deed_of m w.config act) (λ x next sent past e. acts_none m w.config x next sent past act e)
  happens_none w none (Deliver number) = delivered_none w none (slice_get w.packets number)

  pub opening_none : (c : Config) → NonePastIn (opening {Args = Args} {Row = Row} {Reply = Reply} c)
  opening_none c i x there =
      let was = was_map (λ i. new_node {Args = Args} {Row = Row} (record { replica = i / c.partitions; partition = i % c.partitions })) (range_with_len 0 (c.replicas * c.partitions)) i x there in
      subst (λ (x : NodeState Args Row). NonePast x.scheduler) was.2 (λ q turn at. absurd (none-some turn (sym (get-empty place_cmp q) ∙ at)))

  -- ---- lists of events

  pub step_none : (w : WorldState Args Row Reply) → NonePastIn w → (event : Event Args) (outcome : Outcome) (next : WorldState Args Row Reply) → Step m w event outcome next → NonePastIn next
  step_none w none event outcome next (inl e) = subst NonePastIn (sym (ap (λ (y : Outcome × WorldState Args Row Reply). y.1) e)) (happens_none w none event)
  step_none w none event outcome next (inr e) = subst NonePastIn (sym e.3) none

  -- a step of the settled world is one of the world
  pub was_step : (w v : WorldState Args Row Reply) → NonePastIn w → v ≡ settled_world w → (event : Event Args) (outcome : Outcome) (next : WorldState Args Row Reply) → SettledStep m v event outcome next
      → (then : WorldState Args Row Reply) × Step m w event outcome then × (next ≡ settled_world then)
  was_step w v none is event outcome next (inl e) =
      let same : (outcome, next) ≡ settles m w event = e ∙ ap (λ v. settles m v event) is ∙ settles_same m w none event in
      ((happens m w event).1, inl (λ i. ((same i).0, (happens m w event).1)), ap (λ (y : Outcome × WorldState Args Row Reply). y.1) same)
  was_step w v none is event outcome next (inr (takes, more, wanting, still)) =
      let ends : (happens m v event).0 ≡ (happens m w event).0 = ap (λ (y : Outcome × WorldState Args Row Reply). y.0) (ap (λ v. settles m v event) is ∙ settles_same m w none event) in
      (w, inr (subst TakesEffect ends takes, sym (ap (λ v. grows v event) is ∙ grows_same w event) ∙ more, wanting, refl), still ∙ is)

  was_leads : (w v : WorldState Args Row Reply) → NonePastIn w → v ≡ settled_world w → (events : List (Event Args)) (outcomes : List Outcome) (new : WorldState Args Row Reply) → SettledLeads m v events outcomes new
      → (then : WorldState Args Row Reply) × Leads m w events outcomes then × (new ≡ settled_world then)
  was_leads w v none is [] [] new e = (w, refl, e ∙ is)
  was_leads w v none is [] (outcome ∷ outcomes) new e = absurd e
  was_leads w v none is (event ∷ events) [] new e = absurd e
  was_leads w v none is (event ∷ events) (outcome ∷ outcomes) new (next, step, rest) =
      let first = was_step w v none is event outcome next step in
      let more = was_leads first.0 next (step_none w none event outcome first.0 first.1) first.2 events outcomes new rest in
      (more.0, (first.0, first.1, more.1), more.2)

  pub leads_none : (w : WorldState Args Row Reply) → NonePastIn w → (events : List (Event Args)) (outcomes : List Outcome) (new : WorldState Args Row Reply) → Leads m w events outcomes new → NonePastIn new
  leads_none w none [] [] new e = subst NonePastIn (sym e) none
  leads_none w none [] (outcome ∷ outcomes) new e = absurd e
  leads_none w none (event ∷ events) [] new e = absurd e
  leads_none w none (event ∷ events) (outcome ∷ outcomes) new (next, step, rest) = leads_none next (step_none w none event outcome next step) events outcomes new rest

  pub settled_leads : (c : Config) (events : List (Event Args)) (outcomes : List Outcome) (v : WorldState Args Row Reply) → SettledLeads m (opening c) events outcomes v
      → (w : WorldState Args Row Reply) × Leads m (opening c) events outcomes w × (v ≡ settled_world w)
  settled_leads c = was_leads (opening c) (opening c) (opening_none c) (sym (opening_settled c))

  -- and on from there
  pub settled_later : (c : Config) (earlier : List (Event Args)) (outcomes : List Outcome) (w : WorldState Args Row Reply) → Leads m (opening c) earlier outcomes w
      → (later : List (Event Args)) (more : List Outcome) (v : WorldState Args Row Reply) → SettledLeads m (settled_world w) later more v
      → (x : WorldState Args Row Reply) × Leads m w later more x × (v ≡ settled_world x)
  settled_later c earlier outcomes w leads = was_leads w (settled_world w) (leads_none (opening c) (opening_none c) earlier outcomes w leads) refl

  pub settled_next : (c : Config) (earlier : List (Event Args)) (outcomes : List Outcome) (w : WorldState Args Row Reply) → Leads m (opening c) earlier outcomes w
      → (event : Event Args) (outcome : Outcome) (v : WorldState Args Row Reply) → SettledStep m (settled_world w) event outcome v → (x : WorldState Args Row Reply) × Step m w event outcome x × (v ≡ settled_world x)
  settled_next c earlier outcomes w leads event outcome v step = was_step w (settled_world w) (leads_none (opening c) (opening_none c) earlier outcomes w leads) refl event outcome v step

  -- a step of the world is one of the settled world
  is_step : (w : WorldState Args Row Reply) → NonePastIn w → (event : Event Args) (outcome : Outcome) (next : WorldState Args Row Reply) → Step m w event outcome next → SettledStep m (settled_world w) event outcome (settled_world next)
  is_step w none event outcome next (inl e) = inl ((λ i. ending (e i)) ∙ sym (settles_same m w none event))
  is_step w none event outcome next (inr (takes, more, wanting, still)) =
      let ends : (happens m (settled_world w) event).0 ≡ (happens m w event).0 = ap (λ (y : Outcome × WorldState Args Row Reply). y.0) (settles_same m w none event) in
      inr (subst TakesEffect (sym ends) takes, grows_same w event ∙ more, wanting, ap settled_world still)

  is_leads : (w : WorldState Args Row Reply) → NonePastIn w → (events : List (Event Args)) (outcomes : List Outcome) (new : WorldState Args Row Reply) → Leads m w events outcomes new → SettledLeads m (settled_world w) events outcomes (settled_world new)
  is_leads w none [] [] new e = ap settled_world e
  is_leads w none [] (outcome ∷ outcomes) new e = absurd e
  is_leads w none (event ∷ events) [] new e = absurd e
  is_leads w none (event ∷ events) (outcome ∷ outcomes) new (next, step, rest) =
      (settled_world next, is_step w none event outcome next step, is_leads next (step_none w none event outcome next step) events outcomes new rest)

  pub leads_settled : (c : Config) (events : List (Event Args)) (outcomes : List Outcome) (w : WorldState Args Row Reply) → Leads m (opening c) events outcomes w → SettledLeads m (opening c) events outcomes (settled_world w)
  leads_settled c events outcomes w leads = subst (λ v. SettledLeads m v events outcomes (settled_world w)) (opening_settled c) (is_leads (opening c) (opening_none c) events outcomes w leads)
