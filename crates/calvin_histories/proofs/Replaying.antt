-- A list of events happens once more, each event at its node, at which the parts of those before it are.
--     senders_there      who sent packets is a node of the store
--     new_more      one new node more
--     replayed_all      at the end all events happened
--     Replays, replays      the event of a number: it is an entry of a node that is there, which refuses it for memory alone
--     replayed_more      one event more
use Rattle.std.proofs.Common.{◌≡◌, ◌≢◌, ◌⊎◌, ℕ, zero, suc, ◌+◌, ◌<◌, ◌≤◌, true, false, cond, List, [], ◌∷◌, ◌++◌, length, take, Some, None, inl, inr, refl, sym, ap, subst, ◌∙◌, arith}
use Rattle.std.specs.Prelude.{slice_get, slice_set}
use Rattle.std.proofs.lemmas.Bool.{cases_eq}
use Rattle.std.proofs.lemmas.List.{append-nil, append_assoc, take-append-le, take_all, length-set}
use Rattle.std.proofs.lemmas.Option.{none-some, slice_get_within}
use Rattle.calvin_types.specs.declared.fault.Fault.{Fault}
use Rattle.calvin_types.specs.declared.fault.Fault.TheVariants.{OutOfMemory}
use Rattle.calvin_types.specs.declared.place.NodeId.{NodeId}
use Rattle.calvin_types.specs.Deeds.{Refuses, Does}
use Rattle.calvin_app.specs.Meaning.{Meaning, WritesWithin}
use Rattle.calvin_order.specs.Configs.{Config}
use Rattle.calvin_bench.proofs.Lists.{contains_at, get_left, get_none, get_split, set_here, set_other}
use Rattle.calvin_node_packets.specs.Packets.{same_node}
use Rattle.calvin_node_packets.specs.declared.packet.Packet.{Packet}
use Rattle.calvin_node_acts.specs.NodeStates.{NodeState}
use Rattle.calvin_node_acts.specs.Handling.{NodeDeed, handle}
use Rattle.calvin_node_acts.specs.Acting.{deed_of}
use Rattle.calvin_world.specs.declared.event.Event.{Event}
use Rattle.calvin_world.specs.declared.event.Event.TheVariants.{At, Deliver}
use Rattle.calvin_world.specs.declared.event.Outcome.TheVariants.{Done}
use Rattle.calvin_world.specs.Names.{sent_by, name_of}
use Rattle.calvin_world.specs.Promises.{IsNode}
use Rattle.calvin_world.specs.RunningWorlds.{IsReached}
use Rattle.calvin_world.specs.SettledWorlds.{settles, SettledStep, SettledLeads}
use Rattle.calvin_world.specs.Worlds.{WorldState, index_of, opening}
use Rattle.calvin_world.proofs.Cases.{acts_does, handle_does}
use Rattle.calvin_world.proofs.InCode.{index_within, opening_reached, reached_on}
use Rattle.calvin_world.proofs.SettledLaws.{config_in_code, named_in_code}
use Rattle.calvin_book.specs.Books.{Log, done_each, IsRun}
use Rattle.calvin_histories.specs.declared.entry.Entry.{Entry}
use Rattle.calvin_histories.specs.declared.entry.Entry.TheVariants.{Own, Came}
use Rattle.calvin_histories.specs.Histories.{id_of, new_life, came_to, coming, entry_of, of_node, part_at, deed_in, life_of}
use Rattle.calvin_histories.specs.Locked.{Lived, IsNoEntry, lived_at, AreLockedOf}
use Rattle.calvin_histories.specs.Positions.{AreThere}
use Rattle.calvin_histories.proofs.Sent.{same_node_self, AllFrom, acts_from, handles_from}
use Rattle.calvin_histories.proofs.Finding.{named_there}
use Rattle.calvin_histories.proofs.Lives.{Did, did, did_deliver, in_range, takes_effect, lived_all}
use Rattle.calvin_histories.proofs.Assembling.{names_apart, part_more, sent_more, take_next, next_number}

some_is : {X : Type 0} {x y : X} → Some x ≡ Some y → x ≡ y
some_is e = cc

-- the last one of a list, or one before it
last_or_before : {X : Type 0} (xs : List X) (x : X) (i : ℕ) (y : X) → slice_get (xs ++ x ∷ []) i ≡ Some y → (slice_get xs i ≡ Some y) ⊎ ((i ≡ length xs) × (x ≡ y))
last_or_before [] x zero y there = inr (refl, some_is there)
last_or_before [] x (suc i) y there = absurd (none-some y there)
last_or_before (a ∷ xs) x zero y there = inl there
last_or_before (a ∷ xs) x (suc i) y there = elim (last_or_before xs x i y there) [
  | inl before ↦ inl before
  | inr last ↦ inr (ap suc last.0, last.1)
]

module _ {Args Row Reply : Type 0} (m : Meaning Args Row Reply) where
  same_config : (v : WorldState Args Row Reply) (event : Event Args) (next : WorldState Args Row Reply) → (Done, next) ≡ settles m v event → next.config ≡ v.config
  same_config v (At me act) next takes = ap (λ (w : WorldState Args Row Reply). w.config) (did v me (deed_of m v.config act) next takes).now
  same_config v (Deliver number) next takes = ap (λ (w : WorldState Args Row Reply). w.config) (did_deliver v number next takes).did.now

  -- ---- who sent packets

  module _ (law : WritesWithin m) where
    module _ (v : WorldState Args Row Reply) (reached : IsReached m v) (old : AreThere v.config.replicas v.config.partitions v.packets) (next : WorldState Args Row Reply) where
      did_there : (me : NodeId) (act : NodeState Args Row → NodeDeed Args Row Reply) → ((x left : NodeState Args Row) (sent : List (Packet Args Row Reply)) → act x ≡ Does left sent → AllFrom x.id sent) → Did v me act next
          → AreThere v.config.replicas v.config.partitions next.packets
      did_there me act from d number p there = elim (get_split v.packets d.sent number p (ap (λ (w : WorldState Args Row Reply). slice_get w.packets number) (sym d.now) ∙ there)) [
        | inl before ↦ old before.0 p before.1
        | inr sent ↦
            let is = in_range v me d.state d.there in
            let sender : p.from ≡ me = from d.state d.left d.sent d.does p (contains_at d.sent sent.0 p sent.1) ∙ named_in_code m law v.config reached.0 reached.1 v reached.2 me d.state is in
            (subst (λ (id : NodeId). id.replica < v.config.replicas) (sym sender) is.replica, subst (λ (id : NodeId). id.partition < v.config.partitions) (sym sender) is.partition)
      ]

      event_there : (event : Event Args) → (Done, next) ≡ settles m v event → AreThere v.config.replicas v.config.partitions next.packets
      event_there (At me act) takes = did_there me (deed_of m v.config act) (λ x left sent does. acts_from m v.config x left sent act (acts_does v.config x left sent m act does)) (did v me (deed_of m v.config act) next takes)
      event_there (Deliver number) takes =
          let d = did_deliver v number next takes in
          did_there d.id (handle v.config d.packet) (λ x left sent does. handles_from m v.config x left sent d.packet.from d.packet.content (handle_does v.config x left sent m d.packet does)) d.did

    there_on : (v : WorldState Args Row Reply) → IsReached m v → AreThere v.config.replicas v.config.partitions v.packets → (events : List (Event Args)) (w : WorldState Args Row Reply) → SettledLeads m v events (done_each events) w → AreThere v.config.replicas v.config.partitions w.packets
    there_on v reached old [] w same = subst (λ (u : WorldState Args Row Reply). AreThere v.config.replicas v.config.partitions u.packets) (sym same) old
    there_on v reached old (event ∷ events) w (next, first, rest) =
        let takes = takes_effect m v event next first in
        let config = same_config v event next takes in
        subst (λ (c : Config). AreThere c.replicas c.partitions w.packets) config
        (there_on next (reached_on m v reached event Done next config first) (subst (λ (c : Config). AreThere c.replicas c.partitions next.packets) (sym config) (event_there v reached old next event takes)) events w rest)

    pub senders_there : (c : Config) (events : List (Event Args)) (w : WorldState Args Row Reply) → IsRun m c events w → AreThere c.replicas c.partitions w.packets
    senders_there c events w run = there_on (opening c) (opening_reached m (opening c) refl) (λ number p there. absurd (get_none number p there)) events w run

  -- ---- the world before an event

  -- what is sent on the way
  all_sent : (v : WorldState Args Row Reply) (events : List (Event Args)) (w : WorldState Args Row Reply) → SettledLeads m v events (done_each events) w → (more : List (Packet Args Row Reply)) × (w.packets ≡ v.packets ++ more)
  all_sent v [] w same = ([], ap (λ (w : WorldState Args Row Reply). w.packets) same ∙ sym (append-nil v.packets))
  all_sent v (event ∷ events) w (next, first, rest) =
      let here = sent_more m v event next (takes_effect m v event next first) in
      let later = all_sent next events w rest in
      (here.0 ++ later.0, later.1 ∙ ap (λ (ps : List (Packet Args Row Reply)). ps ++ later.0) here.1 ∙ append_assoc v.packets here.0 later.0)

  record Before (u : WorldState Args Row Reply) (events : List (Event Args)) (w : WorldState Args Row Reply) (k : ℕ) (event : Event Args) : Type 0 where
    pub world : WorldState Args Row Reply
    pub run : SettledLeads m u (take k events) (done_each (take k events)) world
    pub next : WorldState Args Row Reply
    pub takes : (Done, next) ≡ settles m world event
    pub sent : (more : List (Packet Args Row Reply)) × (w.packets ≡ world.packets ++ more)

  before : (u : WorldState Args Row Reply) (events : List (Event Args)) (w : WorldState Args Row Reply) → SettledLeads m u events (done_each events) w → (k : ℕ) (event : Event Args) → slice_get events k ≡ Some event → Before u events w k event
  before u [] w run k event at = absurd (none-some event at)
  before u (e ∷ events) w run zero event at =
      let same : e ≡ event = cc in
      record { world = u; run = refl; next = run.0; takes = takes_effect m u event run.0 (subst (λ e. SettledStep m u e Done run.0) same run.1); sent = all_sent u (e ∷ events) w run }
  before u (e ∷ events) w run (suc k) event at =
      let b = before run.0 events w run.2 k event at in
      record { world = b.world; run = (run.0, run.1, b.run); next = b.next; takes = b.takes; sent = b.sent }

  -- ---- what an event that takes effect is

  -- an entry of a node that is there, and what the node does then
  record Happens (v : WorldState Args Row Reply) (event : Event Args) : Type 0 where
    pub id : NodeId
    pub entry : Entry Args Row Reply
    pub is : entry_of v event ≡ Some (id, entry)
    pub state : NodeState Args Row
    pub there : IsNode v id state
    pub left : NodeState Args Row
    pub sent : List (Packet Args Row Reply)
    pub does : deed_in m v.config entry state ≡ Does left sent

  happens : (v : WorldState Args Row Reply) (event : Event Args) (next : WorldState Args Row Reply) → (Done, next) ≡ settles m v event → Happens v event
  happens v (At me act) next takes =
      let d = did v me (deed_of m v.config act) next takes in
      record { id = me; entry = Own act; is = refl; state = d.state; there = in_range v me d.state d.there; left = d.left; sent = d.sent; does = d.does }
  happens v (Deliver number) next takes =
      let d = did_deliver v number next takes in
      let p = d.packet in
      let name = name_of v.packets number p in
      record {
        id = d.id;
        entry = Came name p;
        is = (λ k. coming v.packets number (d.was_sent k)) ∙ (λ k. came_to name p (d.is_to k));
        state = d.did.state;
        there = in_range v d.id d.did.state d.did.there;
        left = d.did.left;
        sent = d.did.sent;
        does = d.did.does;
      }

  -- it is the same in a world in which more was sent
  same_later : (v w : WorldState Args Row Reply) (event : Event Args) (next : WorldState Args Row Reply) → (Done, next) ≡ settles m v event → (more : List (Packet Args Row Reply)) → w.packets ≡ v.packets ++ more → entry_of w event ≡ entry_of v event
  same_later v w (At me act) next takes more is = refl
  same_later v w (Deliver number) next takes more is =
      let d = did_deliver v number next takes in
      let p = d.packet in
      let there : slice_get w.packets number ≡ Some p = ap (λ (ps : List (Packet Args Row Reply)). slice_get ps number) is ∙ get_left v.packets more number p d.was_sent in
      let within = slice_get_within v.packets number p d.was_sent in
      let first : take number w.packets ≡ take number v.packets = ap (λ (ps : List (Packet Args Row Reply)). take number ps) is ∙ take-append-le number v.packets more (omega (arith, within)) in
      (λ k. coming w.packets number (there k)) ∙ (λ k. came_to (record { sender = p.from; number = length (sent_by p.from (first k)) }) p p.to) ∙ (λ k. coming v.packets number (sym d.was_sent k))

  -- ---- the nodes once more

  abbrev pub first_of : Log Args → ℕ → Log Args
  first_of log k = record { config = log.config; events = take k log.events }

  pub new_more : (log : Log Args) (nodes : List (Lived Args Row Reply)) (at : ℕ) → length nodes ≡ at → ((i : ℕ) (n : Lived Args Row Reply) → slice_get nodes i ≡ Some n → n ≡ lived_at m log i) → (new : Lived Args Row Reply) → new ≡ lived_at m log at
      → (after : List (Lived Args Row Reply)) → after ≡ nodes ++ new ∷ [] → (i : ℕ) (n : Lived Args Row Reply) → slice_get after i ≡ Some n → n ≡ lived_at m log i
  new_more log nodes at long each new is after more i n there = elim (last_or_before nodes new i n (ap (λ (ns : List (Lived Args Row Reply)). slice_get ns i) (sym more) ∙ there)) [
    | inl before ↦ each i n before
    | inr last ↦ sym last.1 ∙ is ∙ ap (lived_at m log) (sym long ∙ sym last.0)
  ]

  pub replayed_all : (log : Log Args) (k : ℕ) → length log.events ≤ k → (nodes : List (Lived Args Row Reply)) → AreLockedOf m (first_of log k) nodes → AreLockedOf m log nodes
  replayed_all log k past nodes all = subst (λ (events : List (Event Args)). AreLockedOf m (record { config = log.config; events = events }) nodes) (take_all k log.events past) all

  pub record Replays (log : Log Args) (w : WorldState Args Row Reply) (k : ℕ) (event : Event Args) (id : NodeId) (entry : Entry Args Row Reply) : Type 0 where
    pub replica : id.replica < log.config.replicas
    pub partition : id.partition < log.config.partitions
    pub part : (i : ℕ) → part_at m (opening log.config) (take (k + 1) log.events) (id_of log.config.partitions i) ≡ part_at m (opening log.config) (take k log.events) (id_of log.config.partitions i) ++ of_node (id_of log.config.partitions i) (Some (id, entry))
    pub only : (n : Lived Args Row Reply) → n ≡ lived_at m (first_of log k) (index_of log.config.partitions id) → (fault : Fault) → IsNoEntry m n entry fault → fault ≡ OutOfMemory

  does_not_refuse : {left : NodeState Args Row} {sent : List (Packet Args Row Reply)} {fault : Fault} → ◌≡◌ {A = NodeDeed Args Row Reply} (Does left sent) (Refuses fault) → ⊥
  does_not_refuse e = cc

  module _ (law : WritesWithin m) (log : Log Args) (w : WorldState Args Row Reply) (run : IsRun m log.config log.events w) (k : ℕ) (event : Event Args) (at : slice_get log.events k ≡ Some event) where
    b : Before (opening log.config) log.events w k event
    b = before (opening log.config) log.events w run k event at

    h : Happens b.world event
    h = happens b.world event b.next b.takes

    config : b.world.config ≡ log.config
    config = config_in_code m law log.config (take k log.events) (done_each (take k log.events)) b.world b.run

    seen : entry_of w event ≡ Some (h.id, h.entry)
    seen = same_later b.world w event b.next b.takes b.sent.0 b.sent.1 ∙ h.is

    pub some_entry : entry_of w event ≡ None → ⊥
    some_entry none = none-some (h.id, h.entry) (sym none ∙ seen)

    replica : h.id.replica < log.config.replicas
    replica = subst (λ (c : Config). h.id.replica < c.replicas) config h.there.replica

    partition : h.id.partition < log.config.partitions
    partition = subst (λ (c : Config). h.id.partition < c.partitions) config h.there.partition

    abbrev index : ℕ
    index = index_of log.config.partitions h.id

    life : life_of m log.config (new_life (id_of log.config.partitions index)) (part_at m (opening log.config) (take k log.events) (id_of log.config.partitions index)) ≡ Some (record { state = h.state; sent = sent_by (id_of log.config.partitions index) b.world.packets })
    life = lived_all m law log.config (take k log.events) b.world b.run index h.state (index_within log.config.partitions log.config.replicas h.id replica partition) (subst (λ (c : Config). slice_get b.world.nodes (index_of c.partitions h.id) ≡ Some h.state) config h.there.there)

    only : (fault : Fault) → IsNoEntry m (lived_at m (first_of log k) index) h.entry fault → fault ≡ OutOfMemory
    only fault (inr none) = none
    only fault (inl (state, (sent, lives), refuses)) =
        let both = some_is (sym lives ∙ life) in
        absurd (does_not_refuse (sym ((λ i. deed_in m (sym config i) h.entry (both i).state) ∙ h.does) ∙ refuses))

    part : (i : ℕ) → part_at m (opening log.config) (take (k + 1) log.events) (id_of log.config.partitions i) ≡ part_at m (opening log.config) (take k log.events) (id_of log.config.partitions i) ++ of_node (id_of log.config.partitions i) (Some (h.id, h.entry))
    part i =
        (λ j. part_at m (opening log.config) ((ap (λ n. take n log.events) (sym (next_number k)) ∙ take_next log.events k event at) j) (id_of log.config.partitions i))
        ∙ part_more m (opening log.config) (take k log.events) b.world b.run event (id_of log.config.partitions i)
        ∙ ap (λ seen. part_at m (opening log.config) (take k log.events) (id_of log.config.partitions i) ++ of_node (id_of log.config.partitions i) seen) h.is

    pub replays : (id : NodeId) (entry : Entry Args Row Reply) → Some (id, entry) ≡ entry_of w event → Replays log w k event id entry
    replays id entry is =
        subst (λ (z : NodeId × Entry Args Row Reply). Replays log w k event z.0 z.1) (sym (some_is (is ∙ seen)))
        (record { replica = replica; partition = partition; part = part; only = λ n same fault no. only fault (subst (λ n. IsNoEntry m n h.entry fault) same no) })

  module _ (log : Log Args) (w : WorldState Args Row Reply) (k : ℕ) (event : Event Args) (id : NodeId) (entry : Entry Args Row Reply) (replays : Replays log w k event id entry) where
    abbrev parts : ℕ
    parts = log.config.partitions

    -- the node at a place, one event later, where that is its entry, and where it isn't
    pub here : (n : Lived Args Row Reply) → n ≡ lived_at m (first_of log k) (index_of parts id) → record n { history = n.history ++ entry ∷ [] } ≡ lived_at m (first_of log (k + 1)) (index_of parts id)
    here n is =
        (λ i. record (is i) { history = (is i).history ++ entry ∷ [] })
        ∙ (λ i. record { config = log.config; id = id_of parts (index_of parts id); history = part_at m (opening log.config) (take k log.events) (id_of parts (index_of parts id)) ++ cond (sym mine i) (entry ∷ []) [] })
        ∙ (λ i. record { config = log.config; id = id_of parts (index_of parts id); history = sym (replays.part (index_of parts id)) i })
      where
        mine : same_node id (id_of parts (index_of parts id)) ≡ true
        mine = (λ i. same_node id (named_there parts id replays.partition i)) ∙ same_node_self id

    elsewhere : (i : ℕ) → i ≢ index_of parts id → lived_at m (first_of log k) i ≡ lived_at m (first_of log (k + 1)) i
    elsewhere i apart = λ j. record { config = log.config; id = id_of parts i; history = (sym (append-nil (part_at m (opening log.config) (take k log.events) (id_of parts i))) ∙ (λ l. part_at m (opening log.config) (take k log.events) (id_of parts i) ++ cond (sym other l) (entry ∷ []) []) ∙ sym (replays.part i)) j }
      where
        other : same_node id (id_of parts i) ≡ false
        other = (λ l. same_node (sym (named_there parts id replays.partition) l) (id_of parts i)) ∙ names_apart parts i (index_of parts id) apart

    pub replayed_more : (nodes : List (Lived Args Row Reply)) → AreLockedOf m (first_of log k) nodes → (n after : Lived Args Row Reply) → slice_get nodes (index_of parts id) ≡ Some n → after ≡ record n { history = n.history ++ entry ∷ [] }
        → AreLockedOf m (first_of log (k + 1)) (slice_set nodes (index_of parts id) after)
    replayed_more nodes are n after there goes = record {
      number = length-set nodes (index_of parts id) after ∙ are.number;
      each = λ i now at_i. go i now at_i (cases_eq i (index_of parts id));
    }
      where
        go : (i : ℕ) (now : Lived Args Row Reply) → slice_get (slice_set nodes (index_of parts id) after) i ≡ Some now → (i ≡ index_of parts id) ⊎ (i ≢ index_of parts id) → now ≡ lived_at m (first_of log (k + 1)) i
        go i now at_i (inl e) =
            let is : after ≡ now = some_is (sym (set_here nodes (index_of parts id) after n there) ∙ (λ j. slice_get (slice_set nodes (index_of parts id) after) (sym e j)) ∙ at_i) in
            sym is ∙ goes ∙ here n (are.each (index_of parts id) n there) ∙ (λ j. lived_at m (first_of log (k + 1)) (sym e j))
        go i now at_i (inr apart) = are.each i now (sym (set_other nodes (index_of parts id) i after apart) ∙ at_i) ∙ elsewhere i apart
