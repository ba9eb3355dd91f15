-- What the sequencers of replica 0 have taken, as a script's batches are submitted.
use Rattle.std.proofs.Common.{◌≡◌, ◌≢◌, ℕ, zero, suc, ◌+◌, ◌*◌, ◌/◌, ◌%◌, ◌<◌, ◌≤◌, inl, inr, Bool, true, false, ◌&&◌, cond, List, [], ◌∷◌, ◌++◌, map, take, drop, length, length-append, Option, Some, None, refl, sym, ap, subst, ◌∙◌, arith, slice_get, slice_set}
use Rattle.std.proofs.lemmas.Bool.{lt-ltb, ltb-true, false≢true, and_parts, cases_lt}
use Rattle.std.proofs.lemmas.List.{length-map, take-append-drop}
use Rattle.std.proofs.lemmas.List.Sums.{sum_by-cons}
use Rattle.std.proofs.lemmas.Option.{none-some}
use Rattle.std.specs.Prelude.{nat_lt}
use Rattle.std.specs.List.{flat_map, range_with_len}
use Rattle.calvin_types.specs.declared.fault.Fault.{Fault}
use Rattle.calvin_types.specs.declared.fault.Fault.TheVariants.{OutOfMemory, QueueFull, EmptySets, TooManyAttempts, EpochsSpent}
use Rattle.calvin_types.specs.declared.limits.TheConstants.{MOST_REQUESTS, MOST_UNDECIDED, MOST_EPOCHS}
use Rattle.calvin_types.specs.declared.place.NodeId.{NodeId}
use Rattle.calvin_types.specs.declared.txn.Txn.{Txn}
use Rattle.calvin_types.specs.Deeds.{Refuses, Does}
use Rattle.calvin_types.specs.Submitting.{has_key, is_attempt, is_taken}
use Rattle.calvin_app.specs.Meaning.{Meaning}
use Rattle.calvin_bench.proofs.Lists.{set_here, set_other, get_map}
use Rattle.calvin_order.proofs.Histories.{undecided_more, unused_parts}
use Rattle.calvin_order.proofs.HoldingBack.{length-parts}
use Rattle.calvin_order.proofs.NextEpochs.{next_unused}
use Rattle.calvin_node_packets.specs.declared.packet.Packet.{Packet}
use Rattle.calvin_order.specs.Sequencing.{Sequencing, HeldBack, ripe, load, is_decided, closing, ticked, ripened, next_epoch, first_not, is_used}
use Rattle.calvin_order.specs.Configs.{Config}
use Rattle.calvin_node_acts.specs.NodeStates.{NodeState, with_sequencer, new_node}
use Rattle.calvin_node_acts.specs.Handling.{NodeDeed}
use Rattle.calvin_node_acts.specs.Running.{settled}
use Rattle.calvin_node_acts.specs.Acting as acting
use Rattle.calvin_node_acts.specs.declared.act.Act.{Act}
use Rattle.calvin_node_acts.specs.declared.act.Act.TheVariants.{Submit, Close}
use Rattle.calvin_script.specs.declared.contents.Request.{Request}
use Rattle.calvin_script.specs.Scripts.{Listed, requests_of}
use Rattle.calvin_world.proofs.Indexes.{same_index}
use Rattle.calvin_world.specs.declared.event.Event.{Event}
use Rattle.calvin_world.specs.declared.event.Event.TheVariants.{At}
use Rattle.calvin_world.specs.declared.event.Outcome.{Outcome}
use Rattle.calvin_world.specs.declared.event.Outcome.TheVariants.{Done, Refused}
use Rattle.calvin_world.specs.Worlds.{WorldState, index_of, opening, node_at, carry_out, at_node, happens}
use Rattle.calvin_world.specs.SettledWorlds.{settled_world, SettledStep}
use Rattle.calvin_sim.specs.Simulations.{sequencer_of, submitting, submitting_epoch, listed_for, AllDone}
use Rattle.calvin_sim.specs.Sequencers.{IsOpen, AreOpen}
use Rattle.calvin_sim.proofs.Leading.{done_split}

-- ---- what is so of tests

tested : {X : Type 0} (b : Bool) (o : Option X) (x : X) → cond b o None ≡ Some x → (b ≡ true) × (o ≡ Some x)
tested true o x e = (refl, e)
tested false o x e = absurd (none-some x e)

-- ---- sequencers

module _ {Args : Type 0} where
  -- a batch more is closed
  close_load : (delay : ℕ) (s : Sequencing Args) → load (ripened delay (ticked (closing s))) ≡ load s
  close_load delay s =
      let tick : HeldBack Args → HeldBack Args = (λ h. record h { closings = suc h.closings }) in
      let hs = map tick s.held_back in
      let parts = length-parts delay hs in
      let as_many = length-map s.held_back tick in
      let queue = length-append (drop MOST_REQUESTS s.queue) (ripe delay hs) in
      let cut = sym (length-append (take MOST_REQUESTS s.queue) (drop MOST_REQUESTS s.queue)) ∙ ap length (take-append-drop MOST_REQUESTS s.queue) in
      let more = undecided_more (is_decided s) s.closed (next_epoch s) (take MOST_REQUESTS s.queue) (unused_parts s (next_epoch s) (next_unused s)).1 in
      omega (arith, parts, as_many, queue, cut, more)

  -- the next epoch is no further than as many as were closed or told
  next_low : (s : Sequencing Args) → next_epoch s ≤ s.opening + length s.closed + length s.decided
  next_low s = let few = first_few (is_used s) s.opening (length s.closed + length s.decided) in omega (arith, few)
    where
      first_few : (p : ℕ → Bool) (a n : ℕ) → first_not p a n ≤ a + n
      first_few p a zero = omega arith
      first_few p a (suc n) = go (p a) (first_few p (suc a) n)
        where
          go : (b : Bool) → first_not p (suc a) n ≤ suc a + n → cond b (first_not p (suc a) n) a ≤ a + suc n
          go true less = omega (arith, less)
          go false less = omega arith

-- ---- one event

module _ {Args Row Reply : Type 0} (m : Meaning Args Row Reply) where
  -- an act that took effect
  pub record Acted (w v : WorldState Args Row Reply) (me : NodeId) (act : Act Args) (x : NodeState Args Row) : Type 0 where
    pub next : NodeState Args Row
    pub sent : List (Packet Args Row Reply)
    pub does : acting.deed_of m w.config act x ≡ Does next sent
    pub after : v ≡ settled_world (record w { nodes = slice_set w.nodes (index_of w.config.partitions me) next; packets = w.packets ++ sent })

  acted : (w v : WorldState Args Row Reply) (me : NodeId) (act : Act Args) (x : NodeState Args Row) → node_at w me ≡ Some x → SettledStep m w (At me act) Done v → Acted w v me act x
  acted w v me act x at (inr h) = absurd (not_done h.2)
    where
      not_done : Done ≡ Refused OutOfMemory → ⊥
      not_done e = cc
  acted w v me act x at (inl e) =
      go (acting.deed_of m w.config act x) refl
      (e ∙ ap (λ o. ((at_node w me (acting.deed_of m w.config act) o).0, settled_world (at_node w me (acting.deed_of m w.config act) o).1)) at)
    where
      go : (d : NodeDeed Args Row Reply) → acting.deed_of m w.config act x ≡ d → ◌≡◌ {A = Outcome × WorldState Args Row Reply} (Done, v) ((carry_out w me d).0, settled_world (carry_out w me d).1) → Acted w v me act x
      go (Refuses f) is e = let wrong = ap (λ p. p.0) e in absurd (cc)
      go (Does next sent) is e = record { next = next; sent = sent; does = is; after = ap (λ p. p.1) e }

  module _ (w v : WorldState Args Row Reply) (g : ℕ) (x next : NodeState Args Row) (sent : List (Packet Args Row Reply)) (at : node_at w (sequencer_of g) ≡ Some x)
      (after : v ≡ settled_world (record w { nodes = slice_set w.nodes (index_of w.config.partitions (sequencer_of g)) next; packets = w.packets ++ sent })) where
    abbrev i : ℕ
    i = index_of w.config.partitions (sequencer_of g)

    here : (nat_lt 0 w.config.replicas && nat_lt g w.config.partitions) ≡ true
    here = (tested (nat_lt 0 w.config.replicas && nat_lt g w.config.partitions) (slice_get w.nodes i) x at).0

    own_node : node_at v (sequencer_of g) ≡ Some (settled next)
    own_node = ap (λ u. node_at u (sequencer_of g)) after
        ∙ ap (λ b. cond b (slice_get (map settled (slice_set w.nodes i next)) i) None) here
        ∙ get_map settled (slice_set w.nodes i next) i next (set_here w.nodes i next x (tested (nat_lt 0 w.config.replicas && nat_lt g w.config.partitions) (slice_get w.nodes i) x at).1)

    other_node : (h : ℕ) (y : NodeState Args Row) → h ≢ g → node_at w (sequencer_of h) ≡ Some y → node_at v (sequencer_of h) ≡ Some (settled y)
    other_node h y apart there =
        let j = index_of w.config.partitions (sequencer_of h) in
        let is = tested (nat_lt 0 w.config.replicas && nat_lt h w.config.partitions) (slice_get w.nodes j) y there in
        let less : h < w.config.partitions = ltb-true h w.config.partitions (and_parts (nat_lt 0 w.config.replicas) (nat_lt h w.config.partitions) is.0).1 in
        let also : g < w.config.partitions = ltb-true g w.config.partitions (and_parts (nat_lt 0 w.config.replicas) (nat_lt g w.config.partitions) here).1 in
        ap (λ u. node_at u (sequencer_of h)) after
        ∙ ap (λ b. cond b (slice_get (map settled (slice_set w.nodes i next)) j) None) is.0
        ∙ get_map settled (slice_set w.nodes i next) j y
        (set_other w.nodes i j next (λ e. apart (ap (λ (id : NodeId). id.partition) (same_index w.config.partitions (sequencer_of h) (sequencer_of g) less also e))) ∙ is.1)

  -- ---- submissions

  pub own_submitted : (w v : WorldState Args Row Reply) (g n e : ℕ) (t : Txn Args) → IsOpen w g n e → SettledStep m w (At (sequencer_of g) (Submit t)) Done v → IsOpen v g (suc n) e
  own_submitted w v g n e t o step =
      let a = acted w v (sequencer_of g) (Submit t) o.node o.there step in
      let s = o.node.sequencer in
      let is : a.next ≡ with_sequencer o.node (record s { queue = s.queue ++ t ∷ [] }) = became o.node a.next a.sent (nat_lt (load s) MOST_UNDECIDED) (has_key t.sets) (is_attempt t.attempt) a.does in
      let len = length-append s.queue (t ∷ []) in
      record {
        node = settled a.next;
        there = own_node w v g o.node a.next a.sent o.there a.after;
        taken = subst (λ (y : NodeState Args Row). load y.sequencer ≤ suc n) (sym is) (let taken = o.taken in omega (arith, taken, len));
        closed = subst (λ (y : NodeState Args Row). y.sequencer.opening + length y.sequencer.closed + length y.sequencer.decided ≤ e) (sym is) o.closed;
      }
    where
      became : (x next : NodeState Args Row) (sent : List (Packet Args Row Reply)) (a b c : Bool)
          → acting.by_sequencer {Out = Unit {0}} x [] (cond a (cond b (cond c (Does (record x.sequencer { queue = x.sequencer.queue ++ t ∷ [] }) tt) (Refuses TooManyAttempts)) (Refuses EmptySets)) (Refuses QueueFull)) ≡ Does next sent
          → next ≡ with_sequencer x (record x.sequencer { queue = x.sequencer.queue ++ t ∷ [] })
      became x next sent true true true e = cc
      became x next sent true true false e = absurd (cc)
      became x next sent true false c e = absurd (cc)
      became x next sent false b c e = absurd (cc)

  pub own_closed : (w v : WorldState Args Row Reply) (g n e : ℕ) → IsOpen w g n e → SettledStep m w (At (sequencer_of g) Close) Done v → IsOpen v g n (suc e)
  own_closed w v g n e o step =
      let a = acted w v (sequencer_of g) Close o.node o.there step in
      let s = o.node.sequencer in
      let after = ripened w.config.delay (ticked (closing s)) in
      let is : a.next ≡ with_sequencer o.node after = became o.node a.next a.sent (nat_lt (next_epoch s) MOST_EPOCHS) a.does in
      let len = length-append s.closed ((next_epoch s, take MOST_REQUESTS s.queue) ∷ []) in
      record {
        node = settled a.next;
        there = own_node w v g o.node a.next a.sent o.there a.after;
        taken = subst (λ (y : NodeState Args Row). load y.sequencer ≤ n) (sym is) (let taken = o.taken in let same = close_load w.config.delay s in omega (arith, taken, same));
        closed = subst (λ (y : NodeState Args Row). y.sequencer.opening + length y.sequencer.closed + length y.sequencer.decided ≤ suc e) (sym is) (let closed = o.closed in omega (arith, closed, len));
      }
    where
      became : (x next : NodeState Args Row) (sent : List (Packet Args Row Reply)) (a : Bool)
          → acting.by_sequencer x [] (cond a (Does (ripened w.config.delay (ticked (closing x.sequencer))) (next_epoch x.sequencer)) (Refuses EpochsSpent)) ≡ Does next sent
          → next ≡ with_sequencer x (ripened w.config.delay (ticked (closing x.sequencer)))
      became x next sent true e = cc
      became x next sent false e = absurd (cc)

  -- what happens at another node
  pub other_open : (w v : WorldState Args Row Reply) (g h n e : ℕ) (act : Act Args) → h ≢ g → (x : NodeState Args Row) → node_at w (sequencer_of g) ≡ Some x → IsOpen w h n e → SettledStep m w (At (sequencer_of g) act) Done v → IsOpen v h n e
  other_open w v g h n e act apart x at o step =
      let a = acted w v (sequencer_of g) act x at step in
      record { node = settled o.node; there = other_node w v g x a.next a.sent at a.after h o.node apart o.there; taken = o.taken; closed = o.closed }

  -- ---- batches

  pub submitted_open : (g : ℕ) (requests : List (Request Args)) (w v : WorldState Args Row Reply) (n e : ℕ) → IsOpen w g n e → AllDone m w (map (λ r. At (sequencer_of g) (Submit r.txn)) requests) v → IsOpen v g (n + length requests) e
  submitted_open g [] w v n e o done = subst (λ u. IsOpen u g (n + 0) e) (sym done) (subst (λ k. IsOpen w g k e) (omega arith) o)
  submitted_open g (r ∷ rs) w v n e o done =
      subst (λ k. IsOpen v g k e) (omega arith) (submitted_open g rs done.0 v (suc n) e (own_submitted w done.0 g n e r.txn o done.1) done.2)

  batch_open : (g : ℕ) (requests : List (Request Args)) (w v : WorldState Args Row Reply) (n e : ℕ) → IsOpen w g n e → AllDone m w (submitting g requests) v → IsOpen v g (n + length requests) (suc e)
  batch_open g requests w v n e o done =
      let parts = done_split m w v (map (λ r. At (sequencer_of g) (Submit r.txn)) requests) (At (sequencer_of g) Close ∷ []) done in
      let before = submitted_open g requests w parts.0 n e o parts.1 in
      subst (λ u. IsOpen u g (n + length requests) (suc e)) (sym parts.2.2) (own_closed parts.0 parts.2.0 g (n + length requests) e before parts.2.1)

  -- the same seen from the node of another group
  submitted_elsewhere : (g h : ℕ) → h ≢ g → (requests : List (Request Args)) (w v : WorldState Args Row Reply) (n e k f : ℕ) → IsOpen w g k f → IsOpen w h n e → AllDone m w (map (λ r. At (sequencer_of g) (Submit r.txn)) requests) v → IsOpen v h n e
  submitted_elsewhere g h apart [] w v n e k f there o done = subst (λ u. IsOpen u h n e) (sym done) o
  submitted_elsewhere g h apart (r ∷ rs) w v n e k f there o done =
      submitted_elsewhere g h apart rs done.0 v n e (suc k) f (own_submitted w done.0 g k f r.txn there done.1) (other_open w done.0 g h n e (Submit r.txn) apart there.node there.there o done.1) done.2

  batch_elsewhere : (g h : ℕ) → h ≢ g → (requests : List (Request Args)) (w v : WorldState Args Row Reply) (n e k f : ℕ) → IsOpen w g k f → IsOpen w h n e → AllDone m w (submitting g requests) v → IsOpen v h n e
  batch_elsewhere g h apart requests w v n e k f there o done =
      let parts = done_split m w v (map (λ r. At (sequencer_of g) (Submit r.txn)) requests) (At (sequencer_of g) Close ∷ []) done in
      let before = submitted_elsewhere g h apart requests w parts.0 n e k f there o parts.1 in
      let at = submitted_open g requests w parts.0 k f there parts.1 in
      subst (λ u. IsOpen u h n e) (sym parts.2.2) (other_open parts.0 parts.2.0 g h n e Close apart at.node at.there before parts.2.1)

  -- ---- the batches of an epoch, of k groups from s on

  module _ (batch : ℕ → List (Request Args)) where
    abbrev each : ℕ → ℕ → List (Event Args)
    each s k = flat_map (λ g. submitting g (batch g)) (range_with_len s k)

    abbrev Opens : WorldState Args Row Reply → ℕ → ℕ → (ℕ → ℕ) → ℕ → Type 0
    Opens w s k n e = (g : ℕ) → s ≤ g → g < s + k → IsOpen w g (n g) e

    -- the groups after the first stay open as it is submitted
    later_open : (s k : ℕ) (n : ℕ → ℕ) (e : ℕ) (w u : WorldState Args Row Reply) → Opens w s (suc k) n e → AllDone m w (submitting s (batch s)) u → Opens u (s + 1) k n e
    later_open s k n e w u are done g low high =
        batch_elsewhere s g (λ same. not_less g s low same) (batch s) w u (n g) e (n s) e (are s (omega arith) (omega arith)) (are g (omega (arith, low)) (omega (arith, high))) done
      where
        not_less : (g s : ℕ) → s + 1 ≤ g → g ≡ s → ⊥
        not_less g s low same = omega (arith, low, same)

    -- a group that isn't one of them
    past_open : (s k : ℕ) (n : ℕ → ℕ) (e : ℕ) (w v : WorldState Args Row Reply) (h a b : ℕ) → ((g : ℕ) → s ≤ g → g < s + k → h ≢ g) → Opens w s k n e → IsOpen w h a b → AllDone m w (each s k) v → IsOpen v h a b
    past_open s zero n e w v h a b apart are o done = subst (λ u. IsOpen u h a b) (sym done) o
    past_open s (suc k) n e w v h a b apart are o done =
        let parts = done_split m w v (submitting s (batch s)) (each (s + 1) k) done in
        past_open (s + 1) k n e parts.0 v h a b (λ g low high. apart g (omega (arith, low)) (omega (arith, high)))
        (later_open s k n e w parts.0 are parts.1)
        (batch_elsewhere s h (apart s (omega arith) (omega arith)) (batch s) w parts.0 a b (n s) e (are s (omega arith) (omega arith)) o parts.1) parts.2

    -- one of them
    in_open : (s k : ℕ) (n : ℕ → ℕ) (e : ℕ) (w v : WorldState Args Row Reply) → Opens w s k n e → AllDone m w (each s k) v → Opens v s k (λ g. n g + length (batch g)) (suc e)
    in_open s zero n e w v are done h low high = absurd (omega (arith, low, high))
    in_open s (suc k) n e w v are done h low high =
        let parts = done_split m w v (submitting s (batch s)) (each (s + 1) k) done in
        let more = later_open s k n e w parts.0 are parts.1 in
        elim (cases_lt s h) [
          | inl above ↦ in_open (s + 1) k n e parts.0 v more parts.2 h (omega (arith, above)) (omega (arith, high))
          | inr upto ↦
              let same : s ≡ h = omega (arith, low, upto) in
              subst (λ g. IsOpen v g (n g + length (batch g)) (suc e)) same
              (past_open (s + 1) k n e parts.0 v s (n s + length (batch s)) (suc e) (λ g lower higher e. less_no s g lower e) more
              (batch_open s (batch s) w parts.0 (n s) e (are s (omega arith) (omega arith)) parts.1) parts.2)
        ]
      where
        less_no : (s g : ℕ) → s + 1 ≤ g → s ≡ g → ⊥
        less_no s g low same = omega (arith, low, same)

  -- ---- epochs

  pub epoch_open : (partitions : ℕ) (epoch : List (Listed Args)) (n : ℕ → ℕ) (e : ℕ) (w v : WorldState Args Row Reply) → AreOpen w partitions n e → AllDone m w (submitting_epoch partitions epoch) v → AreOpen v partitions (λ g. n g + length (requests_of g epoch)) (suc e)
  epoch_open partitions epoch n e w v are done g less =
      in_open (λ g. requests_of g epoch) 0 partitions n e w v (λ h low high. are h (omega (arith, high))) done g (omega arith) (omega (arith, less))

  -- the groups of an epoch before this one are submitted
  pub group_open : (partitions : ℕ) (epoch : List (Listed Args)) (n : ℕ → ℕ) (e : ℕ) (w v : WorldState Args Row Reply) (h : ℕ) → h < partitions → AreOpen w partitions n e → AllDone m w (flat_map (λ g. submitting g (requests_of g epoch)) (range_with_len 0 h)) v → IsOpen v h (n h) e
  group_open partitions epoch n e w v h less are done =
      past_open (λ g. requests_of g epoch) 0 h n e w v h (n h) e (λ g low high same. less_no g h (omega (arith, high)) same) (λ g low high. are g (omega (arith, high, less))) (are h less) done
    where
      less_no : (g h : ℕ) → g < h → h ≡ g → ⊥
      less_no g h less same = omega (arith, less, same)

  pub all_open : (partitions : ℕ) (epochs : List (List (Listed Args))) (n : ℕ → ℕ) (e : ℕ) (w v : WorldState Args Row Reply) → AreOpen w partitions n e → AllDone m w (flat_map (submitting_epoch partitions) epochs) v → AreOpen v partitions (λ g. n g + listed_for g epochs) (e + length epochs)
  all_open partitions [] n e w v are done g less = subst (λ u. IsOpen u g (n g + 0) (e + 0)) (sym done) (subst (λ k. IsOpen w g k (e + 0)) (omega arith) (subst (λ k. IsOpen w g (n g) k) (omega arith) (are g less)))
  all_open partitions (epoch ∷ epochs) n e w v are done g less =
      let parts = done_split m w v (submitting_epoch partitions epoch) (flat_map (submitting_epoch partitions) epochs) done in
      let o = all_open partitions epochs (λ g. n g + length (requests_of g epoch)) (suc e) parts.0 v (epoch_open partitions epoch n e w parts.0 are parts.1) parts.2 g less in
      let more = sum_by-cons (λ x. length (requests_of g x)) epoch epochs in
      subst (λ (k : ℕ × ℕ). IsOpen v g k.0 k.1) (λ i. (joins (n g) (length (requests_of g epoch)) (listed_for g epochs) (listed_for g (epoch ∷ epochs)) more i, counts i)) o
    where
      joins : (a b c d : ℕ) → d ≡ b + c → a + b + c ≡ a + d
      joins a b c d is = omega (arith, is)

      counts : suc e + length epochs ≡ e + length (epoch ∷ epochs)
      counts = omega arith

  -- at first
  pub opening_open : (c : Config) → 0 < c.replicas → AreOpen {Args = Args} {Row = Row} {Reply = Reply} (opening c) c.partitions (λ g. 0) 0
  opening_open c some g less = record {
    node = f g;
    there = ap (λ b. cond b (slice_get (map f (range_with_len 0 (c.replicas * c.partitions))) (0 * c.partitions + g)) None) (λ i. lt-ltb 0 c.replicas some i && lt-ltb g c.partitions less i)
        ∙ ap (slice_get (map f (range_with_len 0 (c.replicas * c.partitions)))) (at_zero c.partitions g)
        ∙ get_map f (range_with_len 0 (c.replicas * c.partitions)) g g (at_range 0 (c.replicas * c.partitions) g (enough c.replicas some) ∙ ap Some (omega arith));
    taken = omega arith;
    closed = omega arith;
  }
    where
      f : ℕ → NodeState Args Row
      f k = new_node (record { replica = k / c.partitions; partition = k % c.partitions })

      at_zero : (p k : ℕ) → 0 * p + k ≡ k
      at_zero p k = omega arith

      enough : (r : ℕ) → 0 < r → g < r * c.partitions
      enough zero some = absurd (omega (arith, some))
      enough (suc r) some = omega (arith, less)

      at_range : (a n k : ℕ) → k < n → slice_get (range_with_len a n) k ≡ Some (a + k)
      at_range a zero k less = absurd (omega (arith, less))
      at_range a (suc n) zero less = ap Some (omega arith)
      at_range a (suc n) (suc k) less = at_range (a + 1) n k (omega (arith, less)) ∙ ap Some (omega arith)

-- ---- what is refused

module _ {Args Row Reply : Type 0} (m : Meaning Args Row Reply) where
  refused_not : (w v : WorldState Args Row Reply) (event : Event Args) (fault : Fault) → (happens m w event).0 ≡ Done → SettledStep m w event (Refused fault) v → fault ≡ OutOfMemory
  refused_not w v event fault does (inl e) = absurd (go (ap (λ p. p.0) e ∙ does))
    where
      go : Refused fault ≡ Done → ⊥
      go e = cc
  refused_not w v event fault does (inr h) = go h.2
    where
      go : Refused fault ≡ Refused OutOfMemory → fault ≡ OutOfMemory
      go e = cc

  -- a request that is taken is submitted while there is room
  pub submit_only : (w v : WorldState Args Row Reply) (g n e : ℕ) (t : Txn Args) (fault : Fault) → IsOpen w g n e → is_taken t ≡ true → n < MOST_UNDECIDED → SettledStep m w (At (sequencer_of g) (Submit t)) (Refused fault) v → fault ≡ OutOfMemory
  submit_only w v g n e t fault o taken room step =
      let s = o.node.sequencer in
      let parts = and_parts (has_key t.sets) (is_attempt t.attempt) taken in
      let few = o.taken in
      refused_not w v (At (sequencer_of g) (Submit t)) fault
      (ap (λ x. (at_node w (sequencer_of g) (acting.submit t) x).0) o.there
      ∙ ended (nat_lt (load s) MOST_UNDECIDED) (has_key t.sets) (is_attempt t.attempt) (lt-ltb (load s) MOST_UNDECIDED (omega (arith, few, room))) parts.0 parts.1) step
    where
      ended : (a b c : Bool) → a ≡ true → b ≡ true → c ≡ true
          → (carry_out w (sequencer_of g) (acting.by_sequencer {Out = Unit {0}} o.node [] (cond a (cond b (cond c (Does (record o.node.sequencer { queue = o.node.sequencer.queue ++ t ∷ [] }) tt) (Refuses TooManyAttempts)) (Refuses EmptySets)) (Refuses QueueFull)))).0 ≡ Done
      ended true true true p q r = refl
      ended true true false p q r = absurd (false≢true r)
      ended true false c p q r = absurd (false≢true q)
      ended false b c p q r = absurd (false≢true p)

  -- a batch is closed while an epoch is left
  pub close_only : (w v : WorldState Args Row Reply) (g n e : ℕ) (fault : Fault) → IsOpen w g n e → e < MOST_EPOCHS → SettledStep m w (At (sequencer_of g) Close) (Refused fault) v → fault ≡ OutOfMemory
  close_only w v g n e fault o early step =
      let s = o.node.sequencer in
      let few = o.closed in
      let low = next_low s in
      refused_not w v (At (sequencer_of g) Close) fault
      (ap (λ x. (at_node w (sequencer_of g) (acting.close w.config) x).0) o.there ∙ ended (nat_lt (next_epoch s) MOST_EPOCHS) (lt-ltb (next_epoch s) MOST_EPOCHS (omega (arith, few, low, early)))) step
    where
      ended : (a : Bool) → a ≡ true
          → (carry_out w (sequencer_of g) (acting.by_sequencer o.node [] (cond a (Does (ripened w.config.delay (ticked (closing o.node.sequencer))) (next_epoch o.node.sequencer)) (Refuses EpochsSpent)))).0 ≡ Done
      ended true p = refl
      ended false p = absurd (false≢true p)
