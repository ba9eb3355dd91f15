-- What a node sends is from it.
--     AllFrom me packets      each of them is from this node
--     acts_from, handles_from      what an event that takes effect sends
--     sent_more_here, sent_more_elsewhere      what its node has sent then, and any other one
--     same_node_self, same_node_is      whether two names are of one node
use Rattle.std.proofs.Common.{◌≡◌, ℕ, Bool, true, false, cond, ◌&&◌, List, [], ◌∷◌, ◌++◌, map, Option, Some, None, inl, inr, refl, sym, ap, subst, ◌∙◌}
use Rattle.std.specs.Prelude.{◌==◌}
use Rattle.std.specs.List.{Contains, range_with_len}
use Rattle.std.proofs.lemmas.Bool.{eqb-true, eq-eqb}
use Rattle.std.proofs.lemmas.List.Elements.{Contains-append_cases, filter-append}
use Rattle.std.proofs.lemmas.List.{append-nil}
use Rattle.calvin_types.specs.declared.place.NodeId.{NodeId}
use Rattle.calvin_types.specs.declared.place.Slot.{Slot}
use Rattle.calvin_types.specs.declared.txn.Txn.{Txn}
use Rattle.calvin_types.specs.Exact.{first, second}
use Rattle.calvin_app.specs.Meaning.{Meaning}
use Rattle.calvin_lock.specs.Local.{local_sets}
use Rattle.calvin_bench.specs.Turns.{site_of}
use Rattle.calvin_bench.proofs.Lists.{none_in, only_in, from_map, first_in, rest_too}
use Rattle.calvin_synod.specs.Cases.{Letters, Silent, ToOne, ToAll}
use Rattle.calvin_order.specs.Configs.{Config}
use Rattle.calvin_order.specs.Merged.{Batch}
use Rattle.calvin_sched.specs.Scheduling.{other_active, reads_here}
use Rattle.calvin_node_packets.specs.declared.packet.Address.TheVariants.{AtNode}
use Rattle.calvin_node_packets.specs.declared.packet.Content.{Content}
use Rattle.calvin_node_packets.specs.declared.packet.Content.TheVariants.{Synod, Decided, AskBatch, Reads, AskReads, Warm, Replies}
use Rattle.calvin_node_packets.specs.declared.packet.Packet.{Packet}
use Rattle.calvin_node_packets.specs.Packets.{same_node, others, participants, to_each, synod_packets, telling, warm_packets}
use Rattle.calvin_node_acts.specs.declared.act.Act.{Act}
use Rattle.calvin_node_acts.specs.declared.act.Act.TheVariants.{Submit, SubmitCold, Cool, Close, Merge, Lock, Restart, Propose, Snapshot, Mark, Begin, Finish, AskForReads, AskForBatch}
use Rattle.calvin_node_acts.specs.NodeStates.{NodeState}
use Rattle.calvin_world.specs.Names.{sent_by}
use Rattle.calvin_world.proofs.Cases.{Handles, Acts}

pub same_node_self : (a : NodeId) → same_node a a ≡ true
same_node_self a = λ i. eq-eqb a.replica a.replica refl i && eq-eqb a.partition a.partition refl i

pub same_node_is : (a b : NodeId) → same_node a b ≡ true → a ≡ b
same_node_is a b e = λ i. record {
  replica = eqb-true a.replica b.replica (first (a.replica == b.replica) (a.partition == b.partition) e) i;
  partition = eqb-true a.partition b.partition (second (a.replica == b.replica) (a.partition == b.partition) e) i;
}

module _ {Args Row Reply : Type 0} where
  abbrev pub AllFrom : NodeId → List (Packet Args Row Reply) → Type 0
  AllFrom me packets = (p : Packet Args Row Reply) → Contains packets p → p.from ≡ me

  none_from : (me : NodeId) → AllFrom me []
  none_from me p c = absurd (none_in p c)

  one_from : (a : Packet Args Row Reply) → AllFrom a.from (a ∷ [])
  one_from a p c = sym (ap (λ (p : Packet Args Row Reply). p.from) (only_in a p c))

  made_from : (me : NodeId) (f : ℕ → Packet Args Row Reply) → ((n : ℕ) → (f n).from ≡ me) → (ns : List ℕ) → AllFrom me (map f ns)
  made_from me f from ns p c = let is = from_map f ns p c in sym (ap (λ (p : Packet Args Row Reply). p.from) is.1) ∙ from is.0

  both_from : (me : NodeId) (packets more : List (Packet Args Row Reply)) → AllFrom me packets → AllFrom me more → AllFrom me (packets ++ more)
  both_from me packets more left right p c = elim (Contains-append_cases packets more p c) [ inl old ↦ left p old | inr new ↦ right p new ]

  some_from : (me : NodeId) (b : Bool) (packets : List (Packet Args Row Reply)) → AllFrom me packets → AllFrom me (cond b packets [])
  some_from me true packets from = from
  some_from me false packets from = none_from me

  each_from : (me : NodeId) (replica : ℕ) (content : Content Args Row Reply) (ps : List ℕ) → AllFrom me (to_each me replica content ps)
  each_from me replica content ps = made_from me (λ q. record { from = me; to = AtNode (record { replica = replica; partition = q }); content = content }) (λ n. refl) ps

  letters_from : (size : ℕ) (me : NodeId) (letters : Letters (Batch Args)) → AllFrom me (synod_packets size me letters)
  letters_from size me Silent = none_from me
  letters_from size me (ToOne r m) = one_from (record { from = me; to = AtNode (record { replica = r; partition = me.partition }); content = Synod m })
  letters_from size me (ToAll m) = made_from me (λ r. record { from = me; to = AtNode (record { replica = r; partition = me.partition }); content = Synod m }) (λ n. refl) (range_with_len 0 size)

  telling_from : (parts : ℕ) (me : NodeId) (o : Option (Slot × Batch Args)) → AllFrom me (telling parts me o)
  telling_from parts me None = none_from me
  telling_from parts me (Some given) = each_from me me.replica (Decided given.0 given.1) (others parts me.partition)

  warm_from : (parts : ℕ) (me : NodeId) (t : Txn Args) (ps : List ℕ) → AllFrom me (warm_packets parts me t ps)
  warm_from parts me t ps = made_from me (λ q. record { from = me; to = AtNode (record { replica = me.replica; partition = q }); content = Warm (local_sets (site_of parts q) t.sets) }) (λ n. refl) ps

  module _ (m : Meaning Args Row Reply) (c : Config) (x next : NodeState Args Row) (sent : List (Packet Args Row Reply)) where
    same_from : (packets : List (Packet Args Row Reply)) → sent ≡ packets → AllFrom x.id packets → AllFrom x.id sent
    same_from packets same from = subst (AllFrom x.id) (sym same) from

    synod_from : (letters : Letters (Batch Args)) (given : Option (Slot × Batch Args)) → sent ≡ synod_packets c.replicas x.id letters ++ telling c.partitions x.id given → AllFrom x.id sent
    synod_from letters given same = same_from (synod_packets c.replicas x.id letters ++ telling c.partitions x.id given) same
        (both_from x.id (synod_packets c.replicas x.id letters) (telling c.partitions x.id given) (letters_from c.replicas x.id letters) (telling_from c.partitions x.id given))

    silent : sent ≡ [] → AllFrom x.id sent
    silent same = same_from [] same (none_from x.id)

    pub handles_from : (from : NodeId) (content : Content Args Row Reply) → Handles m c from content x next sent → AllFrom x.id sent
    handles_from from (Synod message) (own, s, letters, given, is, now, same) = synod_from letters given same
    handles_from from (Decided slot batch) (now, same) = silent same
    handles_from from (AskBatch slot) (batch, held, now, same) = same_from (record { from = x.id; to = AtNode from; content = Decided slot batch } ∷ []) same (one_from (record { from = x.id; to = AtNode from; content = Decided slot batch }))
    handles_from from (Reads q rows) (s, receives, now, same) = silent same
    handles_from from (AskReads q) (j, has, past, now, same) = same_from (record { from = x.id; to = AtNode from; content = Reads q j.served } ∷ []) same (one_from (record { from = x.id; to = AtNode from; content = Reads q j.served }))
    handles_from from (Warm sets) (now, same) = silent same
    handles_from from (Replies q id attempt answer) never = absurd never

    pub acts_from : (act : Act Args) → Acts m c act x next sent → AllFrom x.id sent
    acts_from (Submit t) (now, same) = silent same
    acts_from (SubmitCold t) (now, same) = same_from (warm_packets c.partitions x.id t (participants c.partitions t)) same (warm_from c.partitions x.id t (participants c.partitions t))
    acts_from (Cool k) (now, same) = silent same
    acts_from Close (now, same) = silent same
    acts_from (Propose e) (batch, closed, s, letters, given, is, now, same) = synod_from letters given same
    acts_from Merge (held, now, same) = silent same
    acts_from Lock (q, t, rest, is, now, same) = silent same
    acts_from (Begin q) (s, j, begins, has, past, now, same) =
        same_from _ same
        (some_from x.id (reads_here (site_of c.partitions x.id.partition) j.request) (to_each x.id x.id.replica (Reads q j.served) (other_active (site_of c.partitions x.id.partition) j.request)) (each_from x.id x.id.replica (Reads q j.served) (other_active (site_of c.partitions x.id.partition) j.request)))
    acts_from (Finish q) (s, a, b, now, same) = same_from _ same (one_from _)
    acts_from (Snapshot e) (rows, s, takes, now, same) = silent same
    acts_from (Mark e) (s, marks, now, same) = silent same
    acts_from (AskForReads q r) (ps, now, same) = same_from (to_each x.id r (AskReads q) ps) same (each_from x.id r (AskReads q) ps)
    acts_from (AskForBatch slot of) (now, same) = same_from (record { from = x.id; to = AtNode of; content = AskBatch slot } ∷ []) same (one_from (record { from = x.id; to = AtNode of; content = AskBatch slot }))
    acts_from Restart (now, same) = silent same

  -- ---- what a node has sent

  all_by : (me : NodeId) (packets : List (Packet Args Row Reply)) → AllFrom me packets → sent_by me packets ≡ packets
  all_by me [] from = refl
  all_by me (p ∷ packets) from =
      (λ i. cond (is i) (p ∷ sent_by me packets) (sent_by me packets)) ∙ ap (λ (ps : List (Packet Args Row Reply)). p ∷ ps) (all_by me packets (λ q c. from q (rest_too p packets q c)))
    where
      is : same_node p.from me ≡ true
      is = ap (λ id. same_node id me) (from p (first_in p packets)) ∙ same_node_self me

  none_by : (me id : NodeId) → same_node me id ≡ false → (packets : List (Packet Args Row Reply)) → AllFrom me packets → sent_by id packets ≡ []
  none_by me id apart [] from = refl
  none_by me id apart (p ∷ packets) from =
      (λ i. cond (is i) (p ∷ sent_by id packets) (sent_by id packets)) ∙ none_by me id apart packets (λ q c. from q (rest_too p packets q c))
    where
      is : same_node p.from id ≡ false
      is = ap (λ a. same_node a id) (from p (first_in p packets)) ∙ apart

  pub sent_more_here : (me : NodeId) (packets more : List (Packet Args Row Reply)) → AllFrom me more → sent_by me (packets ++ more) ≡ sent_by me packets ++ more
  sent_more_here me packets more from = filter-append (λ p. same_node p.from me) packets more ∙ ap (λ (ps : List (Packet Args Row Reply)). sent_by me packets ++ ps) (all_by me more from)

  pub sent_more_elsewhere : (me id : NodeId) → same_node me id ≡ false → (packets more : List (Packet Args Row Reply)) → AllFrom me more → sent_by id (packets ++ more) ≡ sent_by id packets
  sent_more_elsewhere me id apart packets more from =
      filter-append (λ p. same_node p.from id) packets more ∙ ap (λ (ps : List (Packet Args Row Reply)). sent_by id packets ++ ps) (none_by me id apart more from) ∙ append-nil (sent_by id packets)
