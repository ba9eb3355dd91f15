-- What grows nothing sends nothing.
use Rattle.std.proofs.Common.{◌≡◌, ℕ, Bool, true, false, cond, ◌&&◌, List, [], ◌∷◌, ◌++◌, length, None, refl, sym, ap, ◌∙◌, max, arith}
use Rattle.std.specs.Prelude.{nat_lt}
use Rattle.std.specs.FinMap.{get}
use Rattle.std.proofs.lemmas.Bool.{false≢true, lt-ltb}
use Rattle.std.proofs.lemmas.Option.{same_Some}
use Rattle.calvin_types.specs.declared.fault.Fault.TheVariants.{NotCurrent}
use Rattle.calvin_types.specs.declared.place.NodeId.{NodeId}
use Rattle.calvin_types.specs.Participants.{Site}
use Rattle.calvin_types.specs.Places.{place_cmp}
use Rattle.calvin_types.proofs.ExactMaps.{insert_here}
use Rattle.calvin_types.proofs.PlaceOrder.{place_total, place_exact}
use Rattle.calvin_app.specs.Meaning.{Meaning}
use Rattle.calvin_synod.specs.Cases as synod
use Rattle.calvin_synod.specs.Cases.{Letters, Silent}
use Rattle.calvin_synod.specs.Roles.{refused_at}
use Rattle.calvin_synod.specs.declared.message.Message.{Message}
use Rattle.calvin_synod.specs.declared.message.Message.TheVariants.{Prepare, Promise, Accept, Refused, Accepted}
use Rattle.calvin_order.specs.Configs.{Config}
use Rattle.calvin_order.specs.Merged.{Batch}
use Rattle.calvin_sched.specs.Scheduling.{Turn, Scheduling, reads_here, other_active}
use Rattle.calvin_sched.specs.Steps.{begun_turn}
use Rattle.calvin_bench.specs.Turns.{site_of}
use Rattle.calvin_node_acts.specs.declared.act.Act.{Act}
use Rattle.calvin_node_acts.specs.declared.act.Act.TheVariants.{Submit, SubmitCold, Cool, Close, Merge, Lock, Restart, Propose, Snapshot, Mark, Begin, Finish, AskForReads, AskForBatch}
use Rattle.calvin_synod.specs.Cases.{message_grows}
use Rattle.calvin_sched.specs.Scheduling.{serves_others}
use Rattle.calvin_node_acts.specs.Growing.{act_grows, content_grows}
use Rattle.calvin_node_acts.specs.NodeStates.{NodeState}
use Rattle.calvin_node_packets.specs.declared.packet.Packet.{Packet}
use Rattle.calvin_node_packets.specs.declared.packet.Content.{Content}
use Rattle.calvin_node_packets.specs.declared.packet.Content.TheVariants.{Synod, Decided, AskBatch, Reads, AskReads, Warm, Replies}
use Rattle.calvin_node_packets.specs.Packets.{to_each, synod_packets, telling}
use Rattle.calvin_world.proofs.Cases.{Handles, Acts}

module _ {Args Row Reply : Type 0} (m : Meaning Args Row Reply) (config : Config) (x next : NodeState Args Row) (sent : List (Packet Args Row Reply)) where
  not_growing : {P : Type 0} → ◌≡◌ {A = Bool} true false → P
  not_growing h = absurd (false≢true (sym h))

  pub acts_silent : (act : Act Args) → act_grows config act x ≡ false → Acts m config act x next sent → sent ≡ []
  acts_silent (Submit t) h d = not_growing h
  acts_silent (SubmitCold t) h d = not_growing h
  acts_silent (Cool k) h d = not_growing h
  acts_silent Close h d = not_growing h
  acts_silent Restart h (e, f) = f
  acts_silent (Propose n) h d = not_growing h
  acts_silent (Snapshot n) h d = not_growing h
  acts_silent (Finish q) h d = not_growing h
  acts_silent (AskForReads q r) h d = not_growing h
  acts_silent (AskForBatch slot of) h d = not_growing h
  acts_silent Merge h (all_held, e, f) = f
  acts_silent Lock h (q, t, rest, first, e, f) = f
  acts_silent (Mark n) h (s, marks, e, f) = f
  acts_silent (Begin q) h (s, j, b, has, began, e, f) =
      let here : Site = site_of config.partitions x.id.partition in
      let turn = begun_turn here x.scheduler.store.map b.turn in
      let is : turn ≡ j = same_Some _ _ (sym (insert_here place_cmp place_total place_exact x.scheduler.turns q turn) ∙ ap (λ (s : Scheduling Args Row). get s.turns q) (sym b.now) ∙ has) in
      let none : (reads_here here j.request && nat_lt 0 (length (other_active here j.request))) ≡ false = ap (λ (j : Turn Args Row). reads_here here j.request && nat_lt 0 (length (other_active here j.request))) (sym is) ∙ ap (serves_others here) (sym b.has_turn) ∙ h in
      f ∙ to_nobody (reads_here here j.request) (other_active here j.request) none
    where
      to_nobody : (r : Bool) (ps : List ℕ) → (r && nat_lt 0 (length ps)) ≡ false → cond r (to_each {Args = Args} {Row = Row} {Reply = Reply} x.id x.id.replica (Reads q j.served) ps) [] ≡ []
      to_nobody true [] h = refl
      to_nobody true (p ∷ ps) h = not_growing (sym (lt-ltb 0 (length (p ∷ ps)) (omega arith)) ∙ h)
      to_nobody false ps h = refl

  message_silent : (from : NodeId) (message : Message (Batch Args)) → message_grows message ≡ false → Handles m config from (Synod message) x next sent → sent ≡ []
  message_silent from (Prepare slot ballot) h d = not_growing h
  message_silent from (Promise slot ballot vote) h d = not_growing h
  message_silent from (Accept slot ballot batch) h d = not_growing h
  message_silent from (Accepted slot ballot batch) h d = not_growing h
  message_silent from (Refused slot ballot promise) h (own, s, letters, given, does, e, f) = f ∙ go (nat_lt (max x.synod.proposer.used x.synod.proposer.seen) promise.round) does
    where
      go : (b : Bool) → cond b (synod.Does (record x.synod { proposer = refused_at x.synod.proposer promise }) Silent None) (synod.Refuses NotCurrent) ≡ synod.Does s letters given
          → (synod_packets {Args = Args} {Row = Row} {Reply = Reply} config.replicas x.id letters ++ telling config.partitions x.id given) ≡ []
      go true does =
          let quiet : Silent ≡ letters = cc in
          let none : None ≡ given = cc in
          λ i. synod_packets config.replicas x.id (sym quiet i) ++ telling config.partitions x.id (sym none i)
      go false does = absurd (cc)

  pub content_silent : (from : NodeId) (content : Content Args Row Reply) → content_grows config content x ≡ false → Handles m config from content x next sent → sent ≡ []
  content_silent from (Synod message) h d = message_silent from message h d
  content_silent from (Decided slot batch) h d = not_growing h
  content_silent from (AskBatch slot) h d = not_growing h
  content_silent from (Reads place rows) h (s, receives, e, f) = f
  content_silent from (AskReads place) h d = not_growing h
  content_silent from (Warm sets) h (e, f) = f
  content_silent from (Replies place id attempt answer) h d = absurd d
