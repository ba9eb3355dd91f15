-- The replies that were sent at the places of epochs at whose ends every node of a replica stands are those of the serial run.
use Rattle.std.proofs.Common.{◌≡◌, ℕ, suc, ◌-◌, ◌<◌, ◌≤◌, Bool, true, false, cond, List, ◌++◌, refl, sym, ap, subst, ◌∙◌, map, arith, Option, Some, None}
use Rattle.std.specs.Prelude.{nat_lt}
use Rattle.std.specs.List.{Contains}
use Rattle.std.specs.FinMap.{empty, entries, entries_sorted}
use Rattle.std.specs.FinMap.Entries.{find, find-where_key, is_sorted-where_key, same_entries}
use Rattle.std.proofs.lemmas.Bool.{and_parts, leb-true, ltb-false, ltb-true}
use Rattle.calvin_types.specs.declared.place.NodeId.{NodeId}
use Rattle.calvin_types.specs.declared.place.Place.{Place}
use Rattle.calvin_types.specs.declared.place.RequestId.{RequestId}
use Rattle.calvin_types.specs.declared.place.Slot.{Slot}
use Rattle.calvin_types.specs.declared.txn.Txn.{Txn}
use Rattle.calvin_types.specs.Orders.{StandsAt}
use Rattle.calvin_types.specs.Participants.{site, is_active}
use Rattle.calvin_types.specs.Places.{place_cmp}
use Rattle.calvin_types.specs.Submitting.{has_key}
use Rattle.calvin_types.proofs.PlaceOrder.{place_total, place_exact}
use Rattle.calvin_app.specs.declared.answer.Answer.{Answer}
use Rattle.calvin_app.specs.Meaning.{Meaning, WritesWithin}
use Rattle.calvin_app.specs.Serial.{serial, answers_by_place}
use Rattle.calvin_synod.proofs.Majorities.{majority_member}
use Rattle.calvin_order.specs.Configs.{Config, stretch, order}
use Rattle.calvin_order.specs.Merged.{Batch, Assignment}
use Rattle.calvin_order.proofs.Epochs.{stretch_stands, stretch_same, stretch_on, order_rises}
use Rattle.calvin_order.proofs.Standing.{stands_left}
use Rattle.calvin_node_acts.specs.NodeStates.{NodeState}
use Rattle.calvin_node_packets.specs.declared.packet.Packet.{Packet}
use Rattle.calvin_node_packets.specs.declared.packet.Content.TheVariants.{Replies}
use Rattle.calvin_text.specs.Texts.{lines}
use Rattle.calvin_world.specs.declared.event.Event.{Event}
use Rattle.calvin_world.specs.declared.event.Outcome.{Outcome}
use Rattle.calvin_world.specs.Worlds.{WorldState, opening}
use Rattle.calvin_world.specs.SettledWorlds.{SettledLeads}
use Rattle.calvin_world.specs.Promises.{StandsAtEnd, IsNode, Chosen, IsChosenUpTo, IsSerial}
use Rattle.calvin_world.proofs.Sequencers.{slot_at}
use Rattle.calvin_world.proofs.Submissions.{stands_batch}
use Rattle.calvin_world.proofs.SettledLaws.{serial_in_code, agrees_in_code, there_in_code, submitted_in_code}
use Rattle.calvin_report.specs.Replies.{ByPlace, replied, first_epochs, reply_lines}
use Rattle.calvin_report.proofs.ByPlace.{find_entries}
use Rattle.calvin_report.proofs.Told.{told_of, lines_told, told_sorted, told_none, told_find, more_answers}
use Rattle.calvin_report.proofs.Sent.{told, found_sent, none_sent}
use Rattle.calvin_report.proofs.Keyed.{sometime_keyed, runs_somewhere}

-- a node that stands at the end of some epochs has merged them
pub stood_merged : {Args Row : Type 0} (x : NodeState Args Row) (f : ℕ) → StandsAtEnd x f → f ≤ x.merged_epochs
stood_merged x f stands = leb-true f x.merged_epochs (and_parts _ _ (and_parts _ _ (and_parts _ _ stands).0).0).0

module _ {Args Row Reply : Type 0} (m : Meaning Args Row Reply) (law : WritesWithin m) (c : Config) (events : List (Event Args)) (outcomes : List Outcome) (v : WorldState Args Row Reply) (leads : SettledLeads m (opening c) events outcomes v) where
  -- two chosen batches of one slot are the same
  one : (slot : Slot) (a b : Batch Args) → Chosen v slot a → Chosen v slot b → a ≡ b
  one = let all = agrees_in_code m law c events outcomes v leads in subst (λ (u : WorldState Args Row Reply). (slot : Slot) (a b : Batch Args) → Chosen u slot a → Chosen u slot b → a ≡ b) (sym all.2) all.1.one

  pub run : IsSerial m v
  run = serial_in_code m law c events outcomes v leads

  -- what stands in a chosen batch has a key
  keyed : (slot : Slot) (batch : Batch Args) → Chosen v slot batch → (t : Txn Args) → Contains batch t → has_key t.sets ≡ true
  keyed slot batch chosen t there = let was = submitted_in_code m law c events outcomes v leads in sometime_keyed m slot t (opening c) events outcomes was.0 was.1 (was.3 slot batch chosen t there)

  -- each node whose replica isn't among the lost ones stands at the end of the first n epochs, or of more; and there is such a replica
  pub record AllStand (lost : ℕ → Bool) (n : ℕ) : Type 0 where
    pub stand : (id : NodeId) (x : NodeState Args Row) → IsNode v id x → lost id.replica ≡ false → (f : ℕ) × (n ≤ f) × StandsAtEnd x f
    pub other : (r : ℕ) → r < v.config.replicas → (k : ℕ) × (k < v.config.replicas) × (lost k ≡ false)

  module _ (n : ℕ) (B : Assignment Args) (chosen : IsChosenUpTo v B n) where
    -- each assignment of what is chosen has the same order so far
    same_order : (C : Assignment Args) (f : ℕ) → n ≤ f → IsChosenUpTo v C f → order v.config B n ≡ order v.config C n
    same_order C f upto other = stretch_same v.config B C 0 n (λ slot low high less.
        let early : slot.epoch < n = omega (arith, high) in
        one slot (B slot) (C slot) (chosen slot early less) (other slot (omega (arith, early, upto)) less))

    -- a node that stands later and runs a request has replied to it
    replied_by : (id : NodeId) (x : NodeState Args Row) → IsNode v id x → (f : ℕ) → n ≤ f → StandsAtEnd x f → (q : Place) (t : Txn Args) → StandsAt (order v.config B n) q t → is_active (site v.config.partitions id.partition) t ≡ true
        → (p : Packet Args Row Reply) × Contains v.packets p × (attempt : ℕ) × (answer : Answer Reply) × (p.content ≡ Replies q t.id attempt answer)
    replied_by id x node f upto stands q t at active =
        let all = run.settled in
        let merged = stood_merged x f stands in
        let bound = all.2.merges id x node in
        let later : IsChosenUpTo v all.0 f = λ slot less group. all.2.chosen slot (omega (arith, less, merged, bound)) group in
        let there : StandsAt (order v.config all.0 f) q t =
        subst (λ es. StandsAt es q t) (sym (stretch_on v.config all.0 0 n (f - n) f n (omega (arith, upto)) (omega arith)))
        (stands_left (order v.config all.0 n) (stretch v.config all.0 n (f - n)) q t (subst (λ es. StandsAt es q t) (same_order all.0 f upto later) at)) in
        let sent = run.sent id x node f stands all.0 later q t there active in
        (sent.0, sent.1, t.attempt, sent.3, sent.4)

    -- each of its requests is run by some node of a replica that isn't lost
    run_by : (lost : ℕ → Bool) → AllStand lost n → (q : Place) (t : Txn Args) → StandsAt (order v.config B n) q t
        → (id : NodeId) × (x : NodeState Args Row) × IsNode v id x × (is_active (site v.config.partitions id.partition) t ≡ true) × (lost id.replica ≡ false)
    run_by lost all q t at =
        let below = (stretch_stands v.config B 0 n q t at).1 in
        let early : q.epoch < n = omega (arith, below) in
        let found = stands_batch v.config B 0 n q t at in
        let less = found.1 in
        let slot = slot_at found.0 q.epoch in
        let is_chosen = chosen slot early less in
        let voter = majority_member is_chosen.2 in
        let runs = runs_somewhere v.config.partitions t (omega (arith, less)) (keyed slot (B slot) is_chosen t found.2) in
        let kept = all.other voter.0 (is_chosen.2.within voter.0 voter.1) in
        let node = there_in_code m law c events outcomes v leads (record { replica = kept.0; partition = runs.0 }) kept.1 runs.1 in
        (record { replica = kept.0; partition = runs.0 }, node.0, node.1, runs.2, kept.2)

    -- each of its requests was replied to
    answered : (lost : ℕ → Bool) → AllStand lost n → (q : Place) (t : Txn Args) → StandsAt (order v.config B n) q t → (p : Packet Args Row Reply) × Contains v.packets p × (attempt : ℕ) × (answer : Answer Reply) × (p.content ≡ Replies q t.id attempt answer)
    answered lost all q t at =
        let by = run_by lost all q t at in
        let stands = all.stand by.0 by.1 by.2 by.4 in
        replied_by by.0 by.1 by.2 stands.0 stands.1 stands.2 q t at by.3

    -- each reply there is the one of the serial run
    right : (p : Packet Args Row Reply) → Contains v.packets p → (q : Place) (id : RequestId) (attempt : ℕ) (answer : Answer Reply) → p.content ≡ Replies q id attempt answer → q.epoch < n
        → Contains (answers_by_place m (order v.config B n) empty) (q, answer) × (t : Txn Args) × StandsAt (order v.config B n) q t × (id ≡ t.id)
    right p sent q id attempt answer says early =
        let is = run.replies p sent q id attempt answer says B (λ slot less group. chosen slot (omega (arith, less, early)) group) in
        let goes_on : order v.config B n ≡ order v.config B (suc q.epoch) ++ stretch v.config B (suc q.epoch) (n - suc q.epoch) = stretch_on v.config B 0 (suc q.epoch) (n - suc q.epoch) n (suc q.epoch) (omega (arith, early)) (omega arith) in (
          subst (λ es. Contains (answers_by_place m es empty) (q, answer)) (sym goes_on) (more_answers m (order v.config B (suc q.epoch)) (stretch v.config B (suc q.epoch) (n - suc q.epoch)) empty (q, answer) is.0),
          is.1,
          subst (λ es. StandsAt es q is.1) (sym goes_on) (stands_left (order v.config B (suc q.epoch)) (stretch v.config B (suc q.epoch) (n - suc q.epoch)) q is.1 is.2),
          is.3,
        )

    -- what was replied at the places of these epochs, and what the serial run answers there
    abbrev sent_there : ByPlace Reply
    sent_there = first_epochs n (entries (replied v.packets))

    abbrev serially : ByPlace Reply
    serially = told_of (order v.config B n) (serial m (map (λ e. e.1) (order v.config B n)) empty).1

    found_there : (q : Place) → find place_cmp q sent_there ≡ cond (nat_lt q.epoch n) (find place_cmp q (told v.packets)) None
    found_there q =
        find-where_key place_cmp (λ p. nat_lt p.epoch n) q (λ p same. ap (λ (r : Place). nat_lt r.epoch n) (sym (place_exact q p same))) (entries (replied v.packets))
        ∙ ap (λ o. cond (nat_lt q.epoch n) o None) (find_entries (told v.packets) q)

    alike : (lost : ℕ → Bool) → (0 < n → AllStand lost n) → (q : Place) → find place_cmp q sent_there ≡ find place_cmp q serially
    alike lost all q = found_there q ∙ go (nat_lt q.epoch n) refl
      where
        at_none : q.epoch < n → find place_cmp q (told v.packets) ≡ None → find place_cmp q (told_of (order v.config B n) (serial m (map (λ e. e.1) (order v.config B n)) empty).1) ≡ None
        at_none early none = told_none (order v.config B n) _ q (λ t at.
            let by = answered lost (all (omega (arith, early))) q t at in
            none_sent v.packets q none by.0 by.1 t.id by.2 by.3 by.4)

        at_some : q.epoch < n → (x : RequestId × Answer Reply) → find place_cmp q (told v.packets) ≡ Some x → find place_cmp q (told_of (order v.config B n) (serial m (map (λ e. e.1) (order v.config B n)) empty).1) ≡ Some x
        at_some early x found =
            let sent = found_sent v.packets q x found in
            let is = right sent.0 sent.1 q x.0 sent.2 x.1 sent.3 early in
            told_find (order v.config B n) _ (order_rises v.config B n) q is.1 x.1 is.2 is.0 ∙ ap (λ id. Some (id, x.1)) (sym is.3)

        within : q.epoch < n → (o : Option (RequestId × Answer Reply)) → find place_cmp q (told v.packets) ≡ o → o ≡ find place_cmp q (told_of (order v.config B n) (serial m (map (λ e. e.1) (order v.config B n)) empty).1)
        within early None is = sym (at_none early is)
        within early (Some x) is = sym (at_some early x is)

        go : (b : Bool) → nat_lt q.epoch n ≡ b → cond b (find place_cmp q (told v.packets)) None ≡ find place_cmp q (told_of (order v.config B n) (serial m (map (λ e. e.1) (order v.config B n)) empty).1)
        go true is = within (ltb-true q.epoch n is) (find place_cmp q (told v.packets)) refl
        go false is = sym (told_none (order v.config B n) _ q (λ t at.
            let below = (stretch_stands v.config B 0 n q t at).1 in
            let late = ltb-false q.epoch n is in
            absurd (omega (arith, below, late))))

    -- so they are one
    pub one_text : (lost : ℕ → Bool) → (0 < n → AllStand lost n) → (show : Reply → List ℕ) → reply_lines show (first_epochs n (entries (replied v.packets))) ≡ lines show (order v.config B n) (serial m (map (λ e. e.1) (order v.config B n)) empty).1
    one_text lost all show =
        ap (reply_lines show) (same_entries place_cmp place_total place_exact sent_there serially
        (is_sorted-where_key place_cmp (λ p. nat_lt p.epoch n) (entries (replied v.packets)) (entries_sorted (replied v.packets)))
        (told_sorted (order v.config B n) _ (order_rises v.config B n))
        (alike lost all))
        ∙ lines_told show (order v.config B n) _
