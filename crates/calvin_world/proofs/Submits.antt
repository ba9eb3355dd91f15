-- Whatever is proposed was submitted: a property of submitted requests is one of all requests in batches.
use Rattle.std.proofs.Common.{◌≡◌, ◌≢◌, ℕ, ◌<◌, ◌≤◌, Bool, true, false, cond, List, [], ◌∷◌, ◌++◌, ◌⊎◌, inl, inr, refl, sym, ap, ◌∙◌, subst, arith, Option, Some, None}
use Rattle.std.specs.Prelude.{slice_get, slice_set, ◌==◌}
use Rattle.std.specs.List.{Contains, AllByRecursion}
use Rattle.std.specs.FinMap.{FinMap, get, get-empty}
use Rattle.std.proofs.lemmas.Bool.{cases_eq, false≢true}
use Rattle.std.proofs.lemmas.Option.{none-some, same_Some}
use Rattle.calvin_types.specs.declared.key_set.Sets.{Sets}
use Rattle.calvin_types.specs.declared.place.NodeId.{NodeId}
use Rattle.calvin_types.specs.declared.place.Slot.{Slot}
use Rattle.calvin_types.specs.declared.place.Ballot.{Ballot}
use Rattle.calvin_types.specs.declared.txn.Txn.{Txn}
use Rattle.calvin_types.specs.Places.{slot_cmp}
use Rattle.calvin_app.specs.Meaning.{Meaning}
use Rattle.calvin_synod.specs.declared.vote.Vote.{Vote}
use Rattle.calvin_synod.specs.declared.attempt.Report.{Report}
use Rattle.calvin_synod.specs.declared.attempt.Attempt.{Attempt}
use Rattle.calvin_synod.specs.declared.message.Message.{Message}
use Rattle.calvin_synod.specs.Cases.{slot_of, Replica, Letters, Deed, Does, handle}
use Rattle.calvin_synod.proofs.Core.{Reports, Proposes}
use Rattle.calvin_order.specs.Merged.{Batch}
use Rattle.calvin_order.specs.Sequencing.{Sequencing, is_used, ticked, delayed, closing, decide}
use Rattle.calvin_sched.specs.Scheduling.{reads_here, other_active}
use Rattle.calvin_bench.specs.Turns.{site_of}
use Rattle.calvin_node_packets.specs.declared.packet.Content.{Content}
use Rattle.calvin_node_packets.specs.declared.packet.Packet.{Packet}
use Rattle.calvin_node_packets.specs.declared.packet.Content.TheVariants.{Synod, Decided, AskBatch, Reads, AskReads, Warm, Replies}
use Rattle.calvin_node_packets.specs.Packets.{synod_packets, participants, warm_packets, telling}
use Rattle.calvin_node_acts.specs.NodeStates.{NodeState, own_slot, with_synod, holding, restarted}
use Rattle.calvin_node_acts.specs.Handling.{counted}
use Rattle.calvin_node_acts.specs.declared.act.Act.{Act}
use Rattle.calvin_node_acts.specs.declared.act.Act.TheVariants.{Submit, SubmitCold, Cool, Close, Merge, Lock, Restart, Propose, Snapshot, Mark, Begin, Finish, AskForReads, AskForBatch}
use Rattle.calvin_node_acts.specs.Acting.{submitted}
use Rattle.calvin_world.specs.Worlds.{WorldState, index_of}
use Rattle.calvin_world.specs.Promises.{IsNode}
use Rattle.calvin_world.proofs.Cases.{Handles, Acts, restarted_synod}
use Rattle.calvin_bench.proofs.Lists.{set_here, set_other, none_in, only_in}
use Rattle.calvin_world.proofs.Kept.{sent_in, sent_cases, AreQuiet, none_quiet, each_quiet, quiet_says_nothing, letters_say, say_more, Kept, its_id, after, seat_before}
use Rattle.calvin_world.proofs.Owed.{telling_word, warm_word}
use Rattle.calvin_synod.proofs.Proposing.{AreGood, IsGoodDeed, handle_good, propose_good}
use Rattle.calvin_world.proofs.Sequencers.{slot_at, AllP, ValidSequencer, submit_valid, ripened_valid, ticked_valid, delayed_valid, close_valid, decide_valid}

module _ {Args : Type 0} (P : Slot → Txn Args → Type 0) where
  -- what a node keeps of requests
  pub record ValidParts (p : ℕ) (attempts : FinMap slot_cmp (Attempt (Batch Args))) (s : Sequencing Args) : Type 0 where
    pub own : (k : Slot) (t : Attempt (Batch Args)) → get attempts k ≡ Some t → AllP P k t.own
    pub sequencer : ValidSequencer P p s

module _ {Args Row : Type 0} (P : Slot → Txn Args → Type 0) where
  abbrev pub ValidNode : NodeState Args Row → Type 0
  ValidNode x = ValidParts P x.id.partition x.synod.proposer.attempts x.sequencer

module _ {Args Row Reply : Type 0} (m : Meaning Args Row Reply) (P : Slot → Txn Args → Type 0) (up : (g e f : ℕ) (t : Txn Args) → e ≤ f → P (slot_at g e) t → P (slot_at g f) t) where
  pub record Valid (w : WorldState Args Row Reply) : Type 0 where
    pub nodes : (i : ℕ) (x : NodeState Args Row) → slice_get w.nodes i ≡ Some x → ValidNode {Row = Row} P x
    pub proposed : (slot : Slot) → slot.group < w.config.partitions → (b : Ballot) (v : Batch Args) → sent_in w.packets slot (Proposes b v) → AllP P slot v

  -- a request that is submitted has the property from the epochs on that are open at its node
  abbrev pub IsFit : Act Args → NodeState Args Row → Type 0
  IsFit act x = (t : Txn Args) → submitted act ≡ Some t → (n : ℕ) → x.sequencer.opening ≤ n → is_used x.sequencer n ≡ false → P (slot_at x.id.partition n) t

  -- a slot more is held
  held_valid : (x : NodeState Args Row) (slot : Slot) (batch : Batch Args) → ValidNode {Row = Row} P x → ValidNode {Row = Row} P (holding x slot batch)
  held_valid x slot batch v = go (slot.group == x.id.partition)
    where
      go : (b : Bool) → ValidParts P x.id.partition x.synod.proposer.attempts (cond b (decide slot.epoch batch x.sequencer) x.sequencer)
      go true = record { own = v.own; sequencer = decide_valid P up x.id.partition x.sequencer v.sequencer slot.epoch batch }
      go false = v

  counted_valid : (x : NodeState Args Row) (given : Option (Slot × Batch Args)) → ValidNode {Row = Row} P x → ValidNode {Row = Row} P (counted x given)
  counted_valid x None v = v
  counted_valid x (Some g) v = held_valid x g.0 g.1 v

  different : {u : Message (Batch Args)} {slot : Slot} {batch : Batch Args} → ◌≡◌ {A = Content Args Row Reply} (Synod u) (Decided slot batch) → ⊥
  different e = cc

  module _ (w : WorldState Args Row Reply) (kept : Kept w) (valid : Valid w) (me : NodeId) (x : NodeState Args Row) (is : IsNode w me x) where
    pub record Stays (next : NodeState Args Row) (sent : List (Packet Args Row Reply)) : Type 0 where
      pub node : ValidNode {Row = Row} P next
      pub proposed : (slot : Slot) → slot.group < w.config.partitions → (b : Ballot) (v : Batch Args) → sent_in sent slot (Proposes b v) → AllP P slot v

    old : ValidNode {Row = Row} P x
    old = valid.nodes (index_of w.config.partitions me) x is.there

    pub stays_valid : (next : NodeState Args Row) (sent : List (Packet Args Row Reply)) → Stays next sent → Valid (after w me x next sent is)
    stays_valid next sent s = record {
      nodes = λ i y there. node i y there (cases_eq i (index_of w.config.partitions me));
      proposed = λ slot less b v c. elim (sent_cases w.packets sent slot (Proposes b v) c) [ inl o ↦ valid.proposed slot less b v o | inr new ↦ s.proposed slot less b v new ];
    }
      where
        node : (i : ℕ) (y : NodeState Args Row) → slice_get (slice_set w.nodes (index_of w.config.partitions me) next) i ≡ Some y → (i ≡ index_of w.config.partitions me) ⊎ (i ≢ index_of w.config.partitions me) → ValidNode {Row = Row} P y
        node i y there (inl e) = subst (ValidNode {Row = Row} P) (same_Some _ _ (sym (set_here w.nodes (index_of w.config.partitions me) next x is.there) ∙ ap (slice_get (slice_set w.nodes (index_of w.config.partitions me) next)) (sym e) ∙ there)) s.node
        node i y there (inr apart) = valid.nodes i y (sym (set_other w.nodes (index_of w.config.partitions me) i next apart) ∙ there)

    by_both : (next y : NodeState Args Row) (sent packets : List (Packet Args Row Reply)) → next ≡ y → sent ≡ packets → Stays y packets → Stays next sent
    by_both next y sent packets e f done = subst (λ (z : NodeState Args Row × List (Packet Args Row Reply)). Stays z.0 z.1) (λ i. (sym e i, sym f i)) done

    quietly : (y : NodeState Args Row) (packets : List (Packet Args Row Reply)) → ValidNode {Row = Row} P y → AreQuiet packets → Stays y packets
    quietly y packets v quiet = record { node = v; proposed = λ slot less b z c. absurd (quiet_says_nothing packets quiet slot (Proposes b z) c) }

    -- what was reported was voted for, and so proposed
    voted_good : (k : Slot) → k.group < w.config.partitions → (from : ℕ) (b : Ballot) (u : Vote (Batch Args)) → sent_in w.packets k (Reports from b (Some u)) → AllP P k u.batch
    voted_good k less from b u s = let sound = (kept.synod k less).sound in valid.proposed k less u.ballot u.batch (sound.vote_proposed from u.ballot u.batch (sound.report_cast from b u s))

    reports_good : (k : Slot) → k.group < w.config.partitions → (b : Ballot) (reports : List (Report (Batch Args))) → AllByRecursion (λ (r : Report (Batch Args)). sent_in w.packets k (Reports r.from b r.vote)) reports → AreGood (AllP P k) reports
    reports_good k less b [] all = tt
    reports_good k less b (r ∷ rs) all = (λ u e. voted_good k less r.from b u (subst (λ v. sent_in w.packets k (Reports r.from b v)) e all.0), reports_good k less b rs all.1)

    same_me : x.id ≡ me
    same_me = its_id w kept me x is

    own_less : (k : Slot) → k.group ≡ x.id.partition → k.group < w.config.partitions
    own_less k e = subst (λ p. p < w.config.partitions) (sym (e ∙ ap (λ id. id.partition) same_me)) is.partition

    good_message : (p : Packet Args Row Reply) (u : Message (Batch Args)) → Contains w.packets p → p.content ≡ Synod u → (slot_of u).group ≡ x.id.partition → IsGoodDeed (AllP P) x.id.replica x.synod old.own (handle w.config.replicas p.from.replica u x.synod)
    good_message p u c content own = handle_good (AllP P) x.id.replica x.synod old.own w.config.replicas p.from.replica u
        (λ k b v e. voted_good k (own_less k (ap (λ z. (slot_of z).group) (sym e) ∙ own)) p.from.replica b v (p, c, (refl, content ∙ ap Synod e)))
        (λ t e. reports_good (slot_of u) (own_less (slot_of u) own) t.ballot t.counted
        ((kept.synod (slot_of u) (own_less (slot_of u) own)).fair me.replica t (ap (λ s. s.attempt) (seat_before w me x x [] is (slot_of u) (own ∙ ap (λ id. id.partition) same_me)) ∙ e)).reported)

    some : 0 < w.config.replicas
    some = let r = is.replica in omega (arith, r)

    -- the deed of a synod, in a node that may also hold a slot more
    deed_stays : (deed : Deed (Batch Args)) (s : Replica (Batch Args)) (letters : Letters (Batch Args)) (given : Option (Slot × Batch Args)) → IsGoodDeed (AllP P) x.id.replica x.synod old.own deed → deed ≡ Does s letters given → Stays (counted (with_synod x s) given) (synod_packets w.config.replicas x.id letters ++ telling w.config.partitions x.id given)
    deed_stays deed s letters given good e =
        let both = subst (IsGoodDeed (AllP P) x.id.replica x.synod old.own) e good in
        let quiet : AreQuiet (telling w.config.partitions x.id given) = (λ q d n g. let t = telling_word w.config.partitions x.id given q d in different (sym g ∙ t.1)) in
        let same = say_more x.id letters (synod_packets w.config.replicas x.id letters) (telling w.config.partitions x.id given) (letters_say w.config.replicas x.id letters some) quiet in
        record {
          node = counted_valid (with_synod x s) given (record { own = both.0; sequencer = old.sequencer });
          proposed = λ slot less b v c. both.1 slot b v (same.says slot (Proposes b v) c);
        }

    single_quiet : (a : Packet Args Row Reply) → ((u : Message (Batch Args)) → a.content ≡ Synod u → ⊥) → AreQuiet (a ∷ [])
    single_quiet a never p c u e = never u (ap (λ (p : Packet Args Row Reply). p.content) (only_in a p c) ∙ e)

    pub handles_valid : (p : Packet Args Row Reply) (content : Content Args Row Reply) → Contains w.packets p → p.content ≡ content → (next : NodeState Args Row) (sent : List (Packet Args Row Reply)) → Handles m w.config p.from content x next sent → Stays next sent
    handles_valid p (Synod u) c content next sent (own, s, letters, given, does, e, f) = by_both next _ sent _ e f (deed_stays _ s letters given (good_message p u c content own) does)
    handles_valid p (Decided k v) c content next sent (e, f) = by_both next (holding x k v) sent [] e f (quietly (holding x k v) [] (held_valid x k v old) none_quiet)
    handles_valid p (AskBatch k) c content next sent (batch, has, e, f) = by_both next x sent _ e f (quietly x _ old (single_quiet _ (λ u e. cc)))
    handles_valid p (Reads q rows) c content next sent (s, does, e, f) = by_both next _ sent [] e f (quietly _ [] old none_quiet)
    handles_valid p (Warm sets) c content next sent (e, f) = by_both next _ sent [] e f (quietly _ [] old none_quiet)
    handles_valid p (AskReads q) c content next sent (j, has, began, e, f) = by_both next x sent _ e f (quietly x _ old (single_quiet _ (λ u e. cc)))
    handles_valid p (Replies q id attempt answer) c content next sent h = absurd h

    some_quiet : (b : Bool) (packets : List (Packet Args Row Reply)) → AreQuiet packets → AreQuiet (cond b packets [])
    some_quiet true packets quiet p c u e = quiet p c u e
    some_quiet false packets quiet p c u e = none_in p c

    pub acts_valid : (act : Act Args) → IsFit act x → (next : NodeState Args Row) (sent : List (Packet Args Row Reply)) → Acts m w.config act x next sent → Stays next sent
    acts_valid (Submit t) fit next sent (e, f) = by_both next _ sent [] e f (quietly _ [] (record { own = old.own; sequencer = submit_valid P up x.id.partition x.sequencer old.sequencer t (fit t refl) }) none_quiet)
    acts_valid (SubmitCold t) fit next sent (e, f) =
        by_both next _ sent (warm_packets w.config.partitions x.id t (participants w.config.partitions t)) e f (quietly _ (warm_packets w.config.partitions x.id t (participants w.config.partitions t)) (record {
          own = old.own;
          sequencer = ripened_valid P up x.id.partition (delayed t x.sequencer) (delayed_valid P up x.id.partition x.sequencer old.sequencer t (fit t refl)) w.config.delay;
        }) (λ q d u g. let is = sym g ∙ (warm_word w.config.partitions x.id t (participants w.config.partitions t) q d).1 in not_warm is))
      where
        not_warm : {u : Message (Batch Args)} {sets : Sets} → ◌≡◌ {A = Content Args Row Reply} (Synod u) (Warm sets) → ⊥
        not_warm e = cc
    acts_valid (Cool k) fit next sent (e, f) = by_both next _ sent [] e f (quietly _ [] old none_quiet)
    acts_valid Close fit next sent (e, f) = by_both next _ sent [] e f (quietly _ [] (record {
      own = old.own;
      sequencer = ripened_valid P up x.id.partition (ticked (closing x.sequencer)) (ticked_valid P up x.id.partition (closing x.sequencer) (close_valid P up x.id.partition x.sequencer old.sequencer)) w.config.delay;
    }) none_quiet)
    acts_valid (Propose n) fit next sent (batch, closed, s, letters, given, does, e, f) =
        by_both next _ sent _ e f (deed_stays _ s letters given (propose_good (AllP P) x.id.replica x.synod old.own (own_slot x n) batch (old.sequencer.in_closed n batch closed)) does)
    acts_valid Merge fit next sent (all_held, e, f) = by_both next _ sent [] e f (quietly _ [] old none_quiet)
    acts_valid Lock fit next sent (q, t, rest, first, e, f) = by_both next _ sent [] e f (quietly _ [] old none_quiet)
    acts_valid (Begin q) fit next sent (s, j, b, has, began, e, f) =
        by_both next _ sent _ e f (quietly _ _ old
        (some_quiet (reads_here (site_of w.config.partitions x.id.partition) j.request) _ (each_quiet x.id x.id.replica (Reads q j.served) (other_active (site_of w.config.partitions x.id.partition) j.request) (λ u e. cc))))
    acts_valid (Finish q) fit next sent (s, a, b, e, f) = by_both next _ sent _ e f (quietly _ _ old (single_quiet _ (λ u e. cc)))
    acts_valid (Snapshot n) fit next sent (rows, s, takes, e, f) = by_both next _ sent [] e f (quietly _ [] old none_quiet)
    acts_valid (Mark n) fit next sent (s, marks, e, f) = by_both next _ sent [] e f (quietly _ [] old none_quiet)
    acts_valid (AskForReads q r) fit next sent (ps, e, f) = by_both next x sent _ e f (quietly x _ old (each_quiet x.id r (AskReads q) ps (λ u e. cc)))
    acts_valid (AskForBatch slot of) fit next sent (e, f) = by_both next x sent _ e f (quietly x _ old (single_quiet _ (λ u e. cc)))
    acts_valid Restart fit next sent (e, f) =
        by_both next (restarted x (restarted_synod x.synod)) sent [] e f (quietly (restarted x (restarted_synod x.synod)) [] (record {
          own = λ k t h. absurd (none-some _ (sym (get-empty slot_cmp k) ∙ h));
          sequencer = record {
            queued = λ n low unused t c. absurd (none_in t c);
            waiting = λ n low unused h c. absurd (none_in h c);
            in_closed = λ n batch h. absurd (none-some _ h);
            below = λ n is f low high. absurd (false≢true is);
          };
        }) none_quiet)
