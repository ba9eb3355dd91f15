-- A list of events that assembles beginnings of histories grows by one entry, and when none fits it is one of them all, or is stuck.
--     take_next      one more of a list
--     part_more, sent_more      the part of a longer list at a node; what is sent more
--     listed_before, indexed_after      the packets before an event are listed still, and after it the others too
--     fits_not, none_fit      an entry that doesn't fit
--     begun_none, begun_more      at first nothing is taken; one more entry of a node is
--     all_taken, some_left      the whole of each history, or no further
use Rattle.std.proofs.Common.{◌≡◌, ◌≢◌, ◌⊎◌, ℕ, zero, suc, ◌+◌, ◌*◌, ◌/◌, ◌%◌, ◌<◌, ◌≤◌, Bool, true, false, cond, List, [], ◌∷◌, ◌++◌, length, take, drop, replicate, Some, Result, Ok, ltb, inl, inr, refl, sym, ap, subst, ◌∙◌, arith}
use Rattle.std.specs.Prelude.{slice_get, slice_set}
use Rattle.std.proofs.lemmas.Bool.{false≢true, cases_eq, cases_lt, lt-ltb}
use Rattle.std.proofs.lemmas.List.{append-nil, append_assoc, take_all, take-append-drop, length-take-le, length-replicate, length-set, length-map, map-append}
use Rattle.std.proofs.Math.Seq.{take-append_seam}
use Rattle.std.proofs.Math.Nat.{mod-lt, div-lt_iff_lt-mul}
use lib.ListN.{get_or}
use Rattle.std.proofs.lemmas.Option.{none-some, slice_get_within, slice_get-get_or}
use Rattle.calvin_types.specs.declared.fault.Fault.{Fault}
use Rattle.calvin_types.specs.declared.fault.Fault.TheVariants.{OutOfMemory}
use Rattle.calvin_types.specs.declared.place.NodeId.{NodeId}
use Rattle.calvin_app.specs.Meaning.{Meaning, WritesWithin}
use Rattle.calvin_types.specs.declared.config.Config.{Config as TheConfig}
use Rattle.calvin_order.specs.Configs.{Config, config_of}
use Rattle.calvin_bench.proofs.Lists.{set_here, set_other}
use Rattle.calvin_node_packets.specs.Packets.{same_node}
use Rattle.calvin_node_packets.specs.declared.packet.Packet.{Packet}
use Rattle.calvin_node_acts.specs.Acting.{deed_of}
use Rattle.calvin_world.specs.declared.event.Event.{Event}
use Rattle.calvin_world.specs.declared.event.Event.TheVariants.{At, Deliver}
use Rattle.calvin_world.specs.declared.event.Outcome.{Outcome}
use Rattle.calvin_world.specs.declared.event.Outcome.TheVariants.{Done}
use Rattle.calvin_world.specs.Worlds.{WorldState, index_of, opening}
use Rattle.calvin_world.specs.SettledWorlds.{settles, SettledLeads}
use Rattle.calvin_book.specs.Books.{Log, done_each, IsRun, world_after, Applied, IsRefused}
use Rattle.calvin_histories.specs.declared.entry.Entry.{Entry}
use Rattle.calvin_node_acts.specs.NodeStates.{NodeState}
use Rattle.calvin_world.proofs.SettledLaws.{config_in_code, there_in_code}
use Rattle.calvin_histories.specs.Histories.{id_of, new_life, life_of, entry_of, of_node, part_at, Fits, IsAssembled, IsStuck}
use Rattle.calvin_histories.specs.Assembling.{Took, IsBegun, IsIndexed, IsStuckAt}
use Rattle.calvin_histories.specs.Positions.{AreListed, senders_of}
use Rattle.calvin_histories.specs.declared.senders.Senders.{Senders}
use Rattle.calvin_histories.proofs.Sent.{same_node_self, same_node_is}
use Rattle.calvin_histories.proofs.Lives.{refused_not_done, index_is, takes_effect, lived_all, did, did_deliver}

some_is : {X : Type 0} {x y : X} → Some x ≡ Some y → x ≡ y
some_is e = cc

-- where there are so many nodes there is a partition
pub positive : (size parts i : ℕ) → i < size * parts → (0 < parts) ⊎ (parts ≤ 0) → 0 < parts
positive size parts i less (inl some) = some
positive size parts i less (inr none) = let e : parts ≡ 0 = omega (arith, none) in let z : i < size * 0 = subst (λ p. i < size * p) e less in absurd (omega (arith, z))

-- of two places, the names are apart
pub names_apart : (parts i at : ℕ) → i ≢ at → same_node (id_of parts at) (id_of parts i) ≡ false
names_apart parts i at apart = go (same_node (id_of parts at) (id_of parts i)) refl
  where
    go : (b : Bool) → same_node (id_of parts at) (id_of parts i) ≡ b → same_node (id_of parts at) (id_of parts i) ≡ false
    go false e = e
    go true e = absurd (apart (sym (index_is parts i) ∙ sym (ap (index_of parts) (same_node_is (id_of parts at) (id_of parts i) e)) ∙ index_is parts at))

-- the name of the node at a place, by the configuration in code
pub its_id : {Args : Type 0} (config : TheConfig) (first log : Log Args) {points cold : Bool} → first.config ≡ config_of config points cold → log.config ≡ first.config → (at : ℕ) (id : NodeId) → id ≡ id_of config.partitions at → id ≡ id_of log.config.partitions at
its_id config first log opened same at id is = is ∙ (λ i. id_of ((sym opened ∙ sym same) i).partitions at)

pub next_number : (n : ℕ) → suc n ≡ n + 1
next_number n = omega arith

pub ok_is : {a b : Bool} → ◌≡◌ {A = Result Bool Fault} (Ok a) (Ok b) → a ≡ b
ok_is e = cc

-- where none more is taken than at first
pub none_taken : (n first last : ℕ) → last ≡ n → first ≤ n → ◌≡◌ {A = Result Bool Fault} (Ok (ltb first last)) (Ok false) → n ≡ first
none_taken n first last is bound e = go (cases_lt first last)
  where
    go : (first < last) ⊎ (last ≤ first) → n ≡ first
    go (inl less) = absurd (false≢true (sym (ok_is e) ∙ lt-ltb first last less))
    go (inr most) = omega (arith, is, bound, most)

-- the next one of a list, behind so many
pub take_next : {X : Type 0} (xs : List X) (n : ℕ) (x : X) → slice_get xs n ≡ Some x → take (suc n) xs ≡ take n xs ++ x ∷ []
take_next [] n x at = absurd (none-some x at)
take_next (a ∷ xs) zero x at = let is : a ≡ x = cc in ap (λ y. y ∷ []) is
take_next (a ∷ xs) (suc n) x at = ap (λ ys. a ∷ ys) (take_next xs n x at)

-- where a list goes on, its next one is behind so many
next_at : {X : Type 0} (xs : List X) (x : X) (ys : List X) → slice_get (xs ++ x ∷ ys) (length xs) ≡ Some x
next_at [] x ys = refl
next_at (a ∷ xs) x ys = next_at xs x ys

module _ {Args Row Reply : Type 0} (m : Meaning Args Row Reply) where
  pub part_more : (w : WorldState Args Row Reply) (events : List (Event Args)) (v : WorldState Args Row Reply) → SettledLeads m w events (done_each events) v → (event : Event Args) (id : NodeId)
      → part_at m w (events ++ event ∷ []) id ≡ part_at m w events id ++ of_node id (entry_of v event)
  part_more w [] v same event id = append-nil (of_node id (entry_of w event)) ∙ ap (λ (w : WorldState Args Row Reply). of_node id (entry_of w event)) (sym same)
  part_more w (e ∷ events) v (next, first, rest) event id =
      let to : next ≡ (settles m w e).1 = ap (λ (z : Outcome × WorldState Args Row Reply). z.1) (takes_effect m w e next first) in
      (λ k. of_node id (entry_of w e) ++ part_at m (sym to k) (events ++ event ∷ []) id)
      ∙ ap (λ (es : List (Entry Args Row Reply)). of_node id (entry_of w e) ++ es) (part_more next events v rest event id)
      ∙ sym (append_assoc (of_node id (entry_of w e)) (part_at m next events id) (of_node id (entry_of v event)))
      ∙ (λ k. (of_node id (entry_of w e) ++ part_at m (to k) events id) ++ of_node id (entry_of v event))

  -- an event that takes effect sends more packets, if any
  pub sent_more : (v : WorldState Args Row Reply) (event : Event Args) (next : WorldState Args Row Reply) → (Done, next) ≡ settles m v event → (more : List (Packet Args Row Reply)) × (next.packets ≡ v.packets ++ more)
  sent_more v (At me act) next takes = let d = did v me (deed_of m v.config act) next takes in (d.sent, ap (λ (w : WorldState Args Row Reply). w.packets) d.now)
  sent_more v (Deliver number) next takes = let d = (did_deliver v number next takes).did in (d.sent, ap (λ (w : WorldState Args Row Reply). w.packets) d.now)

  -- of the packets after an event the first ones are those before it
  pub listed_before : (old new : Log Args) (event : Event Args) (senders : Senders) → IsIndexed m old senders → Applied m old event new → AreListed senders.partitions senders.lists.items (take senders.listed (senders_of (world_after m new.config new.events).packets))
  listed_before old new event senders indexed applied =
      let v = world_after m old.config old.events in
      let more = sent_more v event (world_after m new.config new.events) applied.takes in
      let before = senders_of v.packets in
      subst (AreListed senders.partitions senders.lists.items)
      (sym (
      (λ i. take ((indexed.listed ∙ sym (length-map v.packets (λ (p : Packet Args Row Reply). p.from))) i) (senders_of (more.1 i)))
      ∙ ap (take (length before)) (map-append (λ (p : Packet Args Row Reply). p.from) v.packets more.0)
      ∙ take-append_seam before (senders_of more.0)))
      indexed.each

  pub indexed_after : (old new : Log Args) (event : Event Args) (senders : Senders) → IsIndexed m old senders → Applied m old event new → (w : WorldState Args Row Reply) → w ≡ world_after m new.config new.events → (packets : List (Packet Args Row Reply)) → packets ≡ w.packets → (after : Senders)
      → (AreListed senders.partitions senders.lists.items (take senders.listed (senders_of packets)) → (after.listed ≡ length packets) × AreListed after.partitions after.lists.items (senders_of packets)) → IsIndexed m new after
  indexed_after old new event senders indexed applied w is packets same after note =
      let whole : packets ≡ (world_after m new.config new.events).packets = same ∙ ap (λ (w : WorldState Args Row Reply). w.packets) is in
      let noted = note (subst (λ ps. AreListed senders.partitions senders.lists.items (take senders.listed (senders_of ps))) (sym whole) (listed_before old new event senders indexed applied)) in
      record { listed = noted.0 ∙ ap length whole; each = subst (λ ps. AreListed after.partitions after.lists.items (senders_of ps)) whole noted.1 }

  -- the only event that is the entry doesn't take effect
  pub fits_not : (log : Log Args) (w : WorldState Args Row Reply) → w ≡ world_after m log.config log.events → (id : NodeId) (entry : Entry Args Row Reply) (event : Event Args) → ((other : Event Args) → entry_of w other ≡ Some (id, entry) → other ≡ event)
      → (f : Fault) → IsRefused m log event f → (f ≡ OutOfMemory → ⊥) → Fits m (world_after m log.config log.events) id entry → ⊥
  fits_not log w is id entry event only f refused never (other, it, takes) =
      let same : other ≡ event = only other ((λ i. entry_of (is i) other) ∙ it) in
      elim refused [
        | inl why ↦ refused_not_done (sym takes ∙ (λ i. (settles m (world_after m log.config log.events) (same i)).0) ∙ why)
        | inr none ↦ never none
      ]

  -- where no event is the entry none fits
  pub none_fit : (log : Log Args) (w : WorldState Args Row Reply) → w ≡ world_after m log.config log.events → (id : NodeId) (entry : Entry Args Row Reply) → ((event : Event Args) → entry_of w event ≡ Some (id, entry) → ⊥) → Fits m (world_after m log.config log.events) id entry → ⊥
  none_fit log w is id entry never (event, it, takes) = never event ((λ i. entry_of (is i) event) ∙ it)

  module _ (histories : List (List (Entry Args Row Reply))) where
    pub begun_none : (c : Config) (taken : List ℕ) → taken ≡ replicate (length histories) 0 → IsBegun m (record { config = c; events = [] }) histories taken
    begun_none c taken none = record {
      number = ap length none ∙ length-replicate (length histories) 0;
      each = λ i n history at there.
          let is : n ≡ 0 = zero_of (length histories) i n (sym (ap (λ ns. slice_get ns i) none) ∙ at) in
          (let e = is in omega (arith, e), sym (ap (λ n. take n history) is));
    }
      where
        zero_of : (k i n : ℕ) → slice_get (replicate k 0) i ≡ Some n → n ≡ 0
        zero_of zero i n at = absurd (none-some n at)
        zero_of (suc k) zero n at = sym (some_is at)
        zero_of (suc k) (suc i) n at = zero_of k i n at

    -- one more entry of the node at a place is taken
    pub begun_more : (old new : Log Args) (taken : List ℕ) (at n : ℕ) (history : List (Entry Args Row Reply)) (entry : Entry Args Row Reply) → IsBegun m old histories taken → slice_get taken at ≡ Some n → slice_get histories at ≡ Some history → slice_get history n ≡ Some entry
        → Took m old (id_of old.config.partitions at) entry new → IsBegun m new histories (slice_set taken at (suc n))
    begun_more old new taken at n history entry begun taken_at there next took = subst (λ (log : Log Args). IsBegun m log histories (slice_set taken at (suc n))) (sym took.applied.appended) (record {
      number = length-set taken at (suc n) ∙ begun.number;
      each = λ i k h at_i there_i. by_place i k h at_i there_i (cases_eq i at);
    })
      where
        parts : ℕ
        parts = old.config.partitions

        Each : ℕ → ℕ → List (Entry Args Row Reply) → Type 0
        Each i k h = (k ≤ length h) × (part_at m (opening old.config) (old.events ++ took.event ∷ []) (id_of parts i) ≡ take k h)

        more : (i : ℕ) → part_at m (opening old.config) (old.events ++ took.event ∷ []) (id_of parts i) ≡ part_at m (opening old.config) old.events (id_of parts i) ++ of_node (id_of parts i) (Some (id_of parts at, entry))
        more i = part_more (opening old.config) old.events (world_after m old.config old.events) took.run took.event (id_of parts i)
            ∙ ap (λ seen. part_at m (opening old.config) old.events (id_of parts i) ++ of_node (id_of parts i) seen) took.is

        here : Each at (suc n) history
        here = (
          (let h = slice_get_within history n entry next in omega (arith, h)),
          more at
              ∙ (λ k. (begun.each at n history taken_at there).1 k ++ cond (same_node_self (id_of parts at) k) (entry ∷ []) [])
              ∙ sym (take_next history n entry next),
        )

        elsewhere : (i k : ℕ) (h : List (Entry Args Row Reply)) → i ≢ at → slice_get (slice_set taken at (suc n)) i ≡ Some k → slice_get histories i ≡ Some h → Each i k h
        elsewhere i k h apart at_i there_i =
            let old_one = begun.each i k h (sym (set_other taken at i (suc n) apart) ∙ at_i) there_i in (
              old_one.0,
              more i ∙ (λ j. part_at m (opening old.config) old.events (id_of parts i) ++ cond (names_apart parts i at apart j) (entry ∷ []) []) ∙ append-nil (part_at m (opening old.config) old.events (id_of parts i)) ∙ old_one.1,
            )

        by_place : (i k : ℕ) (h : List (Entry Args Row Reply)) → slice_get (slice_set taken at (suc n)) i ≡ Some k → slice_get histories i ≡ Some h → (i ≡ at) ⊎ (i ≢ at) → Each i k h
        by_place i k h at_i there_i (inr apart) = elsewhere i k h apart at_i there_i
        by_place i k h at_i there_i (inl e) =
            let number : suc n ≡ k = some_is (sym (set_here taken at (suc n) n taken_at) ∙ (λ j. slice_get (slice_set taken at (suc n)) (sym e j)) ∙ at_i) in
            let same : history ≡ h = some_is (sym there ∙ (λ j. slice_get histories (sym e j)) ∙ there_i) in
            subst (λ (z : ℕ × (ℕ × List (Entry Args Row Reply))). Each z.0 z.1.0 z.1.1) (λ j. (sym e j, (number j, same j))) here

    -- ---- no next entry

    -- where all entries are taken, or there is no such history, none is next
    pub stuck_past : (log : Log Args) (taken : List ℕ) (i n : ℕ) (history : List (Entry Args Row Reply)) → slice_get taken i ≡ Some n → slice_get histories i ≡ Some history → length history ≤ n → IsStuckAt m log histories taken i
    stuck_past log taken i n history at there past k h next at_k there_h is_next fits =
        let number : n ≡ k = some_is (sym at ∙ at_k) in
        let same : history ≡ h = some_is (sym there ∙ there_h) in
        let within = slice_get_within h k next is_next in
        let long = ap length same in
        omega (arith, number, long, within, past)

    pub stuck_nowhere : (log : Log Args) (taken : List ℕ) (i : ℕ) → length histories ≤ i → IsStuckAt m log histories taken i
    stuck_nowhere log taken i past k h next at_k there_h is_next fits = let within = slice_get_within histories i h there_h in omega (arith, within, past)

    -- where no node below so many has a next entry that fits, and there are no others, none has
    pub stuck_more : (log : Log Args) (taken : List ℕ) (at : ℕ) → length histories ≤ at → ((i : ℕ) → i < at → IsStuckAt m log histories taken i) → (i : ℕ) → IsStuckAt m log histories taken i
    stuck_more log taken at past below i = go (cases_lt i at)
      where
        go : (i < at) ⊎ (at ≤ i) → IsStuckAt m log histories taken i
        go (inl less) = below i less
        go (inr level) = stuck_nowhere log taken i (omega (arith, past, level))

    -- where nothing is taken of one more node
    pub stuck_kept : (old log : Log Args) (before taken : List ℕ) (at : ℕ) → log ≡ old → taken ≡ before → ((i : ℕ) → i < at → IsStuckAt m old histories before i) → IsStuckAt m log histories taken at → (i : ℕ) → i < at + 1 → IsStuckAt m log histories taken i
    stuck_kept old log before taken at same none below here i less = go (cases_lt i at)
      where
        go : (i < at) ⊎ (at ≤ i) → IsStuckAt m log histories taken i
        go (inl early) = subst (λ (z : Log Args × List ℕ). IsStuckAt m z.0 histories z.1 i) (λ k. (sym same k, sym none k)) (below i early)
        go (inr level) = let is : at ≡ i = omega (arith, level, less) in subst (IsStuckAt m log histories taken) is here

    pub stuck_next : (log : Log Args) (taken : List ℕ) (i n : ℕ) (history : List (Entry Args Row Reply)) (entry : Entry Args Row Reply) → slice_get taken i ≡ Some n → slice_get histories i ≡ Some history → slice_get history n ≡ Some entry
        → (Fits m (world_after m log.config log.events) (id_of log.config.partitions i) entry → ⊥) → IsStuckAt m log histories taken i
    stuck_next log taken i n history entry at there is_entry never k h next at_k there_h is_next fits =
        let number : n ≡ k = some_is (sym at ∙ at_k) in
        let same : history ≡ h = some_is (sym there ∙ there_h) in
        let it : next ≡ entry = some_is (sym is_next ∙ (λ j. slice_get (sym same j) (sym number j)) ∙ is_entry) in
        never (subst (λ e. Fits m (world_after m log.config log.events) (id_of log.config.partitions i) e) it fits)

    abbrev pub AllTaken : List ℕ → ℕ → Type 0
    AllTaken taken at = (i n : ℕ) (history : List (Entry Args Row Reply)) → i < at → slice_get taken i ≡ Some n → slice_get histories i ≡ Some history → length history ≤ n

    -- all entries of one node more are taken
    pub taken_more : (taken : List ℕ) (at n : ℕ) (history : List (Entry Args Row Reply)) → slice_get taken at ≡ Some n → slice_get histories at ≡ Some history → length history ≤ n → AllTaken taken at → AllTaken taken (at + 1)
    taken_more taken at n history taken_at there all before i k h less at_i there_i = go (cases_lt i at)
      where
        go : (i < at) ⊎ (at ≤ i) → length h ≤ k
        go (inl early) = before i k h early at_i there_i
        go (inr level) =
            let is : i ≡ at = omega (arith, less, level) in
            let number : n ≡ k = some_is (sym taken_at ∙ (λ j. slice_get taken (sym is j)) ∙ at_i) in
            let same : history ≡ h = some_is (sym there ∙ (λ j. slice_get histories (sym is j)) ∙ there_i) in
            let long = ap length same in
            omega (arith, number, long, all)

    pub taken_all : (taken : List ℕ) (at : ℕ) → length histories ≤ at → AllTaken taken at → (i n : ℕ) (history : List (Entry Args Row Reply)) → slice_get taken i ≡ Some n → slice_get histories i ≡ Some history → length history ≤ n
    taken_all taken at past all i n history at_i there_i = all i n history (let within = slice_get_within histories i history there_i in omega (arith, within, past)) at_i there_i

    -- ---- at the end

    module _ (c : Config) (events : List (Event Args)) (taken : List ℕ) (run : IsRun m c events (world_after m c events)) (number : length histories ≡ c.replicas * c.partitions) (begun : IsBegun m (record { config = c; events = events }) histories taken) where
      -- how many of a history are taken
      taken_of : (i : ℕ) (h : List (Entry Args Row Reply)) → slice_get histories i ≡ Some h → (n : ℕ) × (slice_get taken i ≡ Some n)
      taken_of i h there = (get_or taken i 0, slice_get-get_or taken i 0 (let w = slice_get_within histories i h there in let e = begun.number in omega (arith, w, e)))

      node_there : (law : WritesWithin m) (i : ℕ) → i < length histories → (x : NodeState Args Row) × (slice_get (world_after m c events).nodes i ≡ Some x)
      node_there law i within =
          let less : i < c.replicas * c.partitions = omega (arith, within, number) in
          let some : 0 < c.partitions = positive c.replicas c.partitions i less (cases_lt 0 c.partitions) in
          let w = world_after m c events in
          let same : w.config ≡ c = config_in_code m law c events (done_each events) w run in
          let is = there_in_code m law c events (done_each events) w run (id_of c.partitions i) (subst (λ (d : Config). i / c.partitions < d.replicas) (sym same) ((div-lt_iff_lt-mul some).1 less)) (subst (λ (d : Config). i % c.partitions < d.partitions) (sym same) (mod-lt i some)) in
          (is.0, ap (slice_get w.nodes) (sym (index_is c.partitions i) ∙ (λ j. index_of (sym same j).partitions (id_of c.partitions i))) ∙ is.1.there)

      pub is_assembled : WritesWithin m → ((i n : ℕ) (h : List (Entry Args Row Reply)) → slice_get taken i ≡ Some n → slice_get histories i ≡ Some h → length h ≤ n) → IsAssembled m c events histories
      is_assembled law all = record {
        run = run;
        number = number;
        parts = λ i h there. part i h there;
        nodes = λ i h there.
            let within = slice_get_within histories i h there in
            let node = node_there law i within in
            (node.0, node.1, ap (life_of m c (new_life (id_of c.partitions i))) (sym (part i h there)) ∙ lived_all m law c events (world_after m c events) run i node.0 (omega (arith, within, number)) node.1);
      }
        where
          part : (i : ℕ) (h : List (Entry Args Row Reply)) → slice_get histories i ≡ Some h → part_at m (opening c) events (id_of c.partitions i) ≡ h
          part i h there = let n = taken_of i h there in (begun.each i n.0 h n.1 there).1 ∙ take_all n.0 h (all i n.0 h n.1 there)

      -- the next entry behind the part
      next_of : (i n : ℕ) (h : List (Entry Args Row Reply)) → slice_get taken i ≡ Some n → slice_get histories i ≡ Some h → length (part_at m (opening c) events (id_of c.partitions i)) ≡ n
      next_of i n h at there = let is = begun.each i n h at there in ap length is.1 ∙ length-take-le n h is.0

      pub is_stuck : ((i : ℕ) → IsStuckAt m (record { config = c; events = events }) histories taken i) → (at n : ℕ) (node : NodeId) (history : List (Entry Args Row Reply)) → node ≡ id_of c.partitions at → slice_get taken at ≡ Some n → slice_get histories at ≡ Some history → n < length history
          → ((i k : ℕ) (h : List (Entry Args Row Reply)) → i < at → slice_get taken i ≡ Some k → slice_get histories i ≡ Some h → length h ≤ k) → IsStuck m c histories node n
      is_stuck stuck at n node history named taken_at there left before = record {
        events = events;
        run = run;
        beginnings = λ i h there. let n = taken_of i h there in (drop n.0 h, ap (λ part. part ++ drop n.0 h) (begun.each i n.0 h n.1 there).1 ∙ take-append-drop n.0 h);
        none_fits = λ i next more there.
            let h = part_at m (opening c) events (id_of c.partitions i) ++ next ∷ more in
            let n = taken_of i h there in
            stuck i n.0 h next n.1 there (ap (slice_get h) (sym (next_of i n.0 h n.1 there)) ∙ next_at (part_at m (opening c) events (id_of c.partitions i)) next more);
        at = at;
        is_at = named;
        left = (history, there, (λ j. length (part_at m (opening c) events (named j))) ∙ next_of at n history taken_at there, left);
        least = λ i less h there. let n = taken_of i h there in (begun.each i n.0 h n.1 there).1 ∙ take_all n.0 h (before i n.0 h less n.1 there);
      }
