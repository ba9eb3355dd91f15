-- Where some list of events assembles histories, one that was taken as far as it goes does, too.
--     named_sent, sent_named      the packet of a name is the one of its number among those that its sender sent
--     life_parts, sent_grows      a history in two parts; what is sent stays sent
--     AllKnown, known_more      each packet was sent by a node that is there
--     part_parts      the part of a list in two parts
--     own_fits, came_fits      where an entry fits
--     none_left      so none is left over
use Rattle.std.proofs.Common.{◌≡◌, ◌≢◌, ◌⊎◌, ℕ, zero, suc, ◌+◌, ◌*◌, ◌/◌, ◌%◌, ◌<◌, Bool, true, false, cond, List, [], ◌∷◌, ◌++◌, length, length-append, take, Option, Some, None, inl, inr, refl, sym, ap, subst, ◌∙◌, arith}
use Rattle.std.specs.Prelude.{option_and_then, slice_get}
use Rattle.std.proofs.lemmas.Bool.{cases_eq, cases_lt}
use lib.ListN.{get_or}
use Rattle.std.proofs.lemmas.List.{append-nil, append_assoc}
use Rattle.std.proofs.lemmas.Nat.{div-mul-add, mod-mul-add}
use Rattle.std.proofs.Math.Nat.{mod-lt, div-lt_iff_lt-mul}
use Rattle.std.proofs.lemmas.Option.{none-some, slice_get_within, slice_get-get_or}
use Rattle.calvin_types.specs.declared.place.NodeId.{NodeId}
use Rattle.calvin_types.specs.Deeds.{Refuses, Does}
use Rattle.calvin_app.specs.Meaning.{Meaning, WritesWithin}
use Rattle.calvin_order.specs.Configs.{Config}
use Rattle.calvin_bench.proofs.Lists.{contains_at, get_left, get_split}
use Rattle.calvin_node_packets.specs.declared.packet.Address.TheVariants.{AtNode}
use Rattle.calvin_node_packets.specs.declared.packet.Packet.{Packet}
use Rattle.calvin_node_packets.specs.Packets.{same_node}
use Rattle.calvin_node_acts.specs.declared.act.Act.{Act}
use Rattle.calvin_node_acts.specs.NodeStates.{NodeState}
use Rattle.calvin_node_acts.specs.Handling.{NodeDeed, handle}
use Rattle.calvin_node_acts.specs.Acting.{deed_of}
use Rattle.calvin_node_acts.specs.Running.{settled}
use Rattle.calvin_world.specs.declared.event.Event.{Event}
use Rattle.calvin_world.specs.declared.event.Event.TheVariants.{At, Deliver}
use Rattle.calvin_world.specs.declared.event.Outcome.{Outcome}
use Rattle.calvin_world.specs.declared.event.Outcome.TheVariants.{Done}
use Rattle.calvin_world.specs.declared.naming.PacketName.{PacketName}
use Rattle.calvin_world.specs.Names.{sent_by, name_of}
use Rattle.calvin_world.specs.Promises.{IsNode}
use Rattle.calvin_world.specs.Worlds.{WorldState, index_of, opening, node_at, at_node, carry_out, deliver, deliver_to}
use Rattle.calvin_world.specs.SettledWorlds.{settles, SettledStep, SettledLeads}
use Rattle.calvin_world.proofs.Cases.{acts_does, handle_does}
use Rattle.calvin_world.proofs.InCode.{there_is}
use Rattle.calvin_world.proofs.SettledLaws.{config_in_code, there_in_code, named_in_code}
use Rattle.calvin_book.proofs.Runs.{run_more}
use Rattle.calvin_book.specs.Books.{done_each, IsRun, world_after}
use Rattle.calvin_histories.specs.declared.entry.Entry.{Entry}
use Rattle.calvin_histories.specs.declared.entry.Entry.TheVariants.{Own, Came}
use Rattle.calvin_histories.specs.Histories.{id_of, Life, new_life, coming, came_to, entry_of, of_node, lives_on, part_at, Fits, deed_in, life_of, IsAssembled, IsStuck}
use Rattle.calvin_histories.proofs.Sent.{same_node_self, same_node_is, AllFrom, acts_from, handles_from}
use Rattle.calvin_histories.proofs.Lives.{index_is, Did, did, did_deliver, takes_effect, in_range, lived_all}
use Rattle.calvin_histories.proofs.Assembling.{positive, names_apart, part_more}

some_is : {X : Type 0} {x y : X} → Some x ≡ Some y → x ≡ y
some_is e = cc

-- ---- the packets that a node sent

module _ {Args Row Reply : Type 0} where
  abbrev count : NodeId → List (Packet Args Row Reply) → ℕ → ℕ
  count id packets n = length (sent_by id (take n packets))

  -- the packet of a number stands where so many of its sender's stand before it
  sent_at : (id : NodeId) (packets : List (Packet Args Row Reply)) (n : ℕ) (p : Packet Args Row Reply) → slice_get packets n ≡ Some p → same_node p.from id ≡ true → slice_get (sent_by id packets) (count id packets n) ≡ Some p
  sent_at id [] n p there mine = absurd (none-some p there)
  sent_at id (q ∷ packets) zero p there mine =
      let same : q ≡ p = some_is there in
      (λ i. slice_get (cond ((ap (λ (p : Packet Args Row Reply). same_node p.from id) same ∙ mine) i) (q ∷ sent_by id packets) (sent_by id packets)) 0) ∙ there
  sent_at id (q ∷ packets) (suc n) p there mine = go (same_node q.from id) (sent_at id packets n p there mine)
    where
      go : (b : Bool) → slice_get (sent_by id packets) (count id packets n) ≡ Some p
          → slice_get (cond b (q ∷ sent_by id packets) (sent_by id packets)) (length (cond b (q ∷ sent_by id (take n packets)) (sent_by id (take n packets)))) ≡ Some p
      go true rest = rest
      go false rest = rest

  pub named_sent : (packets : List (Packet Args Row Reply)) (name : PacketName) (n : ℕ) (p : Packet Args Row Reply) → slice_get packets n ≡ Some p → name_of packets n p ≡ name → slice_get (sent_by name.sender packets) name.number ≡ Some p
  named_sent packets name n p there named = (λ i. slice_get (sent_by (sym named i).sender packets) (sym named i).number) ∙ sent_at p.from packets n p there (same_node_self p.from)

  -- what stands in the sender's list
  pub record SentAs (id : NodeId) (packets : List (Packet Args Row Reply)) (k : ℕ) (p : Packet Args Row Reply) : Type 0 where
    pub number : ℕ
    pub there : slice_get packets number ≡ Some p
    pub mine : same_node p.from id ≡ true
    pub before : count id packets number ≡ k

  sent_as : (id : NodeId) (packets : List (Packet Args Row Reply)) (k : ℕ) (p : Packet Args Row Reply) → slice_get (sent_by id packets) k ≡ Some p → SentAs id packets k p
  sent_as id [] k p e = absurd (none-some p e)
  sent_as id (q ∷ packets) k p e = go (same_node q.from id) refl k e (λ k e. sent_as id packets k p e)
    where
      later : (b : Bool) → same_node q.from id ≡ b → (k k' : ℕ) → k' ≡ length (cond b (q ∷ []) []) + k → SentAs id packets k p → SentAs id (q ∷ packets) k' p
      later b is k k' sum s = record { number = suc s.number; there = s.there; mine = s.mine; before = counted b is ∙ sym sum }
        where
          counted : (b : Bool) → same_node q.from id ≡ b → length (cond (same_node q.from id) (q ∷ sent_by id (take s.number packets)) (sent_by id (take s.number packets))) ≡ length (cond b (q ∷ []) []) + k
          counted true is = (λ i. length (cond (is i) (q ∷ sent_by id (take s.number packets)) (sent_by id (take s.number packets)))) ∙ ap suc s.before ∙ omega arith
          counted false is = (λ i. length (cond (is i) (q ∷ sent_by id (take s.number packets)) (sent_by id (take s.number packets)))) ∙ s.before ∙ omega arith

      go : (b : Bool) → same_node q.from id ≡ b → (k : ℕ) → slice_get (cond b (q ∷ sent_by id packets) (sent_by id packets)) k ≡ Some p → ((k : ℕ) → slice_get (sent_by id packets) k ≡ Some p → SentAs id packets k p) → SentAs id (q ∷ packets) k p
      go true is zero e rest = let same : q ≡ p = some_is e in record { number = 0; there = e; mine = ap (λ (p : Packet Args Row Reply). same_node p.from id) (sym same) ∙ is; before = refl }
      go true is (suc k) e rest = later true is k (suc k) (omega arith) (rest k e)
      go false is k e rest = later false is k k (omega arith) (rest k e)

  pub sent_named : (packets : List (Packet Args Row Reply)) (name : PacketName) (p : Packet Args Row Reply) → slice_get (sent_by name.sender packets) name.number ≡ Some p → (n : ℕ) × (slice_get packets n ≡ Some p) × (name_of packets n p ≡ name)
  sent_named packets name p e =
      let s = sent_as name.sender packets name.number p e in
      let from : p.from ≡ name.sender = same_node_is p.from name.sender s.mine in
      (s.number, s.there, λ i. record { sender = from i; number = ((λ j. count (from j) packets s.number) ∙ s.before) i })

-- ---- lives

module _ {Args Row Reply : Type 0} (m : Meaning Args Row Reply) (c : Config) where
  pub life_parts : (life : Life Args Row Reply) (xs ys : List (Entry Args Row Reply)) (after : Life Args Row Reply) → life_of m c life (xs ++ ys) ≡ Some after → (mid : Life Args Row Reply) × (life_of m c life xs ≡ Some mid) × (life_of m c mid ys ≡ Some after)
  life_parts life [] ys after e = (life, refl, e)
  life_parts life (x ∷ xs) ys after e = go (lives_on life (deed_in m c x life.state)) e (λ next. life_parts next xs ys after)
    where
      go : (o : Option (Life Args Row Reply)) → option_and_then (λ next. life_of m c next (xs ++ ys)) o ≡ Some after → ((next : Life Args Row Reply) → life_of m c next (xs ++ ys) ≡ Some after → (mid : Life Args Row Reply) × (life_of m c next xs ≡ Some mid) × (life_of m c mid ys ≡ Some after))
          → (mid : Life Args Row Reply) × (option_and_then (λ next. life_of m c next xs) o ≡ Some mid) × (life_of m c mid ys ≡ Some after)
      go None e rest = absurd (none-some after e)
      go (Some next) e rest = rest next e

  pub sent_grows : (life : Life Args Row Reply) (xs : List (Entry Args Row Reply)) (after : Life Args Row Reply) → life_of m c life xs ≡ Some after → (more : List (Packet Args Row Reply)) × (after.sent ≡ life.sent ++ more)
  sent_grows life [] after e = ([], ap (λ (l : Life Args Row Reply). l.sent) (sym (some_is e)) ∙ sym (append-nil life.sent))
  sent_grows life (x ∷ xs) after e = by_deed (deed_in m c x life.state) e (λ next. sent_grows next xs after)
    where
      by_deed : (d : NodeDeed Args Row Reply) → option_and_then (λ next. life_of m c next xs) (lives_on life d) ≡ Some after → ((next : Life Args Row Reply) → life_of m c next xs ≡ Some after → (more : List (Packet Args Row Reply)) × (after.sent ≡ next.sent ++ more)) → (more : List (Packet Args Row Reply)) × (after.sent ≡ life.sent ++ more)
      by_deed (Refuses f) e rest = absurd (none-some after e)
      by_deed (Does next packets) e rest =
          let r = rest (record { state = settled next; sent = life.sent ++ packets }) e in
          (packets ++ r.0, r.1 ∙ append_assoc life.sent packets r.0)

-- ---- who sent it

module _ {Args Row Reply : Type 0} (m : Meaning Args Row Reply) (law : WritesWithin m) (c : Config) where
  -- a node that is there, by its place
  pub record IsPlace (id : NodeId) : Type 0 where
    pub at : ℕ
    pub within : at < c.replicas * c.partitions
    pub is : id ≡ id_of c.partitions at

  pub place_of : (w : WorldState Args Row Reply) → w.config ≡ c → (me : NodeId) (x : NodeState Args Row) → IsNode w me x → IsPlace me
  place_of w same me x is = record {
    at = index_of c.partitions me;
    within = (div-lt_iff_lt-mul some).0 (subst (λ n. n < c.replicas) (sym (div-mul-add me.replica c.partitions me.partition inside)) (subst (λ (c : Config). me.replica < c.replicas) same is.replica));
    is = λ i. record { replica = sym (div-mul-add me.replica c.partitions me.partition inside) i; partition = sym (mod-mul-add me.replica c.partitions me.partition inside) i };
  }
    where
      inside : me.partition < c.partitions
      inside = subst (λ (c : Config). me.partition < c.partitions) same is.partition

      some : 0 < c.partitions
      some = let p = inside in omega (arith, p)

  -- each packet was sent by a node that is there
  abbrev pub AllKnown : List (Packet Args Row Reply) → Type 0
  AllKnown packets = (n : ℕ) (p : Packet Args Row Reply) → slice_get packets n ≡ Some p → IsPlace p.from

  pub known_more : (packets more : List (Packet Args Row Reply)) → AllKnown packets → (me : NodeId) → IsPlace me → AllFrom me more → AllKnown (packets ++ more)
  known_more packets more known me place from n p there = elim (get_split packets more n p there) [
    | inl old ↦ known old.0 p old.1
    | inr new ↦ subst IsPlace (sym (from p (contains_at more new.0 p new.1))) place
  ]

  -- ---- where an entry fits that fitted before

  -- a node is found by its place
  pub at_place : (w : WorldState Args Row Reply) → w.config ≡ c → (i : ℕ) → i < c.replicas * c.partitions → (x : NodeState Args Row) → slice_get w.nodes i ≡ Some x → node_at w (id_of c.partitions i) ≡ Some x
  at_place w same i within x there =
      (λ k. cond (there_is w.config.partitions w.config.replicas (id_of c.partitions i) (subst (λ (d : Config). i / c.partitions < d.replicas) (sym same) ((div-lt_iff_lt-mul some).1 within)) (subst (λ (d : Config). i % c.partitions < d.partitions) (sym same) (mod-lt i some)) k)
      (slice_get w.nodes (index_of w.config.partitions (id_of c.partitions i))) None)
      ∙ (λ k. slice_get w.nodes (index_of (same k).partitions (id_of c.partitions i)))
      ∙ ap (slice_get w.nodes) (index_is c.partitions i)
      ∙ there
    where
      some : 0 < c.partitions
      some = positive c.replicas c.partitions i within (cases_lt 0 c.partitions)

  -- a deed that takes effect at a node that is there
  does_there : (w : WorldState Args Row Reply) (id : NodeId) (act : NodeState Args Row → NodeDeed Args Row Reply) (x left : NodeState Args Row) (sent : List (Packet Args Row Reply)) → node_at w id ≡ Some x → act x ≡ Does left sent → (at_node w id act (node_at w id)).0 ≡ Done
  does_there w id act x left sent there does = (λ i. (at_node w id act (there i)).0) ∙ (λ i. (carry_out w id (does i)).0)

  pub own_fits : (w : WorldState Args Row Reply) → w.config ≡ c → (id : NodeId) (act : Act Args) (x left : NodeState Args Row) (sent : List (Packet Args Row Reply)) → node_at w id ≡ Some x → deed_of m c act x ≡ Does left sent → Fits m w id (Own act)
  own_fits w same id act x left sent there does = (At id act, refl, does_there w id (deed_of m w.config act) x left sent there ((λ i. deed_of m (same i) act x) ∙ does))

  pub came_fits : (w : WorldState Args Row Reply) → w.config ≡ c → (id : NodeId) (name : PacketName) (p : Packet Args Row Reply) (x left : NodeState Args Row) (sent : List (Packet Args Row Reply)) → node_at w id ≡ Some x → handle c p x ≡ Does left sent
      → (n : ℕ) → slice_get w.packets n ≡ Some p → name_of w.packets n p ≡ name → p.to ≡ AtNode id → Fits m w id (Came name p)
  came_fits w same id name p x left sent there does n at named to = (
    Deliver n,
    (λ i. coming w.packets n (at i)) ∙ (λ i. came_to (name_of w.packets n p) p (to i)) ∙ (λ i. Some (id, Came (named i) p)),
    (λ i. (deliver w (at i)).0) ∙ (λ i. (deliver_to w p (to i)).0) ∙ does_there w id (handle w.config p) x left sent there ((λ i. handle (same i) p x) ∙ does),
  )

-- ---- parts

module _ {X : Type 0} where
  -- what two lists go on with behind the same beginning
  same_rest : (xs ys zs : List X) → xs ++ ys ≡ xs ++ zs → ys ≡ zs
  same_rest [] ys zs e = e
  same_rest (x ∷ xs) ys zs e = same_rest xs ys zs (ap tail_of e)
    where
      tail_of : List X → List X
      tail_of [] = []
      tail_of (y ∷ ys) = ys

  first_same : {x y : X} {xs ys : List X} → x ∷ xs ≡ y ∷ ys → x ≡ y
  first_same e = cc

  rest_same : {x y : X} {xs ys : List X} → x ∷ xs ≡ y ∷ ys → xs ≡ ys
  rest_same e = cc

module _ {Args Row Reply : Type 0} (m : Meaning Args Row Reply) where
  -- the part of a list in two parts
  pub part_parts : (w : WorldState Args Row Reply) (xs ys : List (Event Args)) (v : WorldState Args Row Reply) → SettledLeads m w xs (done_each xs) v → (id : NodeId) → part_at m w (xs ++ ys) id ≡ part_at m w xs id ++ part_at m v ys id
  part_parts w [] ys v same id = λ i. part_at m (sym same i) ys id
  part_parts w (x ∷ xs) ys v (next, first, rest) id =
      let to : next ≡ (settles m w x).1 = ap (λ (z : Outcome × WorldState Args Row Reply). z.1) (takes_effect m w x next first) in
      (λ i. of_node id (entry_of w x) ++ part_at m (sym to i) (xs ++ ys) id)
      ∙ ap (λ (es : List (Entry Args Row Reply)). of_node id (entry_of w x) ++ es) (part_parts next xs ys v rest id)
      ∙ sym (append_assoc (of_node id (entry_of w x)) (part_at m next xs id) (part_at m v ys id))
      ∙ (λ i. (of_node id (entry_of w x) ++ part_at m (to i) xs id) ++ part_at m v ys id)

  module _ (law : WritesWithin m) (c : Config) (histories : List (List (Entry Args Row Reply))) (events : List (Event Args)) (all : IsAssembled m c events histories) (node : NodeId) (number : ℕ) (s : IsStuck m c histories node number) where
    -- the world that the stuck list reaches
    abbrev reached : WorldState Args Row Reply
    reached = world_after m c s.events

    -- of each node what these events are to it is in the stuck list
    pub record Upto (v : WorldState Args Row Reply) (done : List (Event Args)) : Type 0 where
      pub run : IsRun m c done v
      pub known : AllKnown m law c v.packets
      pub inside : (i : ℕ) → i < length histories → (left : List (Entry Args Row Reply)) × (part_at m (opening c) done (id_of c.partitions i) ++ left ≡ part_at m (opening c) s.events (id_of c.partitions i))

    -- one event more
    module _ (done rest : List (Event Args)) (event : Event Args) (whole : events ≡ (done ++ event ∷ []) ++ rest) (v next : WorldState Args Row Reply) (upto : Upto v done) (step : SettledStep m v event Done next) (run : IsRun m c (done ++ event ∷ []) next)
        (me : NodeId) (entry : Entry Args Row Reply) (is : entry_of v event ≡ Some (me, entry)) (place : IsPlace m law c me) where
      abbrev i : ℕ
      i = place.at

      within : i < length histories
      within = let w = place.within in let n = all.number in omega (arith, w, n)

      abbrev history : List (Entry Args Row Reply)
      history = get_or histories i []

      there : slice_get histories i ≡ Some history
      there = slice_get-get_or histories i [] within

      abbrev before : List (Entry Args Row Reply)
      before = part_at m (opening c) done (id_of c.partitions i)

      -- the part with this entry
      more : (j : ℕ) → part_at m (opening c) (done ++ event ∷ []) (id_of c.partitions j) ≡ part_at m (opening c) done (id_of c.partitions j) ++ of_node (id_of c.partitions j) (Some (me, entry))
      more j = part_more m (opening c) done v upto.run event (id_of c.partitions j) ∙ ap (λ seen. part_at m (opening c) done (id_of c.partitions j) ++ of_node (id_of c.partitions j) seen) is

      mine : part_at m (opening c) (done ++ event ∷ []) (id_of c.partitions i) ≡ before ++ entry ∷ []
      mine = more i ∙ (λ k. before ++ cond (((λ j. same_node (place.is j) (id_of c.partitions i)) ∙ same_node_self (id_of c.partitions i)) k) (entry ∷ []) [])

      -- the history goes on with this entry
      goes_on : (later : List (Entry Args Row Reply)) × (before ++ entry ∷ later ≡ history)
      goes_on = (
        part_at m next rest (id_of c.partitions i),
        sym (append_assoc before (entry ∷ []) (part_at m next rest (id_of c.partitions i)))
            ∙ ap (λ (es : List (Entry Args Row Reply)). es ++ part_at m next rest (id_of c.partitions i)) (sym mine)
            ∙ sym (part_parts (opening c) (done ++ event ∷ []) rest next run (id_of c.partitions i))
            ∙ (λ k. part_at m (opening c) (sym whole k) (id_of c.partitions i))
            ∙ all.parts i history there,
      )

      -- it is in the stuck list, too, where it would fit there if there were no more of it
      inside_here : (before ≡ part_at m (opening c) s.events (id_of c.partitions i) → Fits m reached (id_of c.partitions i) entry) → (left : List (Entry Args Row Reply)) × (part_at m (opening c) (done ++ event ∷ []) (id_of c.partitions i) ++ left ≡ part_at m (opening c) s.events (id_of c.partitions i))
      inside_here fits = go old.0 old.1 (same_rest before (old.0 ++ beyond.0) (entry ∷ goes_on.0) (sym (append_assoc before old.0 beyond.0) ∙ ap (λ (es : List (Entry Args Row Reply)). es ++ beyond.0) old.1 ∙ beyond.1 ∙ sym goes_on.1))
        where
          old : (left : List (Entry Args Row Reply)) × (before ++ left ≡ part_at m (opening c) s.events (id_of c.partitions i))
          old = upto.inside i within

          beyond : (left : List (Entry Args Row Reply)) × (part_at m (opening c) s.events (id_of c.partitions i) ++ left ≡ history)
          beyond = s.beginnings i history there

          go : (left : List (Entry Args Row Reply)) → before ++ left ≡ part_at m (opening c) s.events (id_of c.partitions i) → left ++ beyond.0 ≡ entry ∷ goes_on.0
              → (left : List (Entry Args Row Reply)) × (part_at m (opening c) (done ++ event ∷ []) (id_of c.partitions i) ++ left ≡ part_at m (opening c) s.events (id_of c.partitions i))
          go [] same next_is =
              let whole_part : before ≡ part_at m (opening c) s.events (id_of c.partitions i) = sym (append-nil before) ∙ same in
              absurd (s.none_fits i entry goes_on.0 (there ∙ ap Some (sym goes_on.1 ∙ (λ k. whole_part k ++ entry ∷ goes_on.0))) (fits whole_part))
          go (x ∷ left) same next_is = (
            left,
            (λ k. mine k ++ left) ∙ append_assoc before (entry ∷ []) left ∙ (λ k. before ++ sym (first_same next_is) k ∷ left) ∙ same,
          )

      -- of each node what the events so far are to it is there
      pub inside_more : (before ≡ part_at m (opening c) s.events (id_of c.partitions i) → Fits m reached (id_of c.partitions i) entry) → (j : ℕ) → j < length histories
          → (left : List (Entry Args Row Reply)) × (part_at m (opening c) (done ++ event ∷ []) (id_of c.partitions j) ++ left ≡ part_at m (opening c) s.events (id_of c.partitions j))
      inside_more fits j less = go (cases_eq j i)
        where
          go : (j ≡ i) ⊎ (j ≢ i) → (left : List (Entry Args Row Reply)) × (part_at m (opening c) (done ++ event ∷ []) (id_of c.partitions j) ++ left ≡ part_at m (opening c) s.events (id_of c.partitions j))
          go (inl e) = subst (λ k. (left : List (Entry Args Row Reply)) × (part_at m (opening c) (done ++ event ∷ []) (id_of c.partitions k) ++ left ≡ part_at m (opening c) s.events (id_of c.partitions k))) (sym e) (inside_here fits)
          go (inr apart) =
              let old = upto.inside j less in
              let other : same_node me (id_of c.partitions j) ≡ false = (λ k. same_node (place.is k) (id_of c.partitions j)) ∙ names_apart c.partitions j i apart in
              (old.0, (λ k. (more j ∙ (λ l. part_at m (opening c) done (id_of c.partitions j) ++ cond (other l) (entry ∷ []) []) ∙ append-nil (part_at m (opening c) done (id_of c.partitions j))) k ++ old.0) ∙ old.1)

    -- ---- the worlds that both lead to

    config_of_run : (events : List (Event Args)) (w : WorldState Args Row Reply) → IsRun m c events w → w.config ≡ c
    config_of_run events w run = config_in_code m law c events (done_each events) w run

    node_of : (events : List (Event Args)) (w : WorldState Args Row Reply) → IsRun m c events w → (i : ℕ) → i < c.replicas * c.partitions → (x : NodeState Args Row) × (slice_get w.nodes i ≡ Some x)
    node_of events w run i within =
        let some : 0 < c.partitions = positive c.replicas c.partitions i within (cases_lt 0 c.partitions) in
        let same = config_of_run events w run in
        let is = there_in_code m law c events (done_each events) w run (id_of c.partitions i) (subst (λ (d : Config). i / c.partitions < d.replicas) (sym same) ((div-lt_iff_lt-mul some).1 within)) (subst (λ (d : Config). i % c.partitions < d.partitions) (sym same) (mod-lt i some)) in
        (is.0, ap (slice_get w.nodes) (sym (index_is c.partitions i) ∙ (λ j. index_of (sym same j).partitions (id_of c.partitions i))) ∙ is.1.there)

    module _ (v : WorldState Args Row Reply) (done : List (Event Args)) (upto : Upto v done) where
      same : v.config ≡ c
      same = config_of_run done v upto.run

      stuck_same : reached.config ≡ c
      stuck_same = config_of_run s.events reached s.run

      -- where both have the same of a node, it is the same
      state_there : (i : ℕ) → i < c.replicas * c.partitions → part_at m (opening c) done (id_of c.partitions i) ≡ part_at m (opening c) s.events (id_of c.partitions i) → (x : NodeState Args Row) → slice_get v.nodes i ≡ Some x → slice_get reached.nodes i ≡ Some x
      state_there i within part x there =
          let other = node_of s.events reached s.run i within in
          let here = lived_all m law c done v upto.run i x within there in
          let beyond = lived_all m law c s.events reached s.run i other.0 within other.1 in
          let is = some_is (sym here ∙ ap (life_of m c (new_life (id_of c.partitions i))) part ∙ beyond) in
          other.1 ∙ ap (λ (l : Life Args Row Reply). Some l.state) (sym is)

      -- what a node had sent is the beginning of what it has sent there
      sent_there : (i : ℕ) → i < c.replicas * c.partitions → (more : List (Packet Args Row Reply)) × (sent_by (id_of c.partitions i) reached.packets ≡ sent_by (id_of c.partitions i) v.packets ++ more)
      sent_there i within =
          let x = node_of done v upto.run i within in
          let y = node_of s.events reached s.run i within in
          let left = upto.inside i (let n = all.number in omega (arith, within, n)) in
          let here = lived_all m law c done v upto.run i x.0 within x.1 in
          let beyond = lived_all m law c s.events reached s.run i y.0 within y.1 in
          let both = life_parts m c (new_life (id_of c.partitions i)) (part_at m (opening c) done (id_of c.partitions i)) left.0 (record { state = y.0; sent = sent_by (id_of c.partitions i) reached.packets }) (ap (life_of m c (new_life (id_of c.partitions i))) left.1 ∙ beyond) in
          let mid = some_is (sym both.1 ∙ here) in
          let more = sent_grows m c both.0 left.0 (record { state = y.0; sent = sent_by (id_of c.partitions i) reached.packets }) both.2 in
          (more.0, more.1 ∙ ap (λ (l : Life Args Row Reply). l.sent ++ more.0) mid)

      -- a packet that was sent was sent there under the same name
      named_there : (number : ℕ) (p : Packet Args Row Reply) → slice_get v.packets number ≡ Some p → (n : ℕ) × (slice_get reached.packets n ≡ Some p) × (name_of reached.packets n p ≡ name_of v.packets number p)
      named_there number p at =
          let name = name_of v.packets number p in
          let place = upto.known number p at in
          let more = sent_there place.at place.within in
          let there : sent_by p.from reached.packets ≡ sent_by p.from v.packets ++ more.0 = (λ i. sent_by (place.is i) reached.packets) ∙ more.1 ∙ (λ i. sent_by (sym place.is i) v.packets ++ more.0) in
          sent_named reached.packets name p (ap (λ (ps : List (Packet Args Row Reply)). slice_get ps name.number) there ∙ get_left (sent_by p.from v.packets) more.0 name.number p (named_sent v.packets name number p at refl))

    -- ---- all of the list

    module _ (v : WorldState Args Row Reply) (done : List (Event Args)) (upto : Upto v done) (event : Event Args) (rest : List (Event Args)) (whole : events ≡ (done ++ event ∷ []) ++ rest) (next : WorldState Args Row Reply) (step : SettledStep m v event Done next) where
      run : IsRun m c (done ++ event ∷ []) next
      run = run_more m c done v event next upto.run step

      -- by a deed of a node
      by_deed : (me : NodeId) (entry : Entry Args Row Reply) → entry_of v event ≡ Some (me, entry) → (act : NodeState Args Row → NodeDeed Args Row Reply) (d : Did v me act next) → AllFrom d.state.id d.sent
          → ((x : NodeState Args Row) → node_at reached me ≡ Some x → x ≡ d.state → Fits m reached me entry) → Upto next (done ++ event ∷ [])
      by_deed me entry is act d from fits = record {
        run = run;
        known = subst (AllKnown m law c) (sym (ap (λ (w : WorldState Args Row Reply). w.packets) d.now)) (known_more m law c v.packets d.sent upto.known me place (subst (λ id. AllFrom id d.sent) named from));
        inside = inside_more done rest event whole v next upto step run me entry is place (λ part.
            subst (λ id. Fits m reached id entry) place.is (fits d.state (ap (node_at reached) place.is ∙ at_place m law c reached (stuck_same v done upto) place.at place.within d.state (state_there v done upto place.at place.within part d.state here)) refl));
      }
        where
          is_node : IsNode v me d.state
          is_node = in_range v me d.state d.there

          place : IsPlace m law c me
          place = place_of m law c v (same v done upto) me d.state is_node

          named : d.state.id ≡ me
          named = named_in_code m law c done (done_each done) v upto.run me d.state is_node

          here : slice_get v.nodes place.at ≡ Some d.state
          here = ap (slice_get v.nodes) (sym (index_is c.partitions place.at) ∙ ap (index_of c.partitions) (sym place.is) ∙ (λ k. index_of (sym (same v done upto) k).partitions me)) ∙ is_node.there

      by_event : (event' : Event Args) → event ≡ event' → (Done, next) ≡ settles m v event' → Upto next (done ++ event ∷ [])
      by_event (At me act) e takes =
          let d = did v me (deed_of m v.config act) next takes in
          by_deed me (Own act) (ap (entry_of v) e) (deed_of m v.config act) d (acts_from m v.config d.state d.left d.sent act (acts_does v.config d.state d.left d.sent m act d.does))
          (λ x there is. own_fits m law c reached (stuck_same v done upto) me act x d.left d.sent there ((λ k. deed_of m (sym (same v done upto) k) act (is k)) ∙ d.does))
      by_event (Deliver number) e takes =
          let d = did_deliver v number next takes in
          let p = d.packet in
          let n = named_there v done upto number p d.was_sent in
          by_deed d.id (Came (name_of v.packets number p) p) (ap (entry_of v) e ∙ (λ k. coming v.packets number (d.was_sent k)) ∙ (λ k. came_to (name_of v.packets number p) p (d.is_to k))) (handle v.config p) d.did
          (handles_from m v.config d.did.state d.did.left d.did.sent p.from p.content (handle_does v.config d.did.state d.did.left d.did.sent m p d.did.does))
          (λ x there is. came_fits m law c reached (stuck_same v done upto) d.id (name_of v.packets number p) p x d.did.left d.did.sent there ((λ k. handle (sym (same v done upto) k) p (is k)) ∙ d.did.does) n.0 n.1 n.2 d.is_to)

      next_upto : Upto next (done ++ event ∷ [])
      next_upto = by_event event refl (takes_effect m v event next step)

    all_upto : (v : WorldState Args Row Reply) (done rest : List (Event Args)) → Upto v done → events ≡ done ++ rest → (w : WorldState Args Row Reply) → SettledLeads m v rest (done_each rest) w → Upto w events
    all_upto v done [] upto whole w leads = subst (λ (z : WorldState Args Row Reply × List (Event Args)). Upto z.0 z.1) (λ i. (sym leads i, (sym (append-nil done) ∙ sym whole) i)) upto
    all_upto v done (event ∷ rest) upto whole w (next, first, leads) =
        let longer : events ≡ (done ++ event ∷ []) ++ rest = whole ∙ sym (append_assoc done (event ∷ []) rest) in
        all_upto next (done ++ event ∷ []) rest (next_upto v done upto event rest longer next first) longer w leads

    at_first : Upto (opening c) []
    at_first = record {
      run = refl;
      known = λ n p there. absurd (none-some p there);
      inside = λ i within. (part_at m (opening c) s.events (id_of c.partitions i), refl);
    }

    pub none_left : ⊥
    none_left =
        let upto = all_upto (opening c) [] events at_first refl (world_after m c events) all.run in
        let h = s.left.0 in
        let within = slice_get_within histories s.at h s.left.1 in
        let inside = upto.inside s.at within in
        let part : part_at m (opening c) events (id_of c.partitions s.at) ≡ h = all.parts s.at h s.left.1 in
        let stuck_long : length (part_at m (opening c) s.events (id_of c.partitions s.at)) ≡ number = (λ i. length (part_at m (opening c) s.events (sym s.is_at i))) ∙ s.left.2 in
        let sum = length-append (part_at m (opening c) events (id_of c.partitions s.at)) inside.0 in
        let same_long = ap length inside.1 in
        let part_long = ap length part in
        let less = s.left.3 in
        omega (arith, stuck_long, sum, same_long, part_long, less)
