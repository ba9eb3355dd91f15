-- Over an order that grows, with restarts and late packets, what every node, read and reply keeps.
use Rattle.std.proofs.Common.{◌≡◌, ℕ, zero, suc, List, [], ◌∷◌, ◌++◌, ◌⊎◌, inl, inr, refl, sym, ap, subst, ◌∙◌, map, Some, Bool, true, false, cond}
use Rattle.std.specs.FinMap.{insert, get-empty}
use Rattle.std.proofs.lemmas.Bool.{or_cases, and_parts}
use Rattle.std.proofs.lemmas.List.Folds.{list_any-append}
use Rattle.std.specs.List.{slice_get, Contains, list_any, list_all}
use Rattle.std.specs.Prelude.{nat_le}
use Rattle.calvin_app.specs.Meaning.{Meaning, WritesWithin}
use Rattle.calvin_app.specs.Rows.{Rows, view, part}
use Rattle.calvin_app.specs.Stores.{Store}
use Rattle.calvin_app.specs.Serial.{answer_one, rows_before, answers_by_place}
use Rattle.calvin_bench.specs.Turns.{IsDone, site_of}
use Rattle.calvin_sched.specs.Scheduling.{with_store, with_turn, new_turn, Turn, Scheduling, opened}
use Rattle.calvin_sched.specs.Steps.{admitted, begun_turn}
use Rattle.calvin_sched.specs.declared.phase.Phase.{Phase}
use Rattle.calvin_sched.specs.declared.phase.Phase.TheVariants.{Waiting, Begun, Done}
use Rattle.calvin_types.specs.Keys.{partition_of}
use Rattle.calvin_types.specs.Orders.{Order, Rises, StandsAt, from_place}
use Rattle.calvin_types.specs.Participants.{Site, is_local, local_keys, is_active, is_least, has_local_key}
use Rattle.calvin_types.specs.Places.{place_cmp, IsBefore}
use Rattle.calvin_types.specs.declared.place.Place.{Place}
use Rattle.calvin_types.specs.declared.txn.Txn.{Txn}
use Rattle.calvin_bench.specs.Lives.{Node, Reads, Given, HasGiven, World, Event, Settle, Admit, Restart, Begin, Finish, AskReads, Snapshot, Mark, Stir, Deliver, with_scheduler, with_pending, node_of, NodeStep, NodeHappens, Settles, Happens, Reaches, IsOpening, HoldsOf}
use Rattle.calvin_types.proofs.PlaceOrder.{place_total, place_exact, not_both, not_before_itself}
use Rattle.calvin_bench.proofs.Placing.{places, earlier, same_place, later, before_trans, upto_before}
use Rattle.calvin_bench.proofs.SerialRows.{answer_at, only_one}
use Rattle.calvin_bench.proofs.Insertions.{insert_each}
use Rattle.std.proofs.lemmas.Bool.{or_right}
use Rattle.calvin_bench.proofs.OnePartition.{Keeps, opened_keeps, admit_keeps, begin_keeps, receive_keeps, finish_keeps, finish_answers, rows_standing, mark_keeps, stir_keeps, takes_keeps, takes_right, takes_opened, takes_done, takes_all_before}
use Rattle.calvin_bench.proofs.Growth.{rows_kept, grow_keeps, rises_across}
use Rattle.calvin_order.proofs.Standing.{stands_left, stands_split}
use Rattle.calvin_bench.proofs.Lists.{set_each}

-- P of each element
abbrev pub Each : {X : Type 0} → (X → Type 0) → List X → Type 0
Each {X} P xs = (i : ℕ) (x : X) → slice_get xs i ≡ Some x → P x

each_append : {X : Type 0} (P : X → Type 0) (xs ys : List X) → Each P xs → Each P ys → Each P (xs ++ ys)
each_append P [] ys left right i x h = right i x h
each_append P (a ∷ xs) ys left right zero x h = left zero x h
each_append P (a ∷ xs) ys left right (suc i) x h = each_append P xs ys (λ i x h. left (suc i) x h) right i x h

each_map : {X : Type 0} (P Q : X → Type 0) (f : X → X) → ((x : X) → P x → Q (f x)) → (xs : List X) → Each P xs → Each Q (map f xs)
each_map P Q f step [] all i x h = absurd (cc)
each_map P Q f step (a ∷ xs) all zero x h = let is : f a ≡ x = cc in subst Q is (step a (all 0 a refl))
each_map P Q f step (a ∷ xs) all (suc i) x h = each_map P Q f step xs (λ i x h. all (suc i) x h) i x h

-- the same with the index
map_each : {X : Type 0} (P Q : ℕ → X → Type 0) (f : X → X) → ((i : ℕ) (x : X) → P i x → Q i (f x)) → (xs : List X) → ((i : ℕ) (x : X) → slice_get xs i ≡ Some x → P i x) → (i : ℕ) (x : X) → slice_get (map f xs) i ≡ Some x → Q i x
map_each P Q f step [] all i x h = absurd (cc)
map_each P Q f step (a ∷ xs) all zero x h = let is : f a ≡ x = cc in subst (Q 0) is (step 0 a (all 0 a refl))
map_each P Q f step (a ∷ xs) all (suc i) x h = map_each (λ i. P (suc i)) (λ i. Q (suc i)) f (λ i. step (suc i)) xs (λ i x h. all (suc i) x h) i x h

given_left : {Reply : Type 0} (xs ys : List (Given Reply)) (i : ℕ) (n : Place) → HasGiven xs i n → HasGiven (xs ++ ys) i n
given_left [] ys i n (k, x, at, by, place) = absurd (cc)
given_left (a ∷ xs) ys i n (zero, x, at, by, place) = (0, x, at, by, place)
given_left (a ∷ xs) ys i n (suc k, x, at, by, place) = let more = given_left xs ys i n (k, x, at, by, place) in (suc more.0, more.1, more.2, more.3, more.4)

given_right : {Reply : Type 0} (xs ys : List (Given Reply)) (i : ℕ) (n : Place) → HasGiven ys i n → HasGiven (xs ++ ys) i n
given_right [] ys i n h = h
given_right (a ∷ xs) ys i n h = let more = given_right xs ys i n h in (suc more.0, more.1, more.2, more.3, more.4)

each_none : {X : Type 0} (P : X → Type 0) → Each P []
each_none P i x h = absurd (cc)

each_one : {X : Type 0} (P : X → Type 0) (a : X) → P a → Each P (a ∷ [])
each_one P a here zero x h = let is : a ≡ x = cc in subst P is here
each_one P a here (suc i) x h = absurd (cc)

-- an active request has a key here
active_local : {Args : Type 0} (site : Site) (t : Txn Args) → is_active site t ≡ true → has_local_key site t ≡ true
active_local site t active =
    let reads = list_any (is_local site) t.sets.reads in
    let writes = list_any (is_local site) t.sets.writes in
    elim (or_cases writes (is_least site t) active) [
      | inl written ↦ list_any-append (is_local site) t.sets.reads t.sets.writes ∙ or_right reads writes written
      | inr least ↦ (and_parts (has_local_key site t) (list_all (λ k. nat_le site.partition (partition_of site.partitions k)) (t.sets.reads ++ t.sets.writes)) least).0
    ]

-- what is done after an entry was put was done before, unless it is that entry
done_after : {Args Row : Type 0} (s : Scheduling Args Row) (n : Place) (j : Turn Args Row) (store : Store Row) (p : Place)
    → IsDone (record s { turns = insert s.turns n j; store = store }) p → IsDone s p ⊎ ((p ≡ n) × (j.phase ≡ Done))
done_after s n j store p (inl h) = inl (inl h)
done_after {Args} {Row} s n j store p (inr (x, has, d)) =
    let P : Place → Turn Args Row → Type 0 = λ p x. x.phase ≡ Done → IsDone s p ⊎ ((p ≡ n) × (j.phase ≡ Done)) in
    insert_each place_total place_exact P s.turns n j (λ d. inr (refl, d)) (λ q y h d. inl (inr (y, h, d))) p x has d

module _ {Args Row Reply : Type 0} (m : Meaning Args Row Reply) (count : ℕ) (start : Rows Row) (law : WritesWithin m) where
  pub record NodeKeeps (order : Order Args) (settled : Place) (node : Node Args Row) : Type 0 where
    pub keeps : Keeps m order start (site_of count node.partition) node.pending node.scheduler
    pub kept_is : node.kept ≡ part count node.partition (rows_before m order start node.kept_at)
    pub kept_in : IsBefore settled node.kept_at → ⊥
    pub opened_in : IsBefore settled node.scheduler.opened_from → ⊥

  abbrev pub IsDue : Order Args → Reads Row → Type 0
  IsDue order x = (t : Txn Args) × StandsAt order x.place t × (x.rows ≡ view (rows_before m order start x.place) (local_keys (site_of count x.from) t.sets.reads))

  abbrev pub IsRight : Order Args → Given Reply → Type 0
  IsRight order x = (t : Txn Args) × StandsAt order x.place t × (x.answer ≡ answer_one m t (rows_before m order start x.place))

  -- what is done at node i, or before its snapshot, was answered by it where it is active
  pub record Answered (order : Order Args) (replies : List (Given Reply)) (i : ℕ) (node : Node Args Row) : Type 0 where
    pub done : (n : Place) (t : Txn Args) → StandsAt order n t → is_active (site_of count node.partition) t ≡ true → IsDone node.scheduler n → HasGiven replies i n
    pub kept : (n : Place) (t : Txn Args) → StandsAt order n t → is_active (site_of count node.partition) t ≡ true → IsBefore n node.kept_at → HasGiven replies i n

  pub record WorldKeeps (w : World Args Row Reply) : Type 0 where
    pub rising : Rises w.order
    pub nodes : Each (NodeKeeps w.order w.settled) w.nodes
    pub reads : Each (IsDue w.order) w.reads
    pub replies : Each (IsRight w.order) w.replies
    pub answered : (i : ℕ) (node : Node Args Row) → slice_get w.nodes i ≡ Some node → Answered w.order w.replies i node

  -- a step of a node's scheduler
  moved : (order : Order Args) (settled : Place) (node : Node Args Row) → NodeKeeps order settled node → (s : Scheduling Args Row) (pending : Order Args)
      → s.opened_from ≡ node.scheduler.opened_from → Keeps m order start (site_of count node.partition) pending s → NodeKeeps order settled (with_scheduler node s pending)
  moved order settled node old s pending same keeps = record { keeps = keeps; kept_is = old.kept_is; kept_in = old.kept_in; opened_in = λ h. old.opened_in (subst (IsBefore settled) same h) }

  record Kept (order : Order Args) (settled : Place) (next : Node Args Row) (reads : List (Reads Row)) (replies : List (Given Reply)) : Type 0 where
    node : NodeKeeps order settled next
    sent : Each (IsDue order) reads
    given : Each (IsRight order) replies

  kept : (order : Order Args) (settled : Place) (a b : Node Args Row) (reads reads' : List (Reads Row)) (replies replies' : List (Given Reply))
      → b ≡ a → reads' ≡ reads → replies' ≡ replies → NodeKeeps order settled a → Each (IsDue order) reads → Each (IsRight order) replies → Kept order settled b reads' replies'
  kept order settled a b reads reads' replies replies' e f g node sent given = record { node = subst (NodeKeeps order settled) (sym e) node; sent = subst (Each (IsDue order)) (sym f) sent; given = subst (Each (IsRight order)) (sym g) given }

  opened_same : (site : Site) (s : Scheduling Args Row) (q : Place) (t : Txn Args) → (admitted site s q t).opened_from ≡ s.opened_from
  opened_same site s q t = go (has_local_key site t)
    where
      go : (b : Bool) → (cond b (with_turn s q (new_turn t)) s).opened_from ≡ s.opened_from
      go true = refl
      go false = refl

  node_keeps : (w : World Args Row Reply) → WorldKeeps w → (event : Event Args) (node next : Node Args Row) (reads : List (Reads Row)) (replies : List (Given Reply))
      → NodeKeeps w.order w.settled node → NodeStep m count w event node next reads replies → Kept w.order w.settled next reads replies
  node_keeps w all (Settle more q) node next reads replies old h = absurd h
  node_keeps w all (Admit i) node next reads replies old (q, t, rest, is, e, f, g) =
      let site = site_of count node.partition in
      let keeps = admit_keeps m w.order start site law all.rising q t rest node.scheduler (subst (λ pending. Keeps m w.order start site pending node.scheduler) is old.keeps) in
      kept w.order w.settled _ next _ reads _ replies e f g (moved w.order w.settled node old _ rest (opened_same site node.scheduler q t) keeps) (each_none _) (each_none _)
  node_keeps w all (Begin i q) node next reads replies old (s, j, b, has, began, e, f, g) =
      let site = site_of count node.partition in
      let keeps = begin_keeps m w.order start site law all.rising node.pending node.scheduler old.keeps q s b in
      kept w.order w.settled _ next _ reads _ replies e f g (moved w.order w.settled node old s node.pending (ap (λ x. x.opened_from) b.now) keeps)
      (each_one _ _ (j.request, (keeps.known q j has).0, keeps.served q j has began)) (each_none _)
  node_keeps w all (Deliver i k) node next reads replies old (s, x, there, b, e, f, g) =
      let site = site_of count node.partition in
      let is = all.reads k x there in
      let keeps = receive_keeps m w.order start site law all.rising node.pending node.scheduler old.keeps x.place x.from x.rows s b
      (λ t at. is.2 ∙ ap (λ u. view (rows_before m w.order start x.place) (local_keys (site_of count x.from) u.sets.reads)) (only_one w.order all.rising x.place is.0 t is.1 at)) in
      kept w.order w.settled _ next _ reads _ replies e f g (moved w.order w.settled node old s node.pending (ap (λ x. x.opened_from) b.now) keeps) (each_none _) (each_none _)
  node_keeps w all (Finish i q) node next reads replies old (s, a, b, e, f, g) =
      let site = site_of count node.partition in
      let keeps = finish_keeps m w.order start site law all.rising node.pending node.scheduler old.keeps q a s b in
      let given = finish_answers m w.order start site law all.rising node.pending node.scheduler old.keeps q a s b in
      kept w.order w.settled _ next _ reads _ replies e f g (moved w.order w.settled node old s node.pending (ap (λ x. x.opened_from) b.now) keeps)
      (each_none _) (each_one _ _ (b.turn.request, given.0, given.1))
  node_keeps w all (AskReads i q) node next reads replies old (j, has, began, e, f, g) =
      kept w.order w.settled _ next _ reads _ replies e f g old (each_one _ _ (j.request, (old.keeps.known q j has).0, old.keeps.served q j has began)) (each_none _)
  node_keeps w all (Snapshot i q) node next reads replies old (rows, s, b, upto, e, f, g) =
      let site = site_of count node.partition in
      let keeps = takes_keeps m w.order start site law all.rising node.pending node.scheduler old.keeps q rows s b in
      kept w.order w.settled _ next _ reads _ replies e f g
      (record { keeps = keeps; kept_is = takes_right m w.order start site law all.rising node.pending node.scheduler old.keeps q rows s b; kept_in = upto; opened_in = λ h. old.opened_in (subst (IsBefore w.settled) (takes_opened m w.order start site law all.rising node.pending node.scheduler old.keeps q rows s b) h) })
      (each_none _) (each_none _)
  node_keeps w all (Mark i q) node next reads replies old (s, b, e, f, g) =
      let site = site_of count node.partition in
      let keeps = mark_keeps m w.order start site law all.rising node.pending node.scheduler old.keeps q s b in
      kept w.order w.settled _ next _ reads _ replies e f g (moved w.order w.settled node old s node.pending (ap (λ x. x.opened_from) b.now) keeps) (each_none _) (each_none _)
  node_keeps w all (Stir i) node next reads replies old (store, same_map, same_point, e, f, g) =
      let site = site_of count node.partition in
      let keeps = stir_keeps m w.order start site law all.rising node.pending node.scheduler old.keeps store same_map same_point in
      kept w.order w.settled _ next _ reads _ replies e f g (moved w.order w.settled node old (with_store node.scheduler store) node.pending refl keeps) (each_none _) (each_none _)
  node_keeps w all (Restart i) node next reads replies old (e, f, g) =
      let site = site_of count node.partition in
      let pending = from_place node.kept_at w.order in
      let fresh = opened_keeps m w.order start site law all.rising node.kept_at in
      let keeps = subst (λ rows. Keeps m w.order start site pending (opened node.kept_at rows)) (sym old.kept_is) fresh in
      kept w.order w.settled _ next _ reads _ replies e f g (record { keeps = keeps; kept_is = old.kept_is; kept_in = old.kept_in; opened_in = old.kept_in }) (each_none _) (each_none _)

  more_given : (order : Order Args) (replies more : List (Given Reply)) (i : ℕ) (node : Node Args Row) → Answered order replies i node → Answered order (replies ++ more) i node
  more_given order replies more i node old = record {
    done = λ n t at active done. given_left replies more i n (old.done n t at active done);
    kept = λ n t at active early. given_left replies more i n (old.kept n t at active early);
  }

  -- a scheduler in which nothing more is done that is active
  no_more_done : (order : Order Args) (replies more : List (Given Reply)) (i : ℕ) (node : Node Args Row) (s : Scheduling Args Row) (pending : Order Args) → Answered order replies i node
      → ((n : Place) (t : Txn Args) → StandsAt order n t → is_active (site_of count node.partition) t ≡ true → IsDone s n → IsDone node.scheduler n ⊎ HasGiven more i n)
      → Answered order (replies ++ more) i (with_scheduler node s pending)
  no_more_done order replies more i node s pending old before = record {
    done = λ n t at active done. elim (before n t at active done) [
      | inl was ↦ given_left replies more i n (old.done n t at active was)
      | inr new ↦ given_right replies more i n new
    ];
    kept = λ n t at active early. given_left replies more i n (old.kept n t at active early);
  }

  node_answered : (w : World Args Row Reply) → WorldKeeps w → (event : Event Args) (node next : Node Args Row) (reads : List (Reads Row)) (replies : List (Given Reply))
      → NodeKeeps w.order w.settled node → Answered w.order w.replies (node_of event) node → NodeStep m count w event node next reads replies → Answered w.order (w.replies ++ replies) (node_of event) next
  node_answered w all (Settle more q) node next reads replies keeps old h = absurd h
  node_answered w all (Admit i) node next reads replies keeps old (q, t, rest, is, e, f, g) =
      subst (Answered w.order (w.replies ++ replies) i) (sym e) (no_more_done w.order w.replies replies i node _ rest old (λ n u at active done. inl (go (has_local_key (site_of count node.partition) t) n done)))
    where
      go : (b : Bool) (n : Place) → IsDone (cond b (with_turn node.scheduler q (new_turn t)) node.scheduler) n → IsDone node.scheduler n
      go true n done = elim (done_after node.scheduler q (new_turn t) node.scheduler.store n done) [ inl was ↦ was | inr now ↦ absurd (never now.1) ]
        where
          never : ◌≡◌ {A = Phase} Waiting Done → ⊥
          never e = cc
      go false n done = done
  node_answered w all (Begin i q) node next reads replies keeps old (s, j, b, has, began, e, f, g) =
      subst (Answered w.order (w.replies ++ replies) i) (sym e) (no_more_done w.order w.replies replies i node s node.pending old (λ n t at active done. inl (was n t at active (subst (λ s. IsDone s n) b.now done))))
    where
      site : Site
      site = site_of count node.partition

      x : Turn Args Row
      x = begun_turn site node.scheduler.store.map b.turn

      runs_later : (a : Bool) → a ≡ true → ◌≡◌ {A = Phase} (cond a Begun Done) Done → ⊥
      runs_later true yes_active d = cc
      runs_later false yes_active d = cc

      was : (n : Place) (t : Txn Args) → StandsAt w.order n t → is_active site t ≡ true → IsDone (with_turn node.scheduler q x) n → IsDone node.scheduler n
      was n t at active done = elim (done_after node.scheduler q x node.scheduler.store n done) [
        | inl before ↦ before
        | inr now ↦ absurd (runs_later (is_active site b.turn.request)
            (ap (is_active site) (sym (only_one w.order all.rising q t b.turn.request (subst (λ p. StandsAt w.order p t) now.0 at) (keeps.keeps.known q b.turn b.has_turn).0)) ∙ active) now.1)
      ]
  node_answered w all (Deliver i k) node next reads replies keeps old (s, x, there, b, e, f, g) =
      subst (Answered w.order (w.replies ++ replies) i) (sym e) (no_more_done w.order w.replies replies i node s node.pending old (λ n t at active done.
      elim (done_after node.scheduler x.place _ node.scheduler.store n (subst (λ s. IsDone s n) b.now done)) [ inl was ↦ inl was | inr now ↦ absurd (b.not_done now.1) ]))
  node_answered w all (Finish i q) node next reads replies keeps old (s, a, b, e, f, g) =
      subst (Answered w.order (w.replies ++ replies) i) (sym e) (no_more_done w.order w.replies replies i node s node.pending old (λ n t at active done.
      elim (done_after node.scheduler q _ node.scheduler.store n (subst (λ s. IsDone s n) b.now done)) [
        | inl was ↦ inl was
        | inr now ↦ inr (subst (λ replies. HasGiven replies i n) (sym g) (0, record { by = i; place = q; answer = a }, refl, refl, sym now.0))
      ]))
  node_answered w all (AskReads i q) node next reads replies keeps old (j, has, began, e, f, g) = subst (Answered w.order (w.replies ++ replies) i) (sym e) (more_given w.order w.replies replies i node old)
  node_answered w all (Snapshot i q) node next reads replies keeps old (rows, s, b, upto, e, f, g) =
      let site = site_of count node.partition in
      subst (Answered w.order (w.replies ++ replies) i) (sym e) (record {
        done = λ n t at active done. given_left w.replies replies i n (old.done n t at active (takes_done m w.order start site law all.rising node.pending node.scheduler keeps.keeps q rows s b n done));
        kept = λ n t at active early. given_left w.replies replies i n (old.done n t at active (takes_all_before m w.order start site law all.rising node.pending node.scheduler keeps.keeps q rows s b n t at early (active_local site t active)));
      })
  node_answered w all (Mark i q) node next reads replies keeps old (s, b, e, f, g) =
      subst (Answered w.order (w.replies ++ replies) i) (sym e) (no_more_done w.order w.replies replies i node s node.pending old (λ n t at active done. inl (subst (λ s. IsDone s n) b.now done)))
  node_answered w all (Stir i) node next reads replies keeps old (store, same_map, same_point, e, f, g) =
      subst (Answered w.order (w.replies ++ replies) i) (sym e) (no_more_done w.order w.replies replies i node (with_store node.scheduler store) node.pending old (λ n t at active done. inl done))
  node_answered w all (Restart i) node next reads replies keeps old (e, f, g) =
      subst (Answered w.order (w.replies ++ replies) i) (sym e) (record {
        done = λ n t at active done. given_left w.replies replies i n (old.kept n t at active (opened_done n done));
        kept = λ n t at active early. given_left w.replies replies i n (old.kept n t at active early);
      })
    where
      reopened : Scheduling Args Row
      reopened = opened node.kept_at node.kept

      opened_done : (n : Place) → IsDone reopened n → IsBefore n node.kept_at
      opened_done n (inl h) = h
      opened_done n (inr (j, has, d)) = let none = get-empty {X = Turn Args Row} place_cmp n in absurd (cc (none, has))

  pub event_keeps : (w : World Args Row Reply) (event : Event Args) (new : World Args Row Reply) → WorldKeeps w → NodeHappens m count w event new → WorldKeeps new
  event_keeps w event new all h =
      let k = node_keeps w all event h.node h.next h.reads h.replies (all.nodes (node_of event) h.node h.is_there) h.does in
      subst WorldKeeps (sym h.now) (record {
        rising = all.rising;
        nodes = set_each (λ i node. NodeKeeps w.order w.settled node) w.nodes (node_of event) h.next k.node all.nodes;
        reads = each_append (IsDue w.order) w.reads h.reads all.reads k.sent;
        replies = each_append (IsRight w.order) w.replies h.replies all.replies k.given;
        answered = set_each (λ i node. Answered w.order (w.replies ++ h.replies) i node) w.nodes (node_of event) h.next
            (node_answered w all event h.node h.next h.reads h.replies (all.nodes (node_of event) h.node h.is_there) (all.answered (node_of event) h.node h.is_there) h.does)
            (λ i node there. more_given w.order w.replies h.replies i node (all.answered i node there));
      })

  -- the order grows
  pub settle_keeps : (w : World Args Row Reply) (more : Order Args) (q : Place) (new : World Args Row Reply) → WorldKeeps w → Settles m count w more q new → WorldKeeps new
  settle_keeps w more q new all h = subst WorldKeeps (sym h.now) (record {
    rising = h.rising;
    nodes = each_map (NodeKeeps w.order w.settled) (NodeKeeps (w.order ++ more) q) (with_pending more) grown w.nodes all.nodes;
    reads = λ i x there. still_due x (all.reads i x there);
    replies = λ i x there. still_right x (all.replies i x there);
    answered = grown_answered w.nodes (λ i node there. (all.nodes i node there, all.answered i node there));
  })
    where
      late : (p : Place) → (IsBefore w.settled p → ⊥) → (n : Place) (t : Txn Args) → StandsAt more n t → IsBefore n p → ⊥
      late p early n t at g = h.fresh n t at (upto_before n p w.settled g early)

      old_place : (p : Place) (t : Txn Args) → StandsAt w.order p t → rows_before m (w.order ++ more) start p ≡ rows_before m w.order start p
      old_place p t at = rows_kept m w.order more start p (λ n u there g. not_both n p g (rises_across w.order more h.rising p t at n u there))

      further : (p : Place) → (IsBefore w.settled p → ⊥) → IsBefore q p → ⊥
      further p early g = elim (places w.settled q) [
        | earlier less ↦ early (before_trans w.settled q p less g)
        | same_place e ↦ early (subst (λ x. IsBefore x p) (sym e) g)
        | later less ↦ h.further less
      ]

      grown : (node : Node Args Row) → NodeKeeps w.order w.settled node → NodeKeeps (w.order ++ more) q (with_pending more node)
      grown node old = record {
        keeps = grow_keeps m law w.order more start h.rising (site_of count node.partition) node.pending node.scheduler (late node.scheduler.opened_from old.opened_in) old.keeps;
        kept_is = old.kept_is ∙ ap (part count node.partition) (sym (rows_kept m w.order more start node.kept_at (late node.kept_at old.kept_in)));
        kept_in = further node.kept_at old.kept_in;
        opened_in = further node.scheduler.opened_from old.opened_in;
      }

      answered_on : (i : ℕ) (node : Node Args Row) → NodeKeeps w.order w.settled node × Answered w.order w.replies i node → Answered (w.order ++ more) w.replies i (with_pending more node)
      answered_on i node (old, given) = record {
        done = λ n t at active done. elim (stands_split w.order more n t at) [
          | inl here ↦ given.done n t here active done
          | inr new ↦ absurd (not_yet n t new done)
        ];
        kept = λ n t at active early. elim (stands_split w.order more n t at) [
          | inl here ↦ given.kept n t here active early
          | inr new ↦ absurd (late node.kept_at old.kept_in n t new early)
        ];
      }
        where
          not_yet : (n : Place) (t : Txn Args) → StandsAt more n t → IsDone node.scheduler n → ⊥
          not_yet n t new (inl before) = late node.scheduler.opened_from old.opened_in n t new before
          not_yet n t new (inr (j, has, d)) = not_before_itself n (rises_across w.order more h.rising n j.request (old.keeps.known n j has).0 n t new)

      grown_answered : (nodes : List (Node Args Row)) → ((i : ℕ) (node : Node Args Row) → slice_get nodes i ≡ Some node → NodeKeeps w.order w.settled node × Answered w.order w.replies i node)
          → (i : ℕ) (node : Node Args Row) → slice_get (map (with_pending more) nodes) i ≡ Some node → Answered (w.order ++ more) w.replies i node
      grown_answered nodes each = map_each (λ i node. NodeKeeps w.order w.settled node × Answered w.order w.replies i node) (Answered (w.order ++ more) w.replies) (with_pending more) answered_on nodes each

      still_due : (x : Reads Row) → IsDue w.order x → IsDue (w.order ++ more) x
      still_due x (t, at, is) = (t, stands_left w.order more x.place t at, is ∙ ap (λ rows. view rows (local_keys (site_of count x.from) t.sets.reads)) (sym (old_place x.place t at)))

      still_right : (x : Given Reply) → IsRight w.order x → IsRight (w.order ++ more) x
      still_right x (t, at, is) = (t, stands_left w.order more x.place t at, is ∙ ap (answer_one m t) (sym (old_place x.place t at)))

  pub happens_keeps : (w : World Args Row Reply) (event : Event Args) (new : World Args Row Reply) → WorldKeeps w → Happens m count w event new → WorldKeeps new
  happens_keeps w (Settle more q) new all h = settle_keeps w more q new all h
  happens_keeps w (Admit i) new all h = event_keeps w (Admit i) new all h
  happens_keeps w (Restart i) new all h = event_keeps w (Restart i) new all h
  happens_keeps w (Begin i q) new all h = event_keeps w (Begin i q) new all h
  happens_keeps w (Finish i q) new all h = event_keeps w (Finish i q) new all h
  happens_keeps w (AskReads i q) new all h = event_keeps w (AskReads i q) new all h
  happens_keeps w (Snapshot i q) new all h = event_keeps w (Snapshot i q) new all h
  happens_keeps w (Mark i q) new all h = event_keeps w (Mark i q) new all h
  happens_keeps w (Stir i) new all h = event_keeps w (Stir i) new all h
  happens_keeps w (Deliver i k) new all h = event_keeps w (Deliver i k) new all h

  reaches_keeps : (w : World Args Row Reply) (events : List (Event Args)) (new : World Args Row Reply) → WorldKeeps w → Reaches m count w events new → WorldKeeps new
  reaches_keeps w [] new all h = subst WorldKeeps (sym h) all
  reaches_keeps w (event ∷ events) new all (mid, first, rest) = reaches_keeps mid events new (happens_keeps w event mid all first) rest

  pub holds_from : (w : World Args Row Reply) → WorldKeeps w → HoldsOf m count start w
  holds_from w all = record {
    rows = λ i node q there stands. rows_standing m w.order start (site_of count node.partition) law all.rising node.pending node.scheduler (all.nodes i node there).keeps q stands;
    kept = λ i node there. (all.nodes i node there).kept_is;
    reads = all.reads;
    replies = λ k x there. right x (all.replies k x there);
    sent = λ i node q there stands n t at early active. (all.answered i node there).done n t at active (stands.all_before n t at early (active_local (site_of count node.partition) t active));
  }
    where
      right : (x : Given Reply) → IsRight w.order x → Contains (answers_by_place m w.order start) (x.place, x.answer)
      right x (t, at, is) = subst (λ y. Contains (answers_by_place m w.order start) (x.place, y)) (sym is) (answer_at m w.order all.rising start x.place t at)

  pub opening_keeps : (w : World Args Row Reply) → IsOpening m count start w → WorldKeeps w
  opening_keeps w opening = record {
    rising = subst Rises (sym opening.no_order) tt;
    nodes = λ i node there. subst (λ order. NodeKeeps order w.settled node) (sym opening.no_order)
        (subst (NodeKeeps [] w.settled) (sym (opening.nodes i node there)) (record {
          keeps = opened_keeps m [] start (site_of count node.partition) law tt w.settled;
          kept_is = refl;
          kept_in = not_before_itself w.settled;
          opened_in = not_before_itself w.settled;
        }));
    reads = subst (Each (IsDue w.order)) (sym opening.no_reads) (each_none _);
    replies = subst (Each (IsRight w.order)) (sym opening.no_replies) (each_none _);
    answered = λ i node there. subst (λ order. Answered order w.replies i node) (sym opening.no_order) (record { done = λ n t at. absurd at; kept = λ n t at. absurd at });
  }

  pub reached_holds : (w : World Args Row Reply) → IsOpening m count start w → (events : List (Event Args)) (new : World Args Row Reply) → Reaches m count w events new → HoldsOf m count start new
  reached_holds w opening events new h = holds_from new (reaches_keeps w events new (opening_keeps w opening) h)
