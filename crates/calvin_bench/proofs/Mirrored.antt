-- One replica of a given order is one node for each partition of the theorem's world: each step that takes effect is one of its
-- events, or two.
use Rattle.std.proofs.Common.{◌≡◌, ◌≢◌, ℕ, ◌+◌, zero, suc, Bool, true, false, cond, List, [], ◌∷◌, ◌++◌, drop, length, map, Option, Some, None, Result, Ok, Err, refl, sym, ap, subst, ◌∙◌}
use Rattle.std.specs.Prelude.{slice_get, slice_set}
use Rattle.std.specs.Option.{option_map}
use Rattle.std.specs.FinMap.{empty, get}
use Rattle.std.proofs.lemmas.Option.{slice_get-map}
use Rattle.calvin_types.specs.declared.fault.Fault.{Fault}
use Rattle.calvin_types.specs.declared.place.Place.{Place}
use Rattle.calvin_types.specs.declared.txn.Txn.{Txn}
use Rattle.calvin_types.specs.Deeds.{Deed, Refuses, Does, Did}
use Rattle.calvin_types.specs.Orders.{Order}
use Rattle.calvin_types.specs.Participants.{Site, site, has_local_key, is_active}
use Rattle.calvin_types.specs.Places.{place_cmp}
use Rattle.calvin_types.proofs.Fews.{drop_at}
use Rattle.calvin_types.proofs.ExactMaps.{insert_here}
use Rattle.calvin_types.proofs.PlaceOrder.{place_total, place_exact}
use Rattle.calvin_app.specs.Meaning.{Meaning, WritesWithin}
use Rattle.calvin_app.specs.Rows.{Rows, part}
use Rattle.calvin_app.specs.declared.answer.Answer.{Answer}
use Rattle.calvin_order.specs.Merged.{end_of}
use Rattle.calvin_sched.specs.declared.phase.Phase.TheVariants.{Waiting, Begun, Done}
use Rattle.calvin_sched.specs.Scheduling.{Scheduling, Turn, turn_at, with_turn, new_turn}
use Rattle.calvin_sched.specs.Steps.{Serving, admit, admitted, begin, begun_turn, on_reads, finish, served_at}
use Rattle.calvin_bench.specs.Turns.{Begins, Receives, Finishes}
use Rattle.calvin_bench.specs.Lives as lives
use Rattle.calvin_bench.specs.Lives.{Node, World, Event, NodeHappens, NodeStep}
use Rattle.calvin_bench.specs.Steps.{Part, put_part, at_part, calling, admit_next, begin_at, receive, receive_from, finish_at, step, Ran, IsSerialAt}
use Rattle.calvin_bench.specs.declared.step.Step.{Step}
use Rattle.calvin_bench.specs.declared.step.Step.TheVariants as the
use Rattle.calvin_bench.specs.declared.step.Outcome.{Outcome}
use Rattle.calvin_bench.specs.declared.step.Outcome.TheVariants.{Admitted, Served, Received, Answered}
use Rattle.calvin_bench.proofs.Deeds.{refuses_not, does_is, admit_does, begin_does, on_reads_does, finish_does, served_begun}
use Rattle.calvin_bench.proofs.Lists.{set_each, set_same, set_map, last_of}
use Rattle.calvin_bench.proofs.ManyReplicas.{WorldKeeps, event_keeps, holds_from}

-- ---- what a deed that takes effect comes from

module _ {Args Row Out : Type 0} where
  pub record At (parts : List (Part Args Row)) (p : ℕ) (deed : Part Args Row → Deed (Part Args Row) Out) (new : List (Part Args Row)) (out : Out) : Type 0 where
    pub old : Part Args Row
    pub next : Part Args Row
    pub there : slice_get parts p ≡ Some old
    pub does : deed old ≡ Does next out
    pub now : new ≡ slice_set parts p next

  put_does : (parts : List (Part Args Row)) (p : ℕ) (deed : Part Args Row → Deed (Part Args Row) Out) (x : Part Args Row) → slice_get parts p ≡ Some x → (d : Deed (Part Args Row) Out) → deed x ≡ d
      → (new : List (Part Args Row)) (out : Out) → put_part parts p d ≡ Does new out → At parts p deed new out
  put_does parts p deed x there (Refuses f) is new out e = absurd (refuses_not e)
  put_does parts p deed x there (Does y given) is new out e = let both = does_is e in record { old = x; next = y; there = there; does = is ∙ ap (Does y) (sym both.1); now = both.0 }

  pub at_does : (parts : List (Part Args Row)) (p : ℕ) (deed : Part Args Row → Deed (Part Args Row) Out) (new : List (Part Args Row)) (out : Out) (o : Option (Part Args Row)) → slice_get parts p ≡ o
      → at_part parts p deed o ≡ Does new out → At parts p deed new out
  at_does parts p deed new out None is e = absurd (refuses_not e)
  at_does parts p deed new out (Some x) is e = put_does parts p deed x is (deed x) refl new out e

  pub record Called {Given : Type 0} (x : Part Args Row) (tell : Given → Out) (d : Deed (Scheduling Args Row) Given) (y : Part Args Row) (out : Out) : Type 0 where
    pub scheduler : Scheduling Args Row
    pub given : Given
    pub does : d ≡ Does scheduler given
    pub next : y ≡ record x { scheduler = scheduler }
    pub told : out ≡ tell given

  pub calling_does : {Given : Type 0} (x : Part Args Row) (tell : Given → Out) (d : Deed (Scheduling Args Row) Given) (y : Part Args Row) (out : Out) → calling x tell d ≡ Does y out → Called x tell d y out
  calling_does x tell (Refuses f) y out e = absurd (refuses_not e)
  calling_does x tell (Does s given) y out e = let both = does_is e in record { scheduler = s; given = given; does = refl; next = both.0; told = both.1 }

-- a request that began waits no more
begun_not_waiting : {Args Row : Type 0} (here : Site) (rows : Rows Row) (x : Turn Args Row) → (begun_turn here rows x).phase ≢ Waiting
begun_not_waiting here rows x = go (is_active here x.request)
  where
    go : (b : Bool) → cond b Begun Done ≢ Waiting
    go true e = absurd (cc)
    go false e = absurd (cc)

-- an admission leaves where the scheduler was opened
admitted_from : {Args Row : Type 0} (here : Site) (s : Scheduling Args Row) (q : Place) (t : Txn Args) → (admitted here s q t).opened_from ≡ s.opened_from
admitted_from here s q t = go (has_local_key here t)
  where
    go : (b : Bool) → (cond b (with_turn s q (new_turn t)) s).opened_from ≡ s.opened_from
    go true = refl
    go false = refl

module _ {Args Row Reply : Type 0} (m : Meaning Args Row Reply) (count : ℕ) (law : WritesWithin m) (order : Order Args) where
  -- ---- the world beside it

  abbrev pub node_of : Part Args Row → Node Args Row
  node_of x = record { partition = x.here.partition; scheduler = x.scheduler; pending = drop x.admitted order; kept_at = end_of 0; kept = part count x.here.partition empty }

  abbrev pub world : List (Part Args Row) → List (lives.Reads Row) → List (lives.Given Reply) → World Args Row Reply
  world parts reads replies = record { order = order; settled = end_of 0; nodes = map node_of parts; reads = reads; replies = replies }

  pub record Mirrored (parts : List (Part Args Row)) : Type 0 where
    pub reads : List (lives.Reads Row)
    pub replies : List (lives.Given Reply)
    pub keeps : WorldKeeps m count empty law (world parts reads replies)
    -- each partition has its number, and was opened at the beginning
    pub numbered : (i : ℕ) (x : Part Args Row) → slice_get parts i ≡ Some x → (x.here ≡ site count i) × (x.scheduler.opened_from ≡ end_of 0)

  -- where a partition is
  sited : (parts : List (Part Args Row)) → Mirrored parts → (p : ℕ) (x : Part Args Row) → slice_get parts p ≡ Some x → x.here ≡ site count x.here.partition
  sited parts mirrored p x there = let is = (mirrored.numbered p x there).0 in is ∙ ap (λ h. site count h.partition) (sym is)

  -- an event at the node of a partition
  happened : (parts : List (Part Args Row)) (mirrored : Mirrored parts) (event : Event Args) (x y : Part Args Row) → slice_get parts (lives.node_of event) ≡ Some x → (reads : List (lives.Reads Row)) (replies : List (lives.Given Reply))
      → NodeStep m count (world parts mirrored.reads mirrored.replies) event (node_of x) (node_of y) reads replies
      → WorldKeeps m count empty law (world (slice_set parts (lives.node_of event) y) (mirrored.reads ++ reads) (mirrored.replies ++ replies))
  happened parts mirrored event x y there reads replies does =
      event_keeps m count empty law (world parts mirrored.reads mirrored.replies) event _ mirrored.keeps (record {
        node = node_of x;
        next = node_of y;
        reads = reads;
        replies = replies;
        is_there = slice_get-map node_of parts (lives.node_of event) ∙ ap (option_map node_of) there;
        does = does;
        now = ap (λ nodes. record { order = order; settled = end_of 0; nodes = nodes; reads = mirrored.reads ++ reads; replies = mirrored.replies ++ replies }) (set_map node_of parts (lives.node_of event) y);
      })

  -- a partition that changed keeps its number, and where it was opened
  renumbered : (parts : List (Part Args Row)) → Mirrored parts → (p : ℕ) (x y : Part Args Row) → slice_get parts p ≡ Some x → y.here ≡ x.here → y.scheduler.opened_from ≡ x.scheduler.opened_from
      → (i : ℕ) (z : Part Args Row) → slice_get (slice_set parts p y) i ≡ Some z → (z.here ≡ site count i) × (z.scheduler.opened_from ≡ end_of 0)
  renumbered parts mirrored p x y there same from =
      let was = mirrored.numbered p x there in
      set_each (λ i (z : Part Args Row). (z.here ≡ site count i) × (z.scheduler.opened_from ≡ end_of 0)) parts p y (same ∙ was.0, from ∙ was.1) mirrored.numbered

  -- ---- the steps

  admit_mirrored : (parts : List (Part Args Row)) (p : ℕ) (mirrored : Mirrored parts) (x y : Part Args Row) → slice_get parts p ≡ Some x → (o : Option (Place × Txn Args)) → slice_get order x.admitted ≡ o → (out : Outcome Row Reply)
      → admit_next x o ≡ Does y out → Mirrored (slice_set parts p y)
  admit_mirrored parts p mirrored x y there None is out e = absurd (refuses_not e)
  admit_mirrored parts p mirrored x y there (Some a) is out e =
      let called = calling_does (record x { admitted = x.admitted + 1 }) (λ _. Admitted) (admit x.here a.0 a.1 x.scheduler) y out e in
      let now = admit_does x.here a.0 x.scheduler a.1 called.scheduler called.given called.does in
      let next : y ≡ record x { scheduler = admitted x.here x.scheduler a.0 a.1; admitted = x.admitted + 1 } = called.next ∙ ap (λ s. record x { scheduler = s; admitted = x.admitted + 1 }) now in record {
        reads = mirrored.reads ++ [];
        replies = mirrored.replies ++ [];
        keeps = happened parts mirrored (lives.Admit p) x y there [] [] (a.0, a.1, drop (x.admitted + 1) order, drop_at order x.admitted a is, ap node_of next ∙ ap (λ (h : Site). node_of (record x { scheduler = admitted h x.scheduler a.0 a.1; admitted = x.admitted + 1 })) (sited parts mirrored p x there), refl, refl);
        numbered = renumbered parts mirrored p x y there (ap (λ z. z.here) next) (ap (λ z. z.scheduler.opened_from) next ∙ admitted_from x.here x.scheduler a.0 a.1);
      }

  abbrev Gives : List (Part Args Row) → Step → Outcome Row Reply → Type 0
  Gives new e out = Mirrored new × IsSerialAt m count order e (Ok out)

  begin_mirrored : (parts : List (Part Args Row)) (p : ℕ) (q : Place) (mirrored : Mirrored parts) (x y : Part Args Row) → slice_get parts p ≡ Some x → (out : Outcome Row Reply)
      → begin_at q x ≡ Does y out → Gives (slice_set parts p y) (the.Begin p q) out
  begin_mirrored parts p q mirrored x y there out e =
      let here = x.here in
      let called = calling_does x (λ (s : Serving Args Row). Served s.rows) (begin here q x.scheduler) y out e in
      let begun = begin_does here q x.scheduler called.scheduler called.given called.does in
      let j = begun_turn here x.scheduler.store.map begun.0.turn in
      let has : get called.scheduler.turns q ≡ Some j = ap (λ (z : Scheduling Args Row). get z.turns q) begun.0.now ∙ insert_here place_cmp place_total place_exact x.scheduler.turns q j in
      let read : lives.Reads Row = record { place = q; from = here.partition; rows = j.served } in
      let keeps = happened parts mirrored (lives.Begin p q) x y there (read ∷ []) [] (called.scheduler, j, subst (λ h. Begins h x.scheduler q called.scheduler) (sited parts mirrored p x there) begun.0, has, begun_not_waiting here x.scheduler.store.map begun.0.turn, ap node_of called.next, refl, refl) in
      let due = keeps.reads (length mirrored.reads) read (last_of mirrored.reads read) in
      let told : out ≡ Served j.served = called.told ∙ ap (λ (s : Serving Args Row). Served s.rows) begun.1 in (
        record { reads = mirrored.reads ++ read ∷ []; replies = mirrored.replies ++ []; keeps = keeps; numbered = renumbered parts mirrored p x y there (ap (λ z. z.here) called.next) (ap (λ z. z.scheduler.opened_from) called.next ∙ ap (λ (z : Scheduling Args Row). z.opened_from) begun.0.now) },
        subst (λ o. IsSerialAt m count order (the.Begin p q) (Ok o)) (sym told)
            (subst (λ (h : Site). IsSerialAt m count order (the.Begin h.partition q) (Ok (Served j.served))) (mirrored.numbered p x there).0 due),
      )

  finish_mirrored : (parts : List (Part Args Row)) (p : ℕ) (q : Place) (mirrored : Mirrored parts) (x y : Part Args Row) → slice_get parts p ≡ Some x → (out : Outcome Row Reply)
      → finish_at m q x ≡ Does y out → Gives (slice_set parts p y) (the.Finish p q) out
  finish_mirrored parts p q mirrored x y there out e =
      let here = x.here in
      let called = calling_does x (λ (e : Txn Args × Answer Reply). Answered e.1) (finish m here q x.scheduler) y out e in
      let done = finish_does here q x.scheduler m called.scheduler called.given called.does in
      let reply : lives.Given Reply = record { by = p; place = q; answer = called.given.1 } in
      let keeps = happened parts mirrored (lives.Finish p q) x y there [] (reply ∷ []) (called.scheduler, called.given.1, subst (λ h. Finishes m h x.scheduler q called.given.1 called.scheduler) (sited parts mirrored p x there) done.0, ap node_of called.next, refl, refl) in
      let right = (holds_from m count empty law _ keeps).replies (length mirrored.replies) reply (last_of mirrored.replies reply) in (
        record { reads = mirrored.reads ++ []; replies = mirrored.replies ++ reply ∷ []; keeps = keeps; numbered = renumbered parts mirrored p x y there (ap (λ z. z.here) called.next) (ap (λ z. z.scheduler.opened_from) called.next ∙ ap (λ (z : Scheduling Args Row). z.opened_from) done.0.now) },
        subst (λ o. IsSerialAt m count order (the.Finish p q) (Ok o)) (sym called.told) right,
      )

  -- the rows that a partition served are asked of it again
  served_mirrored : (parts : List (Part Args Row)) (from : ℕ) (q : Place) (mirrored : Mirrored parts) (z : Part Args Row) → slice_get parts from ≡ Some z → (o : Option (Turn Args Row)) → turn_at z.scheduler q ≡ o
      → (rows : Rows Row) → served_at o ≡ Ok rows → WorldKeeps m count empty law (world parts (mirrored.reads ++ record { place = q; from = from; rows = rows } ∷ []) (mirrored.replies ++ []))
  served_mirrored parts from q mirrored z there None is rows e = absurd (cc)
  served_mirrored parts from q mirrored z there (Some x) is rows e =
      let began = served_begun x rows e in
      let keeps = happened parts mirrored (lives.AskReads from q) z z there (record { place = q; from = z.here.partition; rows = x.served } ∷ []) [] (x, is, began.0, refl, refl, refl) in
      let shown = subst (λ ps. WorldKeeps m count empty law (world ps (mirrored.reads ++ record { place = q; from = z.here.partition; rows = x.served } ∷ []) (mirrored.replies ++ []))) (set_same parts from z there) keeps in
      subst (λ (r : lives.Reads Row). WorldKeeps m count empty law (world parts (mirrored.reads ++ r ∷ []) (mirrored.replies ++ [])))
      (λ i. record { place = q; from = ((mirrored.numbered from z there).0 i).partition; rows = sym began.1 i }) shown

  rows_mirrored : (parts : List (Part Args Row)) (p from : ℕ) (q : Place) (mirrored : Mirrored parts) (x y : Part Args Row) → slice_get parts p ≡ Some x → (out : Outcome Row Reply)
      → (z : Part Args Row) → slice_get parts from ≡ Some z → (r : Result (Rows Row) Fault) → served_at (turn_at z.scheduler q) ≡ r → receive from q r x ≡ Does y out → Mirrored (slice_set parts p y)
  rows_mirrored parts p from q mirrored x y there out z is (Err f) served e = absurd (refuses_not e)
  rows_mirrored parts p from q mirrored x y there out z is (Ok rows) served e =
      let called = calling_does x (λ _. Received) (on_reads x.here q from rows x.scheduler) y out e in
      let read : lives.Reads Row = record { place = q; from = from; rows = rows } in
      let asked : Mirrored parts = record { reads = mirrored.reads ++ read ∷ []; replies = mirrored.replies ++ []; keeps = served_mirrored parts from q mirrored z is (turn_at z.scheduler q) refl rows served; numbered = mirrored.numbered } in
      let received = on_reads_does x.here q x.scheduler from rows called.scheduler called.given called.does in record {
        reads = asked.reads ++ [];
        replies = asked.replies ++ [];
        keeps = happened parts asked (lives.Deliver p (length mirrored.reads)) x y there [] [] (called.scheduler, read, last_of mirrored.reads read, subst (λ h. Receives h x.scheduler q from rows called.scheduler) (sited parts asked p x there) received, ap node_of called.next, refl, refl);
        numbered = renumbered parts mirrored p x y there (ap (λ z. z.here) called.next) (ap (λ z. z.scheduler.opened_from) called.next ∙ ap (λ (z : Scheduling Args Row). z.opened_from) received.now);
      }

  reads_mirrored : (parts : List (Part Args Row)) (p from : ℕ) (q : Place) (mirrored : Mirrored parts) (x y : Part Args Row) → slice_get parts p ≡ Some x → (out : Outcome Row Reply)
      → (o : Option (Part Args Row)) → slice_get parts from ≡ o → receive_from from q o x ≡ Does y out → Mirrored (slice_set parts p y)
  reads_mirrored parts p from q mirrored x y there out None is e = absurd (refuses_not e)
  reads_mirrored parts p from q mirrored x y there out (Some z) is e = rows_mirrored parts p from q mirrored x y there out z is (served_at (turn_at z.scheduler q)) refl e

  step_mirrored : (parts : List (Part Args Row)) (e : Step) (new : List (Part Args Row)) (out : Outcome Row Reply) → Mirrored parts → step m order parts e ≡ Does new out → Gives new e out
  step_mirrored parts (the.Admit p) new out mirrored e =
      let at = at_does parts p (λ x. admit_next x (slice_get order x.admitted)) new out (slice_get parts p) refl e in
      (subst Mirrored (sym at.now) (admit_mirrored parts p mirrored at.old at.next at.there (slice_get order at.old.admitted) refl out at.does), tt)
  step_mirrored parts (the.Begin p q) new out mirrored e =
      let at = at_does parts p (begin_at q) new out (slice_get parts p) refl e in
      subst (λ ps. Gives ps (the.Begin p q) out) (sym at.now) (begin_mirrored parts p q mirrored at.old at.next at.there out at.does)
  step_mirrored parts (the.Reads p from q) new out mirrored e =
      let at = at_does parts p (receive_from from q (slice_get parts from)) new out (slice_get parts p) refl e in
      (subst Mirrored (sym at.now) (reads_mirrored parts p from q mirrored at.old at.next at.there out (slice_get parts from) refl at.does), tt)
  step_mirrored parts (the.Finish p q) new out mirrored e =
      let at = at_does parts p (finish_at m q) new out (slice_get parts p) refl e in
      subst (λ ps. Gives ps (the.Finish p q) out) (sym at.now) (finish_mirrored parts p q mirrored at.old at.next at.there out at.does)

  refused_serial : (e : Step) (f : Fault) → IsSerialAt m count order e (Err f)
  refused_serial (the.Admit p) f = tt
  refused_serial (the.Begin p q) f = tt
  refused_serial (the.Reads p from q) f = tt
  refused_serial (the.Finish p q) f = tt

  -- a step that ran
  one_ran : (grows : Bool) (parts : List (Part Args Row)) (e : Step) (outcome : Result (Outcome Row Reply) Fault) (new : List (Part Args Row)) → Mirrored parts
      → (d : Deed (List (Part Args Row)) (Outcome Row Reply)) → step m order parts e ≡ d → Did grows outcome d parts new → Mirrored new × IsSerialAt m count order e outcome
  one_ran grows parts e (Ok out) new mirrored (Refuses f) is did = absurd did
  one_ran grows parts e (Ok out) new mirrored (Does next given) is did = step_mirrored parts e new out mirrored (is ∙ (λ i. Does (sym did.1 i) (sym did.0 i)))
  one_ran grows parts e (Err f) new mirrored (Refuses g) is did = (subst Mirrored (sym did.1) mirrored, refused_serial e f)
  one_ran grows parts e (Err f) new mirrored (Does next given) is did = (subst Mirrored (sym did.2) mirrored, refused_serial e f)

  pub ran_mirrored : (parts : List (Part Args Row)) (steps : List Step) (outcomes : List (Result (Outcome Row Reply) Fault)) (new : List (Part Args Row)) → Mirrored parts → Ran m order parts steps outcomes new
      → Mirrored new × ((i : ℕ) (e : Step) (outcome : Result (Outcome Row Reply) Fault) → slice_get steps i ≡ Some e → slice_get outcomes i ≡ Some outcome → IsSerialAt m count order e outcome)
  ran_mirrored parts [] outcomes new mirrored ran = (subst Mirrored (sym ran.1) mirrored, λ i e outcome at. absurd (cc))
  ran_mirrored parts (e ∷ steps) outcomes new mirrored (outcome, rest, mid, is, did, ran) =
      let first = one_ran _ parts e outcome mid mirrored (step m order parts e) refl did in
      let later = ran_mirrored mid steps rest new first.0 ran in
      (later.0, each first.1 later.1)
    where
      each : IsSerialAt m count order e outcome → ((i : ℕ) (e : Step) (outcome : Result (Outcome Row Reply) Fault) → slice_get steps i ≡ Some e → slice_get rest i ≡ Some outcome → IsSerialAt m count order e outcome)
          → (i : ℕ) (d : Step) (o : Result (Outcome Row Reply) Fault) → slice_get (e ∷ steps) i ≡ Some d → slice_get outcomes i ≡ Some o → IsSerialAt m count order d o
      each first later zero d o at told =
          let same : e ≡ d = cc in
          let head : ◌≡◌ {A = Option (Result (Outcome Row Reply) Fault)} (Some outcome) (Some o) = sym (ap (λ xs. slice_get xs 0) is) ∙ told in
          let given : outcome ≡ o = cc in
          subst (λ d. IsSerialAt m count order d o) same (subst (IsSerialAt m count order e) given first)
      each first later (suc i) d o at told = later i d o at (sym (ap (λ xs. slice_get xs (suc i)) is) ∙ told)
