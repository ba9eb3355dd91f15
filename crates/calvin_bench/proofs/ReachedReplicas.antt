-- What holds of every replica: each step leads on, and the theorem holds after each list of steps.
use Rattle.std.proofs.Common.{◌≡◌, ℕ, ◌+◌, Bool, true, false, cond, ◌||◌, ◌⊎◌, inl, inr, List, [], ◌∷◌, ◌++◌, map, Option, Some, None, Result, Ok, Err, refl, sym, ap, subst, ◌∙◌}
use Rattle.std.specs.Prelude.{slice_get, slice_set}
use Rattle.std.specs.FinMap.{FinMap, get, insert}
use Rattle.std.proofs.lemmas.Bool.{false≢true, or_cases, or_right}
use Rattle.calvin_types.specs.declared.fault.Fault.{Fault}
use Rattle.calvin_types.specs.declared.place.Place.{Place}
use Rattle.calvin_types.specs.declared.txn.Txn.{Txn}
use Rattle.calvin_types.specs.Deeds.{Deed, Refuses, Does, Did}
use Rattle.calvin_types.specs.Orders.{Order, StandsAt}
use Rattle.calvin_types.specs.Participants.{Site, has_local_key}
use Rattle.calvin_types.specs.Places.{place_cmp}
use Rattle.calvin_types.proofs.PlaceOrder.{place_total, place_exact, not_before_itself}
use Rattle.calvin_types.proofs.ExactMaps.{insert_here}
use Rattle.calvin_types.proofs.Fews.{drop_at}
use Rattle.calvin_app.specs.Meaning.{Meaning, WritesWithin}
use Rattle.calvin_sched.specs.declared.phase.Phase.TheVariants.{Done}
use Rattle.calvin_sched.specs.Scheduling.{Scheduling, Turn, is_before, is_done, is_finished, turn_at, turn_done, new_turn, with_turn}
use Rattle.calvin_sched.specs.Progress.{left}
use Rattle.calvin_sched.specs.Standing.{local_places}
use Rattle.calvin_sched.specs.Steps.{Serving, admit, admitted, begin, begun_turn, on_reads, served_at, with_rows, finish}
use Rattle.calvin_app.specs.Rows.{Rows}
use Rattle.calvin_app.specs.declared.answer.Answer.{Answer}
use Rattle.calvin_bench.specs.Steps.{Part, admit_next, begin_at, receive, receive_from, finish_at, step, grows, first_parts, Ran}
use Rattle.calvin_bench.specs.declared.step.Step.{Step}
use Rattle.calvin_bench.specs.declared.step.Step.TheVariants as the
use Rattle.calvin_bench.specs.declared.step.Outcome.{Outcome}
use Rattle.calvin_bench.specs.declared.step.Outcome.TheVariants.{Admitted, Served, Received, Answered}
use Rattle.calvin_bench.proofs.Deeds.{refuses_not, admit_does, begin_does, on_reads_does, finish_does}
use Rattle.calvin_bench.proofs.Insertions.{insert_cases}
use Rattle.calvin_bench.proofs.Lists.{get_map, set_each}
use Rattle.calvin_bench.specs.Replicas.{Seat, part_of, IsTold, AllTellAlike, IsReached, IsReplica}
use Rattle.calvin_bench.proofs.OneOrder.{reached_mirrored}
use Rattle.calvin_bench.proofs.Seats.{left_later}
use Rattle.calvin_bench.proofs.Mirrored.{Mirrored, node_of, at_does, calling_does}

module _ {Args Row : Type 0} where
  -- what is done stays done where a turn is put that is done if the one before it was
  stays_done : (s : Scheduling Args Row) (q : Place) (y : Turn Args Row) (turns : FinMap {K = Place} place_cmp (Turn Args Row)) → turns ≡ insert s.turns q y → (turn_done (turn_at s q) ≡ true → is_finished y.phase ≡ true)
      → (n : Place) → is_done s n ≡ true → (is_before n s.opened_from || turn_done (get turns n)) ≡ true
  stays_done s q y turns put stays n done = elim (or_cases (is_before n s.opened_from) (turn_done (turn_at s n)) done) [
    | inl early ↦ ap (λ b. b || turn_done (get turns n)) early
    | inr ended ↦ or_right (is_before n s.opened_from) (turn_done (get turns n)) (ap (λ ts. turn_done (get ts n)) put ∙ go ended (insert_cases place_total place_exact s.turns q y n))
  ]
    where
      go : turn_done (turn_at s n) ≡ true → (n ≡ q) ⊎ (get (insert s.turns q y) n ≡ get s.turns n) → turn_done (get (insert s.turns q y) n) ≡ true
      go ended (inr other) = ap turn_done other ∙ ended
      go ended (inl same) = ap (λ p. turn_done (get (insert s.turns q y) p)) same ∙ ap turn_done (insert_here place_cmp place_total place_exact s.turns q y) ∙ stays (ap (λ p. turn_done (turn_at s p)) (sym same) ∙ ended)

  pub admitted_done : (here : Site) (s : Scheduling Args Row) (q : Place) (t : Txn Args) → (turn_done (turn_at s q) ≡ true → ⊥) → (n : Place) → is_done s n ≡ true → is_done (admitted here s q t) n ≡ true
  admitted_done here s q t fresh n done = go (has_local_key here t)
    where
      go : (b : Bool) → is_done (record (cond b (with_turn s q (new_turn t)) s) { last = Some q }) n ≡ true
      go true = stays_done s q (new_turn t) (insert s.turns q (new_turn t)) refl (λ h. absurd (fresh h)) n done
      go false = done

  -- each call leaves what is done
  abbrev pub StaysDone : Scheduling Args Row → Scheduling Args Row → Type 0
  StaysDone old new = (n : Place) → is_done old n ≡ true → is_done new n ≡ true

  pub begun_done : (here : Site) (s : Scheduling Args Row) (q : Place) (next : Scheduling Args Row) (out : Serving Args Row) → begin here q s ≡ Does next out → StaysDone s next
  begun_done here s q next out e n done =
      let b = (begin_does here q s next out e).0 in
      subst (λ (x : Scheduling Args Row). is_done x n ≡ true) (sym b.now)
      (stays_done s q (begun_turn here s.store.map b.turn) _ refl (λ h. let late = sym (ap turn_done b.has_turn ∙ ap is_finished b.waits) ∙ h in absurd (false≢true late)) n done)

  pub received_done : (here : Site) (s : Scheduling Args Row) (q : Place) (from : ℕ) (rows : Rows Row) (next : Scheduling Args Row) (out : Unit {0}) → on_reads here q from rows s ≡ Does next out → StaysDone s next
  received_done here s q from rows next out e n done =
      let b = on_reads_does here q s from rows next out e in
      subst (λ (x : Scheduling Args Row). is_done x n ≡ true) (sym b.now) (stays_done s q (with_rows from rows b.turn) _ refl (λ h. sym (ap turn_done b.has_turn) ∙ h) n done)

  pub finished_done : {Reply : Type 0} (m : Meaning Args Row Reply) (here : Site) (s : Scheduling Args Row) (q : Place) (next : Scheduling Args Row) (out : Txn Args × Answer Reply) → finish m here q s ≡ Does next out → StaysDone s next
  finished_done m here s q next out e n done =
      let b = (finish_does here q s m next out e).0 in
      subst (λ (x : Scheduling Args Row). is_done x n ≡ true) (sym b.now) (stays_done s q (record b.turn { phase = Done }) _ refl (λ h. refl) n done)

module _ {Args Row Reply : Type 0} (m : Meaning Args Row Reply) (order : Order Args) where
  -- ---- lists of steps

  -- one step more
  pub ran_on : (parts : List (Part Args Row)) (steps : List Step) (outcomes : List (Result (Outcome Row Reply) Fault)) (mid : List (Part Args Row)) (e : Step) (outcome : Result (Outcome Row Reply) Fault) (new : List (Part Args Row))
      → Ran m order parts steps outcomes mid → Did (grows m order mid e) outcome (step m order mid e) mid new → Ran m order parts (steps ++ e ∷ []) (outcomes ++ outcome ∷ []) new
  ran_on parts [] outcomes mid e outcome new ran did =
      (outcome, [], new, ap (λ os. os ++ outcome ∷ []) ran.0, subst (λ ps. Did (grows m order ps e) outcome (step m order ps e) ps new) ran.1 did, (refl, refl))
  ran_on parts (a ∷ steps) outcomes mid e outcome new (first, rest, next, is, one, ran) did =
      (first, rest ++ outcome ∷ [], next, ap (λ os. os ++ outcome ∷ []) is, one, ran_on next steps rest mid e outcome new ran did)

  -- a beginning of the steps
  pub ran_through : (parts : List (Part Args Row)) (early late : List Step) (outcomes : List (Result (Outcome Row Reply) Fault)) (new : List (Part Args Row)) → Ran m order parts (early ++ late) outcomes new
      → (then : List (Part Args Row)) × (first : List (Result (Outcome Row Reply) Fault)) × (rest : List (Result (Outcome Row Reply) Fault)) × (outcomes ≡ first ++ rest) × Ran m order parts early first then × Ran m order then late rest new
  ran_through parts [] late outcomes new ran = (parts, [], outcomes, refl, (refl, refl), ran)
  ran_through parts (e ∷ early) late outcomes new (first, rest, next, is, one, ran) =
      let on = ran_through next early late rest new ran in
      (on.0, first ∷ on.1, on.2, is ∙ ap (λ os. first ∷ os) on.3, (first, on.1, next, refl, one, on.4), on.5)

module _ {Args Row Reply : Type 0} (m : Meaning Args Row Reply) (count : ℕ) (law : WritesWithin m) (order : Order Args) where
  -- ---- what is done stays done

  -- the next request of the order wasn't admitted
  not_admitted : (parts : List (Part Args Row)) → Mirrored m count law order parts → (p : ℕ) (x : Part Args Row) → slice_get parts p ≡ Some x → (a : Place × Txn Args) → slice_get order x.admitted ≡ Some a
      → turn_done (turn_at x.scheduler a.0) ≡ true → ⊥
  not_admitted parts mirrored p x there a at done = go (turn_at x.scheduler a.0) refl done
    where
      go : (o : Option (Turn Args Row)) → turn_at x.scheduler a.0 ≡ o → turn_done o ≡ true → ⊥
      go None is done = false≢true done
      go (Some j) is done =
          let keeps = (mirrored.keeps.nodes p (node_of m count law order x) (get_map (node_of m count law order) parts p x there)).keeps in
          not_before_itself a.0 (keeps.ahead a.0 j is a.0 a.1 (subst (λ es. StandsAt es a.0 a.1) (sym (drop_at order x.admitted a at)) (inl (refl, refl))))

  abbrev DoneLater : List (Part Args Row) → List (Part Args Row) → Type 0
  DoneLater old new = (i : ℕ) (y : Part Args Row) → slice_get new i ≡ Some y → (x : Part Args Row) → slice_get old i ≡ Some x → StaysDone x.scheduler y.scheduler

  same_part : (parts : List (Part Args Row)) (i : ℕ) (x y : Part Args Row) → slice_get parts i ≡ Some x → slice_get parts i ≡ Some y → x ≡ y
  same_part parts i x y h g = cc

  same_later : (parts : List (Part Args Row)) → DoneLater parts parts
  same_later parts i y there x h n done = subst (λ (z : Part Args Row). is_done z.scheduler n ≡ true) (same_part parts i x y h there) done

  one_later : (parts : List (Part Args Row)) (p : ℕ) (x y : Part Args Row) → slice_get parts p ≡ Some x → StaysDone x.scheduler y.scheduler → DoneLater parts (slice_set parts p y)
  one_later parts p x y there stays = set_each (λ i (z : Part Args Row). (w : Part Args Row) → slice_get parts i ≡ Some w → StaysDone w.scheduler z.scheduler) parts p y
      (λ w h n done. stays n (subst (λ (z : Part Args Row). is_done z.scheduler n ≡ true) (same_part parts p w x h there) done)) (same_later parts)

  admit_later : (parts : List (Part Args Row)) → Mirrored m count law order parts → (p : ℕ) (x y : Part Args Row) → slice_get parts p ≡ Some x → (o : Option (Place × Txn Args)) → slice_get order x.admitted ≡ o → (out : Outcome Row Reply)
      → admit_next x o ≡ Does y out → StaysDone x.scheduler y.scheduler
  admit_later parts mirrored p x y there None is out e n done = absurd (refuses_not e)
  admit_later parts mirrored p x y there (Some a) is out e n done =
      let called = calling_does (record x { admitted = x.admitted + 1 }) (λ _. Admitted) (admit x.here a.0 a.1 x.scheduler) y out e in
      let now = admit_does x.here a.0 x.scheduler a.1 called.scheduler called.given called.does in
      subst (λ (z : Scheduling Args Row). is_done z n ≡ true) (sym (ap (λ (z : Part Args Row). z.scheduler) called.next ∙ now)) (admitted_done x.here x.scheduler a.0 a.1 (not_admitted parts mirrored p x there a is) n done)

  receive_later : (from : ℕ) (q : Place) (r : Result (Rows Row) Fault) (x y : Part Args Row) (out : Outcome Row Reply) → receive from q r x ≡ Does y out → StaysDone x.scheduler y.scheduler
  receive_later from q (Err f) x y out e n done = absurd (refuses_not e)
  receive_later from q (Ok rows) x y out e n done =
      let called = calling_does x (λ _. Received) (on_reads x.here q from rows x.scheduler) y out e in
      subst (λ (z : Part Args Row). is_done z.scheduler n ≡ true) (sym called.next) (received_done x.here x.scheduler q from rows called.scheduler called.given called.does n done)

  received_later : (from : ℕ) (q : Place) (o : Option (Part Args Row)) (x y : Part Args Row) (out : Outcome Row Reply) → receive_from from q o x ≡ Does y out → StaysDone x.scheduler y.scheduler
  received_later from q None x y out e n done = absurd (refuses_not e)
  received_later from q (Some z) x y out e n done = receive_later from q (served_at (turn_at z.scheduler q)) x y out e n done

  step_later : (parts : List (Part Args Row)) → Mirrored m count law order parts → (e : Step) (new : List (Part Args Row)) (out : Outcome Row Reply) → step m order parts e ≡ Does new out → DoneLater parts new
  step_later parts mirrored (the.Admit p) new out e =
      let at = at_does parts p (λ x. admit_next x (slice_get order x.admitted)) new out (slice_get parts p) refl e in
      subst (DoneLater parts) (sym at.now) (one_later parts p at.old at.next at.there (admit_later parts mirrored p at.old at.next at.there (slice_get order at.old.admitted) refl out at.does))
  step_later parts mirrored (the.Begin p q) new out e =
      let at = at_does parts p (begin_at q) new out (slice_get parts p) refl e in
      let called = calling_does at.old (λ (s : Serving Args Row). Served s.rows) (begin at.old.here q at.old.scheduler) at.next out at.does in
      subst (DoneLater parts) (sym at.now) (one_later parts p at.old at.next at.there
      (λ n done. subst (λ (z : Part Args Row). is_done z.scheduler n ≡ true) (sym called.next) (begun_done at.old.here at.old.scheduler q called.scheduler called.given called.does n done)))
  step_later parts mirrored (the.Reads p from q) new out e =
      let at = at_does parts p (receive_from from q (slice_get parts from)) new out (slice_get parts p) refl e in
      subst (DoneLater parts) (sym at.now) (one_later parts p at.old at.next at.there (received_later from q (slice_get parts from) at.old at.next out at.does))
  step_later parts mirrored (the.Finish p q) new out e =
      let at = at_does parts p (finish_at m q) new out (slice_get parts p) refl e in
      let called = calling_does at.old (λ (e : Txn Args × Answer Reply). Answered e.1) (finish m at.old.here q at.old.scheduler) at.next out at.does in
      subst (DoneLater parts) (sym at.now) (one_later parts p at.old at.next at.there
      (λ n done. subst (λ (z : Part Args Row). is_done z.scheduler n ≡ true) (sym called.next) (finished_done m at.old.here at.old.scheduler q called.scheduler called.given called.does n done)))

  did_later : (grown : Bool) (parts : List (Part Args Row)) → Mirrored m count law order parts → (e : Step) (outcome : Result (Outcome Row Reply) Fault) (new : List (Part Args Row)) → (d : Deed (List (Part Args Row)) (Outcome Row Reply)) → step m order parts e ≡ d
      → Did grown outcome d parts new → DoneLater parts new
  did_later grown parts mirrored e (Ok out) new (Refuses f) is did = absurd did
  did_later grown parts mirrored e (Ok out) new (Does next given) is did = step_later parts mirrored e new out (is ∙ (λ i. Does (sym did.1 i) (sym did.0 i)))
  did_later grown parts mirrored e (Err f) new (Refuses g) is did = subst (DoneLater parts) (sym did.1) (same_later parts)
  did_later grown parts mirrored e (Err f) new (Does next given) is did = subst (DoneLater parts) (sym did.2) (same_later parts)

  -- ---- every replica

  pub reached_on : (parts : List (Part Args Row)) → IsReached m count order parts → (e : Step) (outcome : Result (Outcome Row Reply) Fault) (new : List (Part Args Row)) → Did (grows m order parts e) outcome (step m order parts e) parts new → IsReached m count order new
  reached_on parts reached e outcome new did = record {
    steps = reached.steps ++ e ∷ [];
    outcomes = reached.outcomes ++ outcome ∷ [];
    ran = ran_on m order (first_parts count) reached.steps reached.outcomes parts e outcome new reached.ran did;
  }

  -- a step leaves a replica
  pub stays_replica : (old new : List (Seat Args Row)) → IsReplica m count order old → (e : Step) (outcome : Result (Outcome Row Reply) Fault)
      → Did (grows m order (map part_of old) e) outcome (step m order (map part_of old) e) (map part_of old) (map part_of new) → AllTellAlike old new → IsReplica m count order new
  stays_replica old new is e outcome did alike = record { rises = is.rises; reached = reached; told = told }
    where
      reached : IsReached m count order (map part_of new)
      reached = reached_on (map part_of old) is.reached e outcome (map part_of new) did

      told : (i : ℕ) (y : Seat Args Row) → slice_get new i ≡ Some y → IsTold order y
      told i y there =
          let was = alike i y there in
          let x = was.0 in
          let before = reached_mirrored m count law order is.rises (map part_of old) is.reached in
          let after = reached_mirrored m count law order is.rises (map part_of new) reached in
          let stays = did_later (grows m order (map part_of old) e) (map part_of old) before e outcome (map part_of new) (step m order (map part_of old) e) refl did i (part_of y) (get_map part_of new i y there) (part_of x) (get_map part_of old i x was.1) in
          let here : x.scheduler.here ≡ y.scheduler.here = (before.numbered i (part_of x) (get_map part_of old i x was.1)).0 ∙ sym (after.numbered i (part_of y) (get_map part_of new i y there)).0 in
          let known = is.told i x was.1 in
          record {
            merged = was.2.merged ∙ known.merged;
            due = was.2.due ∙ sym (left_later x.scheduler.scheduling y.scheduler.scheduling stays x.scheduler.due) ∙ ap (left y.scheduler.scheduling) known.due
                ∙ left_later x.scheduler.scheduling y.scheduler.scheduling stays (local_places x.scheduler.here order) ∙ ap (λ h. left y.scheduler.scheduling (local_places h order)) here;
          }
