-- Every replica as it is made, as it does a step, and as it has done a list of steps.
use Rattle.std.proofs.Common.{◌≡◌, ℕ, zero, suc, ◌+◌, ◌<◌, ◌≤◌, Bool, true, false, cond, inl, inr, List, [], ◌∷◌, ◌++◌, length, map, get_or, take, drop, Option, Some, Result, Ok, refl, sym, ap, subst, ◌∙◌, arith}
use Rattle.std.specs.Prelude.{slice_get}
use Rattle.std.specs.List.{range_with_len}
use Rattle.std.specs.FinMap.{empty}
use Rattle.std.proofs.Math.Seq.{take-append_seam}
use Rattle.std.proofs.lemmas.List.{take_more, take_all}
use Rattle.std.proofs.lemmas.List.FromFn.{map-range_with_len_more}
use Rattle.calvin_types.specs.declared.fault.Fault.{Fault}
use Rattle.calvin_types.specs.declared.place.Place.{Place}
use Rattle.calvin_types.specs.Deeds.{Did}
use Rattle.calvin_types.specs.Orders.{Order, Rises}
use Rattle.calvin_types.specs.Participants.{site}
use Rattle.calvin_app.specs.Meaning.{Meaning, WritesWithin}
use Rattle.calvin_app.specs.Rows.{part}
use Rattle.calvin_app.specs.Serial.{rows_before}
use Rattle.calvin_order.specs.Merged.{end_of}
use Rattle.calvin_sched.specs.Progress.{left}
use Rattle.calvin_sched.specs.Standing.{local_places, stands, stands_at, greatest_below}
use Rattle.calvin_sched.specs.Scheduling.{Scheduling}
use Rattle.calvin_bench.specs.Steps.{Part, first_part, first_parts, step, grows, Ran, RunsSerially}
use Rattle.calvin_bench.specs.Replicas.{Replica, Seat, part_of, replica_of, epochs_of, stands_in, IsTold, AllTellAlike, IsReplica, IsBeginning}
use Rattle.calvin_bench.specs.declared.step.Step.{Step}
use Rattle.calvin_bench.specs.declared.step.Outcome.{Outcome}
use Rattle.calvin_bench.proofs.Lists.{get_map, get_split, get_only}
use Rattle.calvin_bench.proofs.OneOrder.{runs_from, reached_mirrored}
use Rattle.calvin_bench.proofs.ReachedReplicas.{ran_on, ran_through, stays_replica}

greatest_passes : (passes : ℕ → Bool) (n e : ℕ) → greatest_below passes n ≡ Some e → passes e ≡ true
greatest_passes passes zero e is = absurd (cc)
greatest_passes passes (suc n) e is = go (passes n) refl is (greatest_passes passes n e)
  where
    go : (b : Bool) → passes n ≡ b → cond b (Some n) (greatest_below passes n) ≡ Some e → (greatest_below passes n ≡ Some e → passes e ≡ true) → passes e ≡ true
    go true here is rest = let same : n ≡ e = cc in ap passes (sym same) ∙ here
    go false here is rest = rest is

module _ {Args Row : Type 0} where
  -- ---- as it is made

  pub one_more_made : (count n : ℕ) (made : Seat Args Row) (now after : List (Seat Args Row)) → map part_of now ≡ map (first_part count) (range_with_len 0 n) → part_of made ≡ first_part count n → after ≡ now ++ made ∷ []
      → map part_of after ≡ map (first_part count) (range_with_len 0 (n + 1))
  one_more_made count n made now after so_far new pushed = ap (map part_of) pushed ∙ joined now ∙ (λ i. so_far i ++ new i ∷ []) ∙ sym (map-range_with_len_more (first_part count) 0 n n (omega arith))
    where
      joined : (xs : List (Seat Args Row)) → map part_of (xs ++ made ∷ []) ≡ map part_of xs ++ part_of made ∷ []
      joined [] = refl
      joined (x ∷ xs) = ap (λ ps. part_of x ∷ ps) (joined xs)

  pub one_more_told : (order : Order Args) (made : Seat Args Row) (now after : List (Seat Args Row)) → ((i : ℕ) (x : Seat Args Row) → slice_get now i ≡ Some x → IsTold order x) → IsTold order made → after ≡ now ++ made ∷ []
      → (i : ℕ) (x : Seat Args Row) → slice_get after i ≡ Some x → IsTold order x
  one_more_told order made now after each new pushed i x there = elim (get_split now (made ∷ []) i x (ap (λ xs. slice_get xs i) (sym pushed) ∙ there)) [
    | inl old ↦ each old.0 x old.1
    | inr last ↦ subst (IsTold order) (get_only made last.0 x last.1) new
  ]

module _ {Args Row Reply : Type 0} (m : Meaning Args Row Reply) (count : ℕ) (order : Order Args) where
  pub made_replica : Rises order → (seats : List (Seat Args Row)) → map part_of seats ≡ first_parts count → ((i : ℕ) (x : Seat Args Row) → slice_get seats i ≡ Some x → IsTold order x) → IsReplica m count order seats
  made_replica rises seats first told = record { rises = rises; reached = record { steps = []; outcomes = []; ran = (refl, first) }; told = told }

  -- ---- as it does a step: a list that was lent as a slice is whole again

  whole_again : (len : ℕ) (items seen new : List (Seat Args Row)) → length seen ≡ len → length new ≡ length seen → take len (new ++ drop (length new) items) ≡ new
  whole_again len items seen new counted same = subst (λ n. take n (new ++ drop (length new) items) ≡ new) (same ∙ counted) (take-append_seam new (drop (length new) items))

  module _ (len : ℕ) (items seen new : List (Seat Args Row)) (counted : length seen ≡ len) (value : seen ≡ items) (same : length new ≡ length seen) (e : Step) (outcome : Result (Outcome Row Reply) Fault)
      (did : Did (grows m order (map part_of seen) e) outcome (step m order (map part_of seen) e) (map part_of seen) (map part_of new)) where
    pub stays_again : WritesWithin m → IsReplica m count order items → AllTellAlike seen new → IsReplica m count order (take len (new ++ drop (length new) items))
    stays_again law is alike = subst (IsReplica m count order) (sym (whole_again len items seen new counted same)) (stays_replica m count law order seen new (subst (IsReplica m count order) (sym value) is) e outcome did alike)

    pub did_again : (w : Replica Args Row) → replica_of count order items ≡ w → (now : Step) → now ≡ e → Did (grows m w.order w.parts now) outcome (step m w.order w.parts now) w.parts (map part_of (take len (new ++ drop (length new) items)))
    did_again w view now is =
        subst (λ ps. Did (grows m w.order w.parts now) outcome (step m w.order w.parts now) w.parts (map part_of ps)) (sym (whole_again len items seen new counted same))
        (subst (λ (y : Replica Args Row × Step). Did (grows m y.0.order y.0.parts y.1) outcome (step m y.0.order y.0.parts y.1) y.0.parts (map part_of new)) (λ k. ((ap (replica_of count order) value ∙ view) k, sym is k)) did)

    pub same_again : (w : Replica Args Row) → replica_of count order items ≡ w → (after : List (Seat Args Row)) → replica_of count order after ≡ record w { parts = map part_of after }
    same_again w view after = ap (λ (v : Replica Args Row). record v { parts = map part_of after }) view

-- ---- as it has done a list of steps

module _ {Args Row Reply : Type 0} (m : Meaning Args Row Reply) where
  -- one step more
  pub led_on : (order now : Order Args) (parts mid new : List (Part Args Row)) (steps : List Step) (i : ℕ) (d : Step) (outcomes all : List (Result (Outcome Row Reply) Fault)) (outcome : Result (Outcome Row Reply) Fault)
      → i < length steps → now ≡ order → Ran m order parts (take i steps) outcomes mid → Did (grows m now mid (get_or steps i d)) outcome (step m now mid (get_or steps i d)) mid new → all ≡ outcomes ++ outcome ∷ [] → Ran m order parts (take (i + 1) steps) all new
  led_on order now parts mid new steps i d outcomes all outcome less same ran did pushed =
      subst (λ (y : List Step × List (Result (Outcome Row Reply) Fault)). Ran m order parts y.0 y.1 new) (λ k. (sym (take_more steps i d less) k, sym pushed k))
      (ran_on m order parts (take i steps) outcomes mid (get_or steps i d) outcome new ran (subst (λ es. Did (grows m es mid (get_or steps i d)) outcome (step m es mid (get_or steps i d)) mid new) same did))

  pub led_all : (order : Order Args) (parts new : List (Part Args Row)) (steps : List Step) (i : ℕ) (outcomes : List (Result (Outcome Row Reply) Fault)) → length steps ≤ i → Ran m order parts (take i steps) outcomes new → Ran m order parts steps outcomes new
  led_all order parts new steps i outcomes past ran = subst (λ es. Ran m order parts es outcomes new) (take_all i steps past) ran

  module _ (law : WritesWithin m) (count : ℕ) (order : Order Args) (seats : List (Seat Args Row)) (is : IsReplica m count order seats) where
    runs_here : (steps : List Step) (outcomes : List (Result (Outcome Row Reply) Fault)) (new : List (Part Args Row)) → Ran m order (map part_of seats) steps outcomes new → RunsSerially m count order steps outcomes new
    runs_here steps outcomes new ran = runs_from m count law order is.rises (map part_of seats) (reached_mirrored m count law order is.rises (map part_of seats) is.reached) steps outcomes new ran

    begins_here : (early late : List Step) (outcomes : List (Result (Outcome Row Reply) Fault)) (new : List (Part Args Row)) → Ran m order (map part_of seats) (early ++ late) outcomes new → IsBeginning m count order (map part_of seats) early late outcomes new
    begins_here early late outcomes new ran =
        let on = ran_through m order (map part_of seats) early late outcomes new ran in
        record { then = on.0; first = on.1; rest = on.2; outcomes_are = on.3; ran = on.4; ran_on = on.5; serially = runs_here early on.1 on.0 on.4 }

    pub runs_again : (w : Replica Args Row) → replica_of count order seats ≡ w → (steps : List Step) (i : ℕ) (outcomes : List (Result (Outcome Row Reply) Fault)) (new : List (Part Args Row)) → length steps ≤ i → Ran m w.order w.parts (take i steps) outcomes new
        → RunsSerially m w.count w.order steps outcomes new
    runs_again w view steps i outcomes new past ran =
        subst (λ (v : Replica Args Row). Ran m v.order v.parts steps outcomes new → RunsSerially m v.count v.order steps outcomes new) view (runs_here steps outcomes new) (led_all w.order w.parts new steps i outcomes past ran)

    pub begins_again : (w : Replica Args Row) → replica_of count order seats ≡ w → (steps : List Step) (i : ℕ) (outcomes : List (Result (Outcome Row Reply) Fault)) (new : List (Part Args Row)) → length steps ≤ i → Ran m w.order w.parts (take i steps) outcomes new
        → (early late : List Step) → steps ≡ early ++ late → IsBeginning m w.count w.order w.parts early late outcomes new
    begins_again w view steps i outcomes new past ran early late split =
        subst (λ (v : Replica Args Row). Ran m v.order v.parts (early ++ late) outcomes new → IsBeginning m v.count v.order v.parts early late outcomes new) view (begins_here early late outcomes new)
        (subst (λ es. Ran m w.order w.parts es outcomes new) split (led_all w.order w.parts new steps i outcomes past ran))

    -- ---- a partition of it

    module _ (w : Replica Args Row) (view : replica_of count order seats ≡ w) (p : ℕ) (x : Seat Args Row) (there : slice_get seats p ≡ Some x) where
      pub part_there : slice_get w.parts p ≡ Some (part_of x)
      part_there = ap (λ (v : Replica Args Row). slice_get v.parts p) (sym view) ∙ get_map part_of seats p x there

      -- a place that is done doesn't matter for where a partition stands
      abbrev DueIs : Type 0
      DueIs = (s : Scheduling Args Row) (merged : ℕ) (due : List Place) → stands_at s merged (left s due) ≡ stands_at s merged due

      stands_here : DueIs → stands_at x.scheduler.scheduling x.scheduler.merged x.scheduler.due ≡ stands_at x.scheduler.scheduling (epochs_of order) (local_places x.scheduler.here order)
      stands_here due_is =
          let s = x.scheduler.scheduling in
          let told = is.told p x there in
          sym (due_is s x.scheduler.merged x.scheduler.due) ∙ ap (stands_at s x.scheduler.merged) told.due ∙ due_is s x.scheduler.merged (local_places x.scheduler.here order)
          ∙ ap (λ n. stands_at s n (local_places x.scheduler.here order)) told.merged

      pub stands_again : DueIs → (r : Option ℕ) → r ≡ stands_at x.scheduler.scheduling x.scheduler.merged x.scheduler.due → Ok r ≡ stands_in w.order (slice_get w.parts p)
      stands_again due_is r e = ap Ok (e ∙ stands_here due_is) ∙ subst (λ (v : Replica Args Row). Ok (stands_at x.scheduler.scheduling (epochs_of order) (local_places x.scheduler.here order)) ≡ stands_in v.order (slice_get v.parts p)) view
          (ap (stands_in order) (sym (get_map part_of seats p x there)))

      serial_here : (epoch : ℕ) → stands_at x.scheduler.scheduling (epochs_of order) (local_places x.scheduler.here order) ≡ Some epoch → x.scheduler.scheduling.store.map ≡ part count p (rows_before m order empty (end_of (suc epoch)))
      serial_here epoch e =
          let mirrored = reached_mirrored m count law order is.rises (map part_of seats) is.reached in
          let there2 = get_map part_of seats p x there in
          let here : x.scheduler.here ≡ site count p = (mirrored.numbered p (part_of x) there2).0 in
          let standing = greatest_passes (λ e. stands x.scheduler.scheduling (epochs_of order) (local_places x.scheduler.here order) (suc e)) (epochs_of order) epoch e in
          (runs_here [] [] (map part_of seats) (refl, refl)).rows p (part_of x) (epochs_of order) (suc epoch) there2 (ap (λ h. stands x.scheduler.scheduling (epochs_of order) (local_places h order) (suc epoch)) (sym here) ∙ standing)

      pub serial_again : DueIs → (r : Option ℕ) → r ≡ stands_at x.scheduler.scheduling x.scheduler.merged x.scheduler.due → (y : Part Args Row) (epoch : ℕ) → slice_get w.parts p ≡ Some y → ◌≡◌ {A = Result (Option ℕ) Fault} (Ok r) (Ok (Some epoch))
          → y.scheduler.store.map ≡ part w.count p (rows_before m w.order empty (end_of (suc epoch)))
      serial_again due_is r e y epoch at told =
          let same : r ≡ Some epoch = cc in
          let both : Some (part_of x) ≡ Some y = sym part_there ∙ at in
          let one : part_of x ≡ y = cc in
          ap (λ (z : Part Args Row). z.scheduler.store.map) (sym one) ∙ serial_here epoch (sym (stands_here due_is) ∙ sym e ∙ same)
          ∙ ap (λ (v : Replica Args Row). part v.count p (rows_before m v.order empty (end_of (suc epoch)))) view
