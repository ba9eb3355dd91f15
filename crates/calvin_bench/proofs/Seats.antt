-- What a call of a scheduler makes of its partition.
use Rattle.std.proofs.Common.{◌≡◌, ℕ, ◌+◌, ◌<◌, Bool, true, false, cond, ◌⊎◌, inl, inr, List, [], ◌∷◌, length, Some, Result, Ok, Err, refl, sym, ap, subst, ◌∙◌, arith}
use Rattle.std.specs.Prelude.{slice_get, not, nat_lt}
use Rattle.std.specs.List.{filter}
use Rattle.std.proofs.lemmas.Bool.{false≢true}
use Rattle.calvin_types.specs.declared.fault.Fault.{Fault}
use Rattle.calvin_types.specs.declared.fault.Fault.TheVariants as fault
use Rattle.calvin_types.specs.declared.place.Place.{Place}
use Rattle.calvin_types.specs.declared.txn.Txn.{Txn}
use Rattle.calvin_types.specs.Deeds.{Deed, Refuses, Does, Did}
use Rattle.calvin_types.specs.Orders.{Order}
use Rattle.calvin_types.specs.Participants.{has_local_key}
use Rattle.calvin_app.specs.declared.answer.Answer.{Answer}
use Rattle.calvin_app.specs.declared.job.Job.{Job}
use Rattle.calvin_app.specs.Meaning.{Meaning}
use Rattle.calvin_app.specs.Rows.{Rows}
use Rattle.calvin_app.specs.Serial.{writes_on}
use Rattle.calvin_sched.specs.Keeping.{Scheduled, IsNotDue, Finished}
use Rattle.calvin_sched.specs.Progress.{left}
use Rattle.calvin_sched.specs.Scheduling.{Scheduling, is_done, local_writes}
use Rattle.calvin_sched.specs.Steps.{Serving, admit, begin, job, finish_with}
use Rattle.calvin_bench.specs.Steps.{Part, calling, first_here, admit_next, begin_at, finish_at, writes_here}
use Rattle.calvin_bench.specs.Replicas.{Seat, part_of, TellsAlike}
use Rattle.calvin_bench.specs.declared.step.Outcome.{Outcome}
use Rattle.calvin_bench.specs.declared.step.Outcome.TheVariants.{Admitted, Served, Answered}
use Rattle.calvin_bench.proofs.Deeds.{job_is}

-- what passes one test passes another, so that the first one may be tested before it
pub filter_within : {X : Type 0} (p q : X → Bool) → ((x : X) → q x ≡ true → p x ≡ true) → (xs : List X) → filter q (filter p xs) ≡ filter q xs
filter_within p q sub [] = refl
filter_within {X} p q sub (x ∷ xs) = go (p x) refl (q x) refl (filter_within p q sub xs)
  where
    go : (b : Bool) → p x ≡ b → (c : Bool) → q x ≡ c → filter q (filter p xs) ≡ filter q xs → filter q (cond b (x ∷ filter p xs) (filter p xs)) ≡ cond c (x ∷ filter q xs) (filter q xs)
    go true e c f rest = ap (λ d. cond d (x ∷ filter q (filter p xs)) (filter q (filter p xs))) f ∙ ap (λ ys. cond c (x ∷ ys) ys) rest
    go false e true f rest = absurd (false≢true (sym e ∙ sub x f))
    go false e false f rest = rest

module _ {Args Row : Type 0} where
  pub left_twice : (s : Scheduling Args Row) (due : List Place) → left s (left s due) ≡ left s due
  left_twice s due = filter_within (λ q. not (is_done s q)) (λ q. not (is_done s q)) (λ q h. h) due

  -- what is done stays done
  pub left_later : (old new : Scheduling Args Row) → ((q : Place) → is_done old q ≡ true → is_done new q ≡ true) → (due : List Place) → left new (left old due) ≡ left new due
  left_later old new stays due = filter_within (λ q. not (is_done old q)) (λ q. not (is_done new q)) (λ q h. go q (is_done old q) refl h) due
    where
      go : (q : Place) (b : Bool) → is_done old q ≡ b → not (is_done new q) ≡ true → not b ≡ true
      go q true e h = absurd (false≢true (sym (ap not (stays q e)) ∙ h))
      go q false e h = refl

  -- of a place that is done nothing is due any more
  pub tells : (old new : Scheduled Args Row) (n k : ℕ) (x : Seat Args Row) → record { scheduler = old; admitted = n } ≡ x → new.merged ≡ old.merged → new.due ≡ left new.scheduling old.due → TellsAlike x (record { scheduler = new; admitted = k })
  tells old new n k x is merged due = subst (λ (y : Seat Args Row). TellsAlike y (record { scheduler = new; admitted = k })) is (record {
    merged = merged;
    due = ap (left new.scheduling) due ∙ left_twice new.scheduling old.due;
  })

module _ {Args Row Out : Type 0} where
  called_ok : {Given : Type 0} (grows : Bool) (given : Given) (tell : Given → Out) (old x : Part Args Row) (d : Deed (Scheduling Args Row) Given) (s : Scheduling Args Row) → Did grows (Ok given) d old.scheduler s → Did grows (Ok (tell given)) (calling x tell d) old (record x { scheduler = s })
  called_ok grows given tell old x (Refuses f) s did = absurd did
  called_ok grows given tell old x (Does next g) s did = (ap tell did.0, ap (λ s. record x { scheduler = s }) did.1)

  called_err : {Given : Type 0} (grows : Bool) (fault : Fault) (tell : Given → Out) (old x : Part Args Row) (d : Deed (Scheduling Args Row) Given) (s : Scheduling Args Row) → Did grows (Err fault) d old.scheduler s → Did grows (Err fault) (calling x tell d) old (record old { scheduler = s })
  called_err grows fault tell old x (Refuses f) s did = (did.0, ap (λ s. record old { scheduler = s }) did.1)
  called_err grows fault tell old x (Does next g) s did = (did.0, did.1, ap (λ s. record old { scheduler = s }) did.2)

module _ {Args Row : Type 0} (old new : Scheduled Args Row) (n : ℕ) (x : Seat Args Row) (is : record { scheduler = old; admitted = n } ≡ x) (here : new.here ≡ old.here) where
  -- the partition after the call
  placed : (k : ℕ) → record { here = old.here; scheduler = new.scheduling; admitted = k } ≡ part_of (record { scheduler = new; admitted = k })
  placed k = λ i. record { here = sym here i; scheduler = new.scheduling; admitted = k }

  module _ {Out : Type 0} where
    -- a call, which is told as one of the partition that the scheduler was in
    pub partition_did : (grows : Part Args Row → Bool) (deed : Part Args Row → Deed (Part Args Row) Out) (r : Result Out Fault) (k : ℕ)
        → (let before : Part Args Row = part_of (record { scheduler = old; admitted = n }) in Did (grows before) r (deed before) before (record { here = old.here; scheduler = new.scheduling; admitted = k }))
        → Did (grows (part_of x)) r (deed (part_of x)) (part_of x) (part_of (record { scheduler = new; admitted = k }))
    partition_did grows deed r k did =
        subst (λ (y : Seat Args Row). Did (grows (part_of y)) r (deed (part_of y)) (part_of y) (part_of (record { scheduler = new; admitted = k }))) is
        (subst (λ (y : Part Args Row). let before : Part Args Row = part_of (record { scheduler = old; admitted = n }) in Did (grows before) r (deed before) before y) (placed k) did)

  module _ (Reply : Type 0) where
    module _ (order : Order Args) (a : Place × Txn Args) (there : slice_get order n ≡ Some a) where
      next : (r : Result (Outcome Row Reply) Fault) (k : ℕ) → Did (first_here (part_of (record { scheduler = old; admitted = n })) (Some a)) r (admit_next (part_of (record { scheduler = old; admitted = n })) (Some a)) (part_of (record { scheduler = old; admitted = n })) (record { here = old.here; scheduler = new.scheduling; admitted = k })
          → Did (first_here (part_of x) (slice_get order x.admitted)) r (admit_next (part_of x) (slice_get order x.admitted)) (part_of x) (part_of (record { scheduler = new; admitted = k }))
      next r k did = partition_did (λ p. first_here p (slice_get order p.admitted)) (λ p. admit_next p (slice_get order p.admitted)) r k
          (subst (λ o. let p : Part Args Row = part_of (record { scheduler = old; admitted = n }) in Did (first_here p o) r (admit_next p o) p (record { here = old.here; scheduler = new.scheduling; admitted = k })) (sym there) did)

      pub admitted_ok : (out : Unit {0}) → Did (has_local_key old.here a.1) (Ok out) (admit old.here a.0 a.1 old.scheduling) old.scheduling new.scheduling
          → Did (first_here (part_of x) (slice_get order x.admitted)) (Ok Admitted) (admit_next {Reply = Reply} (part_of x) (slice_get order x.admitted)) (part_of x) (part_of (record { scheduler = new; admitted = n + 1 }))
      admitted_ok out did = next (Ok Admitted) (n + 1) (called_ok (has_local_key old.here a.1) out (λ _. Admitted) (part_of (record { scheduler = old; admitted = n })) (part_of (record { scheduler = old; admitted = n + 1 })) (admit old.here a.0 a.1 old.scheduling) new.scheduling did)

      pub admitted_err : (f : Fault) → Did (has_local_key old.here a.1) (Err f) (admit old.here a.0 a.1 old.scheduling) old.scheduling new.scheduling
          → Did (first_here (part_of x) (slice_get order x.admitted)) (Err f) (admit_next {Reply = Reply} (part_of x) (slice_get order x.admitted)) (part_of x) (part_of (record { scheduler = new; admitted = n }))
      admitted_err f did = next (Err f) n (called_err (has_local_key old.here a.1) f (λ _. Admitted) (part_of (record { scheduler = old; admitted = n })) (part_of (record { scheduler = old; admitted = n + 1 })) (admit old.here a.0 a.1 old.scheduling) new.scheduling did)

    pub begun_ok : (q : Place) (s : Serving Args Row) (rows : Rows Row) → s.rows ≡ rows → Did false (Ok s) (begin old.here q old.scheduling) old.scheduling new.scheduling
        → Did false (Ok (Served rows)) (begin_at {Reply = Reply} q (part_of x)) (part_of x) (part_of (record { scheduler = new; admitted = n }))
    begun_ok q s rows same did = subst (λ r. Did false (Ok (Served r)) (begin_at {Reply = Reply} q (part_of x)) (part_of x) (part_of (record { scheduler = new; admitted = n }))) same
        (partition_did (λ _. false) (begin_at q) (Ok (Served s.rows)) n
        (called_ok false s (λ (s : Serving Args Row). Served s.rows) (part_of (record { scheduler = old; admitted = n })) (part_of (record { scheduler = old; admitted = n })) (begin old.here q old.scheduling) new.scheduling did))

  module _ {Reply : Type 0} (m : Meaning Args Row Reply) (q : Place) (j : Job Args Row) (due : job old.here q old.scheduling ≡ Ok j) where
    ran_out : (room : ℕ) → room < length (local_writes old.here (writes_on m j.txn j.view)) → nat_lt 0 (length (local_writes old.here (writes_on m j.txn j.view))) ≡ true
    ran_out room h = grind arith

    place_is : j.place ≡ q
    place_is = ap (λ (k : Job Args Row). k.place) (job_is old.here q old.scheduling j due).1.is

    due_there : job old.here j.place old.scheduling ≡ Ok j
    due_there = ap (λ p. job old.here p old.scheduling) place_is ∙ due

    no_room : (room : ℕ) (c : Job Args Row) → c ≡ j → (f : Fault) → Finished m old.here room c (Err f) old.scheduling new.scheduling → (f ≡ fault.OutOfMemory) × (room < length (local_writes old.here (writes_on m j.txn j.view)))
    no_room room c is f h = go (subst (λ (k : Job Args Row). Finished m old.here room k (Err f) old.scheduling new.scheduling) is h).1
      where
        not_due : (r : Result (Job Args Row) Fault) → r ≡ Ok j → IsNotDue j r f → ⊥
        not_due (Err g) e h = cc
        not_due (Ok k) e h = h.1 (cc)

        go : (IsNotDue j (job old.here j.place old.scheduling) f ⊎ ((f ≡ fault.OutOfMemory) × (job old.here j.place old.scheduling ≡ Ok j) × (room < length (local_writes old.here (writes_on m j.txn j.view))))) → (f ≡ fault.OutOfMemory) × (room < length (local_writes old.here (writes_on m j.txn j.view)))
        go (inl h) = absurd (not_due (job old.here j.place old.scheduling) due_there h)
        go (inr h) = (h.0, h.2)

    pub finished_err : (room : ℕ) (c : Job Args Row) → c ≡ j → (f : Fault) → Finished m old.here room c (Err f) old.scheduling new.scheduling
        → Did (writes_here m (part_of x) (job x.scheduler.here q x.scheduler.scheduling)) (Err f) (finish_at m q (part_of x)) (part_of x) (part_of (record { scheduler = new; admitted = n }))
    finished_err room c same f h = partition_did (λ p. writes_here m p (job p.here q p.scheduler)) (finish_at m q) (Err f) n
        (subst (λ r. let p : Part Args Row = part_of (record { scheduler = old; admitted = n }) in
        Did {Out = Outcome Row Reply} (writes_here m p r) (Err f) (calling p (λ (e : Txn Args × Answer Reply). Answered e.1) (finish_with m old.here old.scheduling r)) p (record { here = old.here; scheduler = new.scheduling; admitted = n })) (sym due)
        (let wanting = no_room room c same f h in (ran_out room wanting.1, wanting.0, ap (λ (s : Scheduling Args Row). record { here = old.here; scheduler = s; admitted = n }) h.0)))
