-- The worked list of steps, from the definitions alone.
use Rattle.std.proofs.Common.{◌≡◌, ℕ, Bool, true, false, cond, ◌&&◌, ◌||◌, inl, inr, ◌⊎◌, List, [], ◌∷◌, Option, Some, None, Result, Ok, Err, refl, sym, ap, subst, ◌∙◌}
use Rattle.std.specs.Prelude.{nat_le}
use Rattle.std.specs.FinMap.{empty, get, insert, get-empty}
use Rattle.std.proofs.lemmas.Option.{none-some}
use Rattle.calvin_types.specs.declared.fault.Fault.TheVariants as fault
use Rattle.calvin_types.specs.declared.place.Place.{Place}
use Rattle.calvin_types.specs.declared.txn.Txn.{Txn}
use Rattle.calvin_types.specs.Deeds.{Refuses, Does, Did}
use Rattle.calvin_types.specs.Participants.{Site, site}
use Rattle.calvin_types.specs.Places.{place_cmp}
use Rattle.calvin_types.proofs.PlaceOrder.{place_total, place_exact}
use Rattle.calvin_types.proofs.ExactMaps.{insert_here}
use Rattle.calvin_app.specs.declared.answer.Answer.{Answer}
use Rattle.calvin_app.specs.declared.job.Job.{Job}
use Rattle.calvin_app.specs.Meaning.{Meaning}
use Rattle.calvin_app.specs.Rows.{view}
use Rattle.calvin_app.specs.Serial.{answer_on}
use Rattle.calvin_order.specs.Merged.{end_of}
use Rattle.calvin_order.proofs.Places.{before_end, is_lt_false}
use Rattle.calvin_sched.specs.declared.phase.Phase.TheVariants.{Done}
use Rattle.calvin_sched.specs.Scheduling.{Scheduling, Turn, opened, new_turn, turn_at, turn_done, with_turn, is_before, is_done}
use Rattle.calvin_sched.specs.Steps as steps
use Rattle.calvin_sched.specs.Standing.{stands, none_done_from}
use Rattle.calvin_sched.proofs.Readiness.{none_kept, both_true}
use Rattle.calvin_bench.specs.Steps.{Part, put_part, calling, grows}
use Rattle.calvin_bench.specs.Worked.{worked_place, worked_request, worked_order, Stood}
use Rattle.calvin_bench.specs.declared.step.Step.TheVariants.{Finish}
use Rattle.calvin_bench.specs.declared.step.Outcome.{Outcome}
use Rattle.calvin_bench.specs.declared.step.Outcome.TheVariants.{Admitted, Served, Answered}
use Rattle.calvin_bench.proofs.Insertions.{insert_cases}

module _ {Args Row Reply : Type 0} (m : Meaning Args Row Reply) (args : Args) where
  abbrev here : Site
  here = site 1 0

  abbrev q : Place
  q = worked_place

  abbrev t : Txn Args
  t = worked_request args

  -- ---- it waits, has begun, is done

  abbrev waiting : Turn Args Row
  waiting = new_turn t

  abbrev admitted : Scheduling Args Row
  admitted = record (with_turn (opened (end_of 0) empty) q waiting) { last = Some q }

  abbrev begun : Turn Args Row
  begun = steps.begun_turn here admitted.store.map waiting

  abbrev started : Scheduling Args Row
  started = with_turn admitted q begun

  abbrev task : Job Args Row
  task = record { place = q; txn = t; view = empty }

  abbrev ended : Scheduling Args Row
  ended = steps.after_job m here task started

  abbrev part_with : Scheduling Args Row → List (Part Args Row)
  part_with s = record { here = here; scheduler = s; admitted = 1 } ∷ []

  waits : turn_at admitted q ≡ Some waiting
  waits = insert_here place_cmp place_total place_exact empty q waiting

  none_before : (n : Place) → is_before n q ≡ false
  none_before n = is_lt_false (place_cmp n q) (λ h. let less = before_end n 0 h in absurd (omega (Rattle.std.proofs.Common.arith, less)))

  ready : steps.is_ready here admitted q t ≡ true
  ready = none_kept admitted.turns (λ n. is_before n q && steps.blocks here (turn_at admitted n) t) (λ n x h. ap (λ b. b && steps.blocks here (turn_at admitted n) t) (none_before n))

  begins : steps.begin here q admitted ≡ Does started (steps.serving here begun)
  begins = ap (steps.begin_at here q admitted) waits ∙ ap (λ b. cond b (Does started (steps.serving here begun)) (Refuses fault.NotReady)) ready

  runs : turn_at started q ≡ Some begun
  runs = insert_here place_cmp place_total place_exact admitted.turns q begun

  due : steps.job here q started ≡ Ok task
  due = ap (steps.job_at here q) runs

  finishes : steps.finish m here q started ≡ Does ended (t, answer_on m t empty)
  finishes = ap (steps.finish_with m here started) due

  -- ---- and then the partition stands

  abbrev done : Turn Args Row
  done = record begun { phase = Done }

  turns_are : ended.turns ≡ insert started.turns q done
  turns_are = ap (λ o. steps.ended o started.turns q) runs

  is_ended : is_done ended q ≡ true
  is_ended = ap (λ ts. turn_done (get ts q)) turns_are ∙ ap turn_done (insert_here place_cmp place_total place_exact started.turns q done)

  only_there : (n : Place) (x : Turn Args Row) → get ended.turns n ≡ Some x → n ≡ q
  only_there n x h = third (insert_cases place_total place_exact started.turns q done n)
    where
      first : (n ≡ q) ⊎ (get admitted.turns n ≡ get (opened {Args = Args} {Row = Row} (end_of 0) empty).turns n) → get admitted.turns n ≡ Some x → n ≡ q
      first (inl same) h = same
      first (inr other) h = absurd (none-some x (sym (get-empty place_cmp n) ∙ sym other ∙ h))

      second : (n ≡ q) ⊎ (get started.turns n ≡ get admitted.turns n) → get started.turns n ≡ Some x → n ≡ q
      second (inl same) h = same
      second (inr other) h = first (insert_cases place_total place_exact (opened {Args = Args} {Row = Row} (end_of 0) empty).turns q waiting n) (sym other ∙ h)

      third : (n ≡ q) ⊎ (get (insert started.turns q done) n ≡ get started.turns n) → n ≡ q
      third (inl same) = same
      third (inr other) = second (insert_cases place_total place_exact admitted.turns q begun n) (sym other ∙ ap (λ ts. get ts n) (sym turns_are) ∙ h)

  none_later : none_done_from ended 1 ≡ true
  none_later = none_kept ended.turns (λ n. nat_le 1 n.epoch && is_done ended n) (λ n x h. ap (λ n. nat_le 1 n.epoch && is_done ended n) (only_there n x h))

  standing : stands ended 1 (q ∷ []) 1 ≡ true
  standing = both_true (is_done ended q && true) (none_done_from ended 1) (both_true (is_done ended q) true is_ended refl) none_later

  pub stood : Stood m args
  stood = record {
    new = part_with ended;
    ran = (
      Ok Admitted,
      _,
      part_with admitted,
      refl,
      (refl, refl),
      (
        Ok (Served (view empty [])),
        _,
        part_with started,
        refl,
        subst (λ d. Did {Out = Outcome Row Reply} false (Ok (Served (view empty []))) (put_part (part_with admitted) 0 (calling (record { here = here; scheduler = admitted; admitted = 1 }) (λ (s : steps.Serving Args Row). Served s.rows) d)) (part_with admitted) (part_with started)) (sym begins) (refl, refl),
        (
          Ok (Answered (answer_on m t empty)),
          _,
          part_with ended,
          refl,
          subst (λ d. Did {Out = Outcome Row Reply} (grows m (worked_order args) (part_with started) (Finish 0 q)) (Ok (Answered (answer_on m t empty)))
              (put_part (part_with started) 0 (calling (record { here = here; scheduler = started; admitted = 1 }) (λ (e : Txn Args × Answer Reply). Answered e.1) d)) (part_with started) (part_with ended)) (sym finishes) (refl, refl),
          (refl, refl),
        ),
      ),
    );
    stands = ap (λ b. Ok (cond b (Some 0) None)) standing;
  }
