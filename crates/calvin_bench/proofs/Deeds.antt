-- The steps of a scheduler, from functions to relations: each step that takes effect is one of the theorem's.
--     does_is, refuses_not      what a deed is, where it takes effect
--     admit_does, begin_does, on_reads_does, finish_does      each call that takes effect, as a relation
--     ready_of, collected_of      the tests, as what they say
--     served_begun      what is served again was served by a request that began
use Rattle.std.proofs.Common.{◌≡◌, ◌≢◌, ℕ, Bool, true, false, cond, ◌&&◌, ◌||◌, not, inl, inr, List, [], ◌∷◌, Option, Some, None, Result, Ok, Err, refl, sym, ap, ◌∙◌}
use Rattle.std.proofs.lemmas.Bool.{false≢true, or_cases, and_parts}
use Rattle.std.specs.Prelude.{◌==◌, is_some}
use Rattle.std.specs.List.{list_any, list_all}
use Rattle.std.specs.Ordering.{eq_by_cmp}
use Rattle.std.specs.FinMap.{get}
use Rattle.calvin_types.specs.declared.fault.Fault.{Fault}
use Rattle.calvin_types.specs.declared.key.Key.{Key}
use Rattle.calvin_types.specs.declared.place.Place.{Place}
use Rattle.calvin_types.specs.declared.txn.Txn.{Txn}
use Rattle.calvin_types.specs.Deeds.{Refuses, Does}
use Rattle.calvin_types.specs.Keys.{has, key_cmp, partition_of}
use Rattle.calvin_types.specs.Participants.{Site, is_local, is_active}
use Rattle.calvin_app.specs.declared.answer.Answer.{Answer}
use Rattle.calvin_app.specs.Meaning.{Meaning}
use Rattle.calvin_app.specs.Rows.{Rows}
use Rattle.calvin_app.specs.Stores.{put_at}
use Rattle.calvin_app.specs.Serial.{answer_on, writes_on}
use Rattle.calvin_sched.specs.declared.phase.Phase.{Phase}
use Rattle.calvin_sched.specs.declared.phase.Phase.TheVariants.{Waiting, Begun, Done}
use Rattle.calvin_app.specs.declared.job.Job.{Job}
use Rattle.calvin_sched.specs.Scheduling.{Turn, Scheduling, is_before, is_past, is_finished, turn_at, with_turn, whole_view, is_collected, awaits, local_writes}
use Rattle.calvin_sched.specs.Steps.{Serving, is_ready, admitted, admit, begun_turn, serving, begin_by, begin_at, begin, with_rows, on_reads_at, on_reads, job_by, job_at, job, served_by, served_at, ended, after_job, finish_with, finish}
use Rattle.calvin_sched.specs.Standing.{unreleased_at, unreleased_by}
use Rattle.calvin_sched.proofs.Readiness.{ready_is_ready}
use Rattle.calvin_bench.specs.Turns.{HasTurn, IsReady, IsCollected, Begins, Receives, Finishes}
use Rattle.calvin_bench.proofs.KeyRows.{same_key}

module _ {S Out : Type 0} where
  pub refuses_not : {fault : Fault} {next : S} {out : Out} → Refuses fault ≡ Does next out → ⊥
  refuses_not e = cc

  pub does_is : {a next : S} {b out : Out} → Does a b ≡ Does next out → (next ≡ a) × (out ≡ b)
  does_is e = (cc, cc)

-- what passes for all of a list passes for each
all_pass : (p : Key → Bool) (ks : List Key) (k : Key) → list_all p ks ≡ true → has ks k ≡ true → p k ≡ true
all_pass p [] k all h = absurd (false≢true h)
all_pass p (x ∷ ks) k all h =
    let both = and_parts (p x) (list_all p ks) all in
    elim (or_cases (eq_by_cmp key_cmp k x) (has ks k) h) [
      | inl same ↦ ap p (same_key k x same) ∙ both.0
      | inr there ↦ all_pass p ks k both.1 there
    ]

module _ {Args Row : Type 0} (here : Site) (q : Place) (s : Scheduling Args Row) where
  -- ---- tests

  pub ready_of : (t : Txn Args) → is_ready here s q t ≡ true → IsReady here s q t
  ready_of t ready n x has running before c = ((ready_is_ready here s q t).0 ready) n x.request.sets (ap unreleased_at has ∙ free x.phase refl) before c
    where
      free : (f : Phase) → x.phase ≡ f → unreleased_by x.request.sets x.phase ≡ Some x.request.sets
      free Waiting e = ap (unreleased_by x.request.sets) e
      free Begun e = ap (unreleased_by x.request.sets) e
      free Done e = absurd (running e)

  pub collected_of : (x : Turn Args Row) → is_collected here x ≡ true → IsCollected here x
  collected_of x all k h other none = go (all_pass (λ k. is_local here k || is_some (get x.came (partition_of here.partitions k))) x.request.sets.reads k all h)
    where
      go : (is_local here k || is_some (get x.came (partition_of here.partitions k))) ≡ true → ⊥
      go p = false≢true (sym (λ i. other i || is_some (none i)) ∙ p)

  -- ---- admit

  pub admit_does : (t : Txn Args) (next : Scheduling Args Row) (out : Unit {0}) → admit here q t s ≡ Does next out → next ≡ admitted here s q t
  admit_does t next out e = go (is_past s.last q && not (is_before q s.opened_from)) e
    where
      go : (b : Bool) → cond b (Does (admitted here s q t) tt) (Refuses Rattle.calvin_types.specs.declared.fault.Fault.TheVariants.AdmittedOutOfOrder) ≡ Does next out → next ≡ admitted here s q t
      go true e = (does_is e).0
      go false e = absurd (refuses_not e)

  -- ---- begin

  pub begin_does : (next : Scheduling Args Row) (out : Serving Args Row) → begin here q s ≡ Does next out → (b : Begins here s q next) × (out ≡ serving here (begun_turn here s.store.map b.turn))
  begin_does next out e = by_turn (turn_at s q) refl e
    where
      at_turn : (x : Turn Args Row) → turn_at s q ≡ Some x → (f : Phase) → x.phase ≡ f → begin_by here q s x f ≡ Does next out → (b : Begins here s q next) × (out ≡ serving here (begun_turn here s.store.map b.turn))
      at_turn x is Waiting waits e = by_ready (is_ready here s q x.request) refl e
        where
          by_ready : (b : Bool) → is_ready here s q x.request ≡ b → cond b (Does (with_turn s q (begun_turn here s.store.map x)) (serving here (begun_turn here s.store.map x))) (Refuses Rattle.calvin_types.specs.declared.fault.Fault.TheVariants.NotReady) ≡ Does next out
              → (b : Begins here s q next) × (out ≡ serving here (begun_turn here s.store.map b.turn))
          by_ready true r e = let both = does_is e in (record { turn = x; has_turn = is; waits = waits; ready = ready_of x.request r; now = both.0 }, both.1)
          by_ready false r e = absurd (refuses_not e)
      at_turn x is Begun waits e = absurd (refuses_not e)
      at_turn x is Done waits e = absurd (refuses_not e)

      by_turn : (o : Option (Turn Args Row)) → turn_at s q ≡ o → begin_at here q s o ≡ Does next out → (b : Begins here s q next) × (out ≡ serving here (begun_turn here s.store.map b.turn))
      by_turn None is e = absurd (refuses_not e)
      by_turn (Some x) is e = at_turn x is x.phase refl e

  -- ---- rows of other partitions

  awaited : (x : Turn Args Row) (from : ℕ) → awaits here x from ≡ true → (x.phase ≢ Done) × (is_active here x.request ≡ true)
  awaited x from h =
      let reads = list_any (λ k. partition_of here.partitions k == from) x.request.sets.reads in
      let nf = not (is_finished x.phase) in
      let elsewhere = not (from == here.partition) in
      let missing = not (is_some (get x.came from)) in
      let four = and_parts (((nf && is_active here x.request) && elsewhere) && reads) missing h in
      let three = and_parts ((nf && is_active here x.request) && elsewhere) reads four.0 in
      let two = and_parts (nf && is_active here x.request) elsewhere three.0 in
      let one = and_parts nf (is_active here x.request) two.0 in
      (λ d. false≢true (ap (λ f. not (is_finished f)) (sym d) ∙ one.0), one.1)

  pub on_reads_does : (from : ℕ) (rows : Rows Row) (next : Scheduling Args Row) (out : Unit {0}) → on_reads here q from rows s ≡ Does next out → Receives here s q from rows next
  on_reads_does from rows next out e = by_turn (turn_at s q) refl e
    where
      by_turn : (o : Option (Turn Args Row)) → turn_at s q ≡ o → on_reads_at here q from rows s o ≡ Does next out → Receives here s q from rows next
      by_turn None is e = absurd (refuses_not e)
      by_turn (Some x) is e = by_test (awaits here x from) refl e
        where
          by_test : (b : Bool) → awaits here x from ≡ b → cond b (Does (with_turn s q (with_rows from rows x)) tt) (Refuses Rattle.calvin_types.specs.declared.fault.Fault.TheVariants.NotAwaited) ≡ Does next out → Receives here s q from rows next
          by_test true h e = let known = awaited x from h in record { turn = x; has_turn = is; not_done = known.0; active = known.1; now = (does_is e).0 }
          by_test false h e = absurd (refuses_not e)

  -- ---- what is run

  pub record JobIs (x : Turn Args Row) (j : Job Args Row) : Type 0 where
    pub has_turn : HasTurn s q x
    pub begun : x.phase ≡ Begun
    pub collected : IsCollected here x
    pub is : j ≡ record { place = q; txn = x.request; view = whole_view here x }

  ok_is : {a b : Job Args Row} → ◌≡◌ {A = Result (Job Args Row) Fault} (Ok a) (Ok b) → b ≡ a
  ok_is e = cc

  err_not : {f : Fault} {j : Job Args Row} → ◌≡◌ {A = Result (Job Args Row) Fault} (Err f) (Ok j) → ⊥
  err_not e = cc

  pub job_is : (j : Job Args Row) → job here q s ≡ Ok j → (x : Turn Args Row) × JobIs x j
  job_is j e = by_turn (turn_at s q) refl e
    where
      at_turn : (x : Turn Args Row) → turn_at s q ≡ Some x → (f : Phase) → x.phase ≡ f → job_by here q x f ≡ Ok j → (x : Turn Args Row) × JobIs x j
      at_turn x is Waiting begun e = absurd (err_not e)
      at_turn x is Begun begun e = by_test (is_collected here x) refl e
        where
          by_test : (b : Bool) → is_collected here x ≡ b → cond b (Ok (record { place = q; txn = x.request; view = whole_view here x })) (Err Rattle.calvin_types.specs.declared.fault.Fault.TheVariants.ReadsMissing) ≡ Ok j → (x : Turn Args Row) × JobIs x j
          by_test true all e = (x, record { has_turn = is; begun = begun; collected = collected_of x all; is = ok_is e })
          by_test false all e = absurd (err_not e)
      at_turn x is Done begun e = absurd (err_not e)

      by_turn : (o : Option (Turn Args Row)) → turn_at s q ≡ o → job_at here q o ≡ Ok j → (x : Turn Args Row) × JobIs x j
      by_turn None is e = absurd (err_not e)
      by_turn (Some x) is e = at_turn x is x.phase refl e

  module _ {Reply : Type 0} (m : Meaning Args Row Reply) where
    pub finish_does : (next : Scheduling Args Row) (out : Txn Args × Answer Reply) → finish m here q s ≡ Does next out → (b : Finishes m here s q out.1 next) × (out.0 ≡ b.turn.request)
    finish_does next out e = by_job (job here q s) refl e
      where
        by_job : (r : Result (Job Args Row) Fault) → job here q s ≡ r → finish_with m here s r ≡ Does next out → (b : Finishes m here s q out.1 next) × (out.0 ≡ b.turn.request)
        by_job (Err f) is e = absurd (refuses_not e)
        by_job (Ok j) is e =
            let found = job_is j is in
            let x = found.0 in
            let known = found.1 in
            let both = does_is e in
            let answers : out.1 ≡ answer_on m j.txn j.view = ap (λ (o : Txn Args × Answer Reply). o.1) both.1 in
            let asked : out.0 ≡ j.txn = ap (λ (o : Txn Args × Answer Reply). o.0) both.1 in (
              record {
                turn = x;
                has_turn = known.has_turn;
                begun = known.begun;
                collected = known.collected;
                answers = answers ∙ ap (λ (j : Job Args Row). answer_on m j.txn j.view) known.is;
                now = both.0 ∙ ap (λ (j : Job Args Row). after_job m here j s) known.is
                    ∙ ap (λ (o : Option (Turn Args Row)). record s { turns = ended o s.turns q; store = put_at q (local_writes here (writes_on m x.request (whole_view here x))) s.store }) known.has_turn;
              },
              asked ∙ ap (λ (j : Job Args Row). j.txn) known.is,
            )

-- what is served again was served by a request that began
pub served_begun : {Args Row : Type 0} (x : Turn Args Row) (rows : Rows Row) → served_at (Some x) ≡ Ok rows → (x.phase ≢ Waiting) × (rows ≡ x.served)
served_begun {Args} {Row} x rows e = go x.phase refl e
  where
    go : (f : Phase) → x.phase ≡ f → served_by x f ≡ Ok rows → (x.phase ≢ Waiting) × (rows ≡ x.served)
    go Waiting is e = absurd (cc)
    go Begun is e = (λ w. let both = sym w ∙ is in cc, cc)
    go Done is e = (λ w. let both = sym w ∙ is in cc, cc)
