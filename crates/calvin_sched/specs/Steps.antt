-- What each call makes of a scheduler's data: a refusal, or the data after it and what it answers. Refusals are looked at in
-- the order of the tests (Thomson et al. 2012, section 3.2: locks, and the phases of a request).
use Rattle.std.specs.Prelude.{ℕ, ◌==◌, Bool, false, ◌&&◌, ◌||◌, not, if◌then◌else◌, List, ◌++◌, Option, Some, None, Result, Ok, Err}
use Rattle.std.specs.List.{list_any}
use Rattle.std.specs.FinMap.{len, insert, retain_keys, FinMap}
use Rattle.calvin_types.specs.declared.fault.Fault.{Fault}
use Rattle.calvin_types.specs.declared.fault.Fault.TheVariants as fault
use Rattle.calvin_types.specs.declared.key_set.Sets.{Sets}
use Rattle.calvin_types.specs.declared.place.Place.{Place}
use Rattle.calvin_types.specs.declared.txn.Txn.{Txn}
use Rattle.calvin_types.specs.Deeds.{Deed, Refuses, Does}
use Rattle.calvin_types.specs.Keys.{has}
use Rattle.calvin_types.specs.Places.{place_cmp}
use Rattle.calvin_types.specs.Participants.{Site, is_local, local_keys, has_local_key, is_active}
use Rattle.calvin_app.specs.declared.answer.Answer.{Answer}
use Rattle.calvin_app.specs.declared.job.Job.{Job}
use Rattle.calvin_app.specs.Meaning.{Meaning}
use Rattle.calvin_app.specs.Rows.{Rows, view}
use Rattle.calvin_app.specs.Stores.{put_at}
use Rattle.calvin_app.specs.Serial.{answer_on, writes_on}
use Rattle.calvin_sched.specs.declared.phase.Phase.{Phase}
use Rattle.calvin_sched.specs.declared.phase.Phase.TheVariants.{Waiting, Begun, Done}
use Rattle.calvin_sched.specs.Scheduling.{Turn, Scheduling, is_before, is_past, is_finished, whole_view, is_collected, awaits, new_turn, turn_at, with_turn, other_active, local_writes}

-- whether one writes a key stored here that the other reads or writes
abbrev pub conflict_at : Site → Sets → Sets → Bool
conflict_at here g h =
    list_any (λ k. is_local here k && has (h.reads ++ h.writes) k) g.writes
    || list_any (λ k. is_local here k && has h.writes k) (g.reads ++ g.writes)

-- what a request that begins answers: the rows that it read here, for the other partitions that run it
pub record Serving (Args Row : Type 0) : Type 0 where
  pub request : Txn Args
  pub rows : Rows Row
  pub others : List ℕ

-- what comes out isn't asked for
abbrev pub silently : {S Out : Type 0} → Deed S Out → Deed S (Unit {0})
silently (Refuses f) = Refuses f
silently (Does s out) = Does s tt

module _ {Args Row : Type 0} where
  -- whether what stands at a place is unreleased and conflicts with the request t
  abbrev pub blocks : Site → Option (Turn Args Row) → Txn Args → Bool
  blocks here None t = false
  blocks here (Some x) t = not (is_finished x.phase) && conflict_at here x.request.sets t.sets

  -- whether no earlier unreleased request conflicts with the request t at the place q
  abbrev pub is_ready : Site → Scheduling Args Row → Place → Txn Args → Bool
  is_ready here s q t = len (retain_keys s.turns (λ n. is_before n q && blocks here (turn_at s n) t)) == 0

  -- ---- admit

  -- a place is after the last one, and not before the opening one
  abbrev pub is_next : Scheduling Args Row → Place → Bool
  is_next s q = is_past s.last q && not (is_before q s.opened_from)

  -- a request waits for its locks; one with no key here is passed over
  abbrev pub admitted : Site → Scheduling Args Row → Place → Txn Args → Scheduling Args Row
  admitted here s q t = record (if has_local_key here t then with_turn s q (new_turn t) else s) { last = Some q }

  -- a request is admitted in the order
  abbrev pub admit : Site → Place → Txn Args → Scheduling Args Row → Deed (Scheduling Args Row) (Unit {0})
  admit here q t s = if is_next s q then Does (admitted here s q t) tt else Refuses fault.AdmittedOutOfOrder

  -- it is admitted, and neither refused nor passed over: its place is the next one, and a key is stored here
  abbrev pub takes : Site → Scheduling Args Row → Place → Txn Args → Bool
  takes here s q t = is_next s q && has_local_key here t

  -- ---- begin

  -- a request has read what is stored here; where it is passive it is done, as others run it
  abbrev pub begun_turn : Site → Rows Row → Turn Args Row → Turn Args Row
  begun_turn here rows x = record x { phase = if is_active here x.request then Begun else Done; served = view rows (local_keys here x.request.sets.reads) }

  abbrev pub serving : Site → Turn Args Row → Serving Args Row
  serving here x = record { request = x.request; rows = x.served; others = other_active here x.request }

  abbrev pub begin_by : Site → Place → Scheduling Args Row → Turn Args Row → Phase → Deed (Scheduling Args Row) (Serving Args Row)
  begin_by here q s x Waiting =
      if is_ready here s q x.request
      then Does (with_turn s q (begun_turn here s.store.map x)) (serving here (begun_turn here s.store.map x))
      else Refuses fault.NotReady
  begin_by here q s x Begun = Refuses fault.Begun
  begin_by here q s x Done = Refuses fault.Begun

  abbrev pub begin_at : Site → Place → Scheduling Args Row → Option (Turn Args Row) → Deed (Scheduling Args Row) (Serving Args Row)
  begin_at here q s None = Refuses fault.NotReady
  begin_at here q s (Some x) = begin_by here q s x x.phase

  -- the request at a place has its locks, and reads
  abbrev pub begin : Site → Place → Scheduling Args Row → Deed (Scheduling Args Row) (Serving Args Row)
  begin here q s = begin_at here q s (turn_at s q)

  -- ---- rows of other partitions

  abbrev pub with_rows : ℕ → Rows Row → Turn Args Row → Turn Args Row
  with_rows from rows x = record x { came = insert x.came from rows }

  abbrev pub on_reads_at : Site → Place → ℕ → Rows Row → Scheduling Args Row → Option (Turn Args Row) → Deed (Scheduling Args Row) (Unit {0})
  on_reads_at here q from rows s None = Refuses fault.NotAwaited
  on_reads_at here q from rows s (Some x) = if awaits here x from then Does (with_turn s q (with_rows from rows x)) tt else Refuses fault.NotAwaited

  -- rows come from another partition
  abbrev pub on_reads : Site → Place → ℕ → Rows Row → Scheduling Args Row → Deed (Scheduling Args Row) (Unit {0})
  on_reads here q from rows s = on_reads_at here q from rows s (turn_at s q)

  -- ---- what is run

  abbrev pub job_by : Site → Place → Turn Args Row → Phase → Result (Job Args Row) Fault
  job_by here q x Waiting = Err fault.NotReady
  job_by here q x Begun = if is_collected here x then Ok (record { place = q; txn = x.request; view = whole_view here x }) else Err fault.ReadsMissing
  job_by here q x Done = Err fault.NotReady

  abbrev pub job_at : Site → Place → Option (Turn Args Row) → Result (Job Args Row) Fault
  job_at here q None = Err fault.NotReady
  job_at here q (Some x) = job_by here q x x.phase

  -- what is to be run at a place, once all rows have come
  abbrev pub job : Site → Place → Scheduling Args Row → Result (Job Args Row) Fault
  job here q s = job_at here q (turn_at s q)

  -- the rows that were read here since the last restart
  abbrev pub served_by : Turn Args Row → Phase → Result (Rows Row) Fault
  served_by x Waiting = Err fault.NotServed
  served_by x Begun = Ok x.served
  served_by x Done = Ok x.served

  -- those of what stands at a place
  abbrev pub served_at : Option (Turn Args Row) → Result (Rows Row) Fault
  served_at None = Err fault.NotServed
  served_at (Some x) = served_by x x.phase

  -- ---- the writes

  -- what stands at a place is done
  abbrev pub ended : Option (Turn Args Row) → FinMap {K = Place} place_cmp (Turn Args Row) → Place → FinMap {K = Place} place_cmp (Turn Args Row)
  ended None turns q = turns
  ended (Some x) turns q = insert turns q (record x { phase = Done })

module _ {Args Row Reply : Type 0} (m : Meaning Args Row Reply) where
  -- what is stored here of what the job writes is put into the rows, and its place is done
  abbrev pub after_job : Site → Job Args Row → Scheduling Args Row → Scheduling Args Row
  after_job here j s = record s { turns = ended (turn_at s j.place) s.turns j.place; store = put_at j.place (local_writes here (writes_on m j.txn j.view)) s.store }

  -- what a finished request answers: the request, and the reply to it
  abbrev pub Ended : Type 0
  Ended = Txn Args × Answer Reply

  abbrev pub finish_with : Site → Scheduling Args Row → Result (Job Args Row) Fault → Deed (Scheduling Args Row) Ended
  finish_with here s (Err f) = Refuses f
  finish_with here s (Ok j) = Does (after_job here j s) (j.txn, answer_on m j.txn j.view)

  -- the request at a place is run on its whole view, and writes, in one step
  abbrev pub finish : Site → Place → Scheduling Args Row → Deed (Scheduling Args Row) Ended
  finish here q s = finish_with here s (job here q s)
