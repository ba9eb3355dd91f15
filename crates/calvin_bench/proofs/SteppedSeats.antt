-- What a call at one partition makes of all of them.
use Rattle.std.proofs.Common.{◌≡◌, ℕ, ◌≤◌, Bool, true, false, List, length, map, Option, Some, None, Result, Ok, Err, refl, sym, ap, subst, ◌∙◌}
use Rattle.std.specs.Prelude.{if◌then◌else◌, slice_get, slice_set}
use Rattle.std.proofs.lemmas.List.{length-map}
use Rattle.std.proofs.lemmas.Option.{slice_get_past}
use Rattle.calvin_types.specs.declared.fault.Fault.{Fault}
use Rattle.calvin_types.specs.declared.fault.Fault.TheVariants as fault
use Rattle.calvin_types.specs.declared.place.Place.{Place}
use Rattle.calvin_types.specs.Deeds.{Deed, Refuses, Does, Did}
use Rattle.calvin_app.specs.Rows.{Rows}
use Rattle.calvin_sched.specs.Keeping.{awaits_at}
use Rattle.calvin_sched.specs.Scheduling.{Turn, turn_at, with_turn}
use Rattle.calvin_sched.specs.Steps.{served_at, on_reads_at, with_rows}
use Rattle.calvin_bench.specs.declared.step.Outcome.TheVariants.{Received}
use Rattle.calvin_bench.specs.Steps.{Part, put_part, at_part, tested_at, calling, receive, receive_from}
use Rattle.calvin_bench.specs.Replicas.{Seat, part_of, TellsAlike, AllTellAlike}
use Rattle.calvin_bench.proofs.Lists.{set_each, set_same, set_map, get_map}

module _ {Args Row : Type 0} where
  tells_itself : (x : Seat Args Row) → TellsAlike x x
  tells_itself x = record { merged = refl; due = refl }

  pub told_same : (seats : List (Seat Args Row)) → AllTellAlike seats seats
  told_same seats i y there = (y, there, tells_itself y)

  pub told_one : (seats : List (Seat Args Row)) (p : ℕ) (x y : Seat Args Row) → slice_get seats p ≡ Some x → TellsAlike x y → AllTellAlike seats (slice_set seats p y)
  told_one seats p x y there tells = set_each (λ i (z : Seat Args Row). (w : Seat Args Row) × (slice_get seats i ≡ Some w) × TellsAlike w z) seats p y (x, there, tells) (λ i z h. (z, h, tells_itself z))

module _ {Args Row : Type 0} (seats : List (Seat Args Row)) (p : ℕ) where
  abbrev parts : List (Part Args Row)
  parts = map part_of seats

  none_there : length seats ≤ p → slice_get parts p ≡ None
  none_there past = slice_get_past parts p (subst (λ n. n ≤ p) (sym (length-map seats part_of)) past)

  -- there is no such partition
  pub missing : {Out : Type 0} (test : Part Args Row → Bool) (deed : Part Args Row → Deed (Part Args Row) Out) → length seats ≤ p → Did (tested_at test (slice_get parts p)) (Err fault.NoNode) (at_part parts p deed (slice_get parts p)) parts parts
  missing test deed past = subst (λ o. Did (tested_at test o) (Err fault.NoNode) (at_part parts p deed o) parts parts) (sym (none_there past)) (refl, refl)

  pub missing_quiet : {Out : Type 0} (deed : Part Args Row → Deed (Part Args Row) Out) → length seats ≤ p → Did false (Err fault.NoNode) (at_part parts p deed (slice_get parts p)) parts parts
  missing_quiet deed past = subst (λ o. Did false (Err fault.NoNode) (at_part parts p deed o) parts parts) (sym (none_there past)) (refl, refl)

  module _ (x y : Seat Args Row) (there : slice_get seats p ≡ Some x) where
    here : slice_get parts p ≡ Some (part_of x)
    here = get_map part_of seats p x there

    -- a partition that stays as it was
    same : part_of y ≡ part_of x → slice_set parts p (part_of y) ≡ parts
    same e = ap (slice_set parts p) e ∙ set_same parts p (part_of x) here

    put_did : {Out : Type 0} (grows : Bool) (r : Result Out Fault) (d : Deed (Part Args Row) Out) → Did grows r d (part_of x) (part_of y) → Did grows r (put_part parts p d) parts (slice_set parts p (part_of y))
    put_did grows (Ok out) (Refuses f) did = absurd did
    put_did grows (Ok out) (Does next given) did = (did.0, ap (slice_set parts p) did.1)
    put_did grows (Err e) (Refuses f) did = (did.0, same did.1)
    put_did grows (Err e) (Does next given) did = (did.0, did.1, same did.2)

    shown : {Out : Type 0} (grows : Bool) (r : Result Out Fault) (d : Deed (List (Part Args Row)) Out) → Did grows r d parts (slice_set parts p (part_of y)) → Did grows r d parts (map part_of (slice_set seats p y))
    shown grows r d did = subst (λ ps. Did grows r d parts ps) (sym (set_map part_of seats p y)) did

    -- a call of the partition that is there
    pub stepped : {Out : Type 0} (test : Part Args Row → Bool) (deed : Part Args Row → Deed (Part Args Row) Out) (r : Result Out Fault) → Did (test (part_of x)) r (deed (part_of x)) (part_of x) (part_of y)
        → Did (tested_at test (slice_get parts p)) r (at_part parts p deed (slice_get parts p)) parts (map part_of (slice_set seats p y))
    stepped test deed r did = shown (tested_at test (slice_get parts p)) r (at_part parts p deed (slice_get parts p))
        (subst (λ o. Did (tested_at test o) r (at_part parts p deed o) parts (slice_set parts p (part_of y))) (sym here) (put_did (test (part_of x)) r (deed (part_of x)) did))

    pub stepped_quiet : {Out : Type 0} (deed : Part Args Row → Deed (Part Args Row) Out) (r : Result Out Fault) → Did false r (deed (part_of x)) (part_of x) (part_of y)
        → Did false r (at_part parts p deed (slice_get parts p)) parts (map part_of (slice_set seats p y))
    stepped_quiet deed r did = shown false r (at_part parts p deed (slice_get parts p))
        (subst (λ o. Did false r (at_part parts p deed o) parts (slice_set parts p (part_of y))) (sym here) (put_did false r (deed (part_of x)) did))

    -- it refuses before it is called
    pub refused_quiet : {Out : Type 0} (deed : Part Args Row → Deed (Part Args Row) Out) (f : Fault) → deed (part_of x) ≡ Refuses f → Did false (Err f) (at_part parts p deed (slice_get parts p)) parts parts
    refused_quiet deed f e = subst (λ o. Did false (Err f) (at_part parts p deed o) parts parts) (sym here) (subst (λ d. Did false (Err f) (put_part parts p d) parts parts) (sym e) (refl, refl))

-- nothing that isn't awaited is taken
not_taken : {Args Row : Type 0} (from : ℕ) (q : Place) (x : Part Args Row) (rows : Rows Row) (o : Option (Turn Args Row)) → awaits_at x.here o from ≡ false → on_reads_at x.here q from rows x.scheduler o ≡ Refuses fault.NotAwaited
not_taken from q x rows None not = refl
not_taken from q x rows (Some t) not = ap (λ (b : Bool). if b then Does (with_turn x.scheduler q (with_rows from rows t)) tt else Refuses fault.NotAwaited) not

-- what another partition served
module _ {Args Row Reply : Type 0} (seats : List (Seat Args Row)) (from : ℕ) (q : Place) (x : Part Args Row) where
  pub none_gives : length seats ≤ from → receive_from {Reply = Reply} from q (slice_get (map part_of seats) from) x ≡ Refuses fault.NoNode
  none_gives past = ap (λ o. receive_from from q o x) (slice_get_past (map part_of seats) from (subst (λ n. n ≤ from) (sym (length-map seats part_of)) past))

  gives : (z : Seat Args Row) → slice_get seats from ≡ Some z → (r : Result (Rows Row) Fault) → r ≡ served_at (turn_at z.scheduler.scheduling q) → receive_from {Reply = Reply} from q (slice_get (map part_of seats) from) x ≡ receive from q r x
  gives z there r is = ap (λ o. receive_from from q o x) (get_map part_of seats from z there) ∙ ap (λ s. receive from q s x) (sym is)

  refuses_unawaited : awaits_at x.here (turn_at x.scheduler q) from ≡ false → (r : Result (Rows Row) Fault) → receive {Reply = Reply} from q r x ≡ Refuses fault.NotAwaited
  refuses_unawaited not (Err f) = ap (λ (b : Bool). Refuses (if b then f else fault.NotAwaited)) not
  refuses_unawaited not (Ok rows) = ap (calling x (λ _. Received)) (not_taken from q x rows (turn_at x.scheduler q) not)

  -- it isn't awaited; it is, but isn't served; it is served
  pub not_awaited : (z : Seat Args Row) → slice_get seats from ≡ Some z → awaits_at x.here (turn_at x.scheduler q) from ≡ false → receive_from {Reply = Reply} from q (slice_get (map part_of seats) from) x ≡ Refuses fault.NotAwaited
  not_awaited z there not = gives z there (served_at (turn_at z.scheduler.scheduling q)) refl ∙ refuses_unawaited not (served_at (turn_at z.scheduler.scheduling q))

  pub not_served : (z : Seat Args Row) → slice_get seats from ≡ Some z → (f : Fault) → Err f ≡ served_at (turn_at z.scheduler.scheduling q) → awaits_at x.here (turn_at x.scheduler q) from ≡ true → receive_from {Reply = Reply} from q (slice_get (map part_of seats) from) x ≡ Refuses f
  not_served z there f is awaited = gives z there (Err f) is ∙ ap (λ (b : Bool). Refuses (if b then f else fault.NotAwaited)) awaited

  pub served_rows : (z : Seat Args Row) → slice_get seats from ≡ Some z → (rows : Rows Row) → Ok rows ≡ served_at (turn_at z.scheduler.scheduling q) → receive_from {Reply = Reply} from q (slice_get (map part_of seats) from) x ≡ receive from q (Ok rows) x
  served_rows z there rows is = gives z there (Ok rows) is
