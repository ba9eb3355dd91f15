-- What a request that is to begin answers, by how far it is.
use Rattle.std.proofs.Common.{◌≡◌, Bool, true, false, cond, Option, Some, None, Ok, refl, ap, ◌∙◌}
use Rattle.calvin_types.specs.declared.place.Place.{Place}
use Rattle.calvin_types.specs.declared.fault.Fault.TheVariants as fault
use Rattle.calvin_types.specs.Deeds.{Deed, Refuses, Does, Did}
use Rattle.calvin_types.specs.Participants.{Site}
use Rattle.calvin_types.specs.Places.{place_cmp}
use Rattle.calvin_types.proofs.ExactMaps.{insert_here}
use Rattle.calvin_types.proofs.PlaceOrder.{place_total, place_exact}
use Rattle.calvin_sched.specs.declared.phase.Phase.{Phase}
use Rattle.calvin_sched.specs.declared.phase.Phase.TheVariants.{Waiting, Begun, Done}
use Rattle.calvin_sched.specs.Scheduling.{Turn, Scheduling, turn_at, with_turn}
use Rattle.calvin_sched.specs.Steps.{Serving, begin, begin_at, begin_by, begun_turn, serving, silently, is_ready}

module _ {Args Row : Type 0} (here : Site) (s : Scheduling Args Row) (q : Place) (x : Turn Args Row) (there : turn_at s q ≡ Some x) where
  pub not_yet : x.phase ≡ Waiting → (is_ready here s q x.request ≡ true → ⊥) → begin here q s ≡ Refuses fault.NotReady
  not_yet waits blocked = ap (begin_at here q s) there ∙ ap (begin_by here q s x) waits ∙ go (is_ready here s q x.request) refl
    where
      go : (b : Bool) → is_ready here s q x.request ≡ b
          → ◌≡◌ {A = Deed (Scheduling Args Row) (Serving Args Row)} (cond b (Does (with_turn s q (begun_turn here s.store.map x)) (serving here (begun_turn here s.store.map x))) (Refuses fault.NotReady)) (Refuses fault.NotReady)
      go true e = absurd (blocked e)
      go false e = refl

  pub it_begins : x.phase ≡ Waiting → is_ready here s q x.request ≡ true
      → begin here q s ≡ Does (with_turn s q (begun_turn here s.store.map x)) (serving here (begun_turn here s.store.map x))
  it_begins waits ready =
      ap (begin_at here q s) there ∙ ap (begin_by here q s x) waits
      ∙ ap (λ b. cond b (Does (with_turn s q (begun_turn here s.store.map x)) (serving here (begun_turn here s.store.map x))) (Refuses fault.NotReady)) ready

module _ {Args Row : Type 0} (here : Site) (q : Place) (s next : Scheduling Args Row) where
  -- a request has begun, and what it answers is read off what stands at its place then
  abbrev pub HasBegun : Deed (Scheduling Args Row) (Serving Args Row) → Type 0
  HasBegun d = (y : Turn Args Row) × (turn_at next q ≡ Some y) × Did false (Ok (serving here y)) d s next

  pub has_begun : Did false (Ok tt) (silently (begin here q s)) s next → HasBegun (begin here q s)
  has_begun did = by_turn (turn_at s q) did
    where
      by_turn : (o : Option (Turn Args Row)) → Did false (Ok tt) (silently (begin_at here q s o)) s next → HasBegun (begin_at here q s o)
      by_turn None did = absurd did
      by_turn (Some x) did = by_phase x.phase did
        where
          by_ready : (b : Bool) → Did false (Ok tt) (silently (cond b (Does (with_turn s q (begun_turn here s.store.map x)) (serving here (begun_turn here s.store.map x))) (Refuses fault.NotReady))) s next
              → HasBegun (cond b (Does (with_turn s q (begun_turn here s.store.map x)) (serving here (begun_turn here s.store.map x))) (Refuses fault.NotReady))
          by_ready true did = (begun_turn here s.store.map x, ap (λ v. turn_at v q) did.1 ∙ insert_here place_cmp place_total place_exact s.turns q (begun_turn here s.store.map x), (refl, did.1))
          by_ready false did = absurd did

          by_phase : (f : Phase) → Did false (Ok tt) (silently (begin_by here q s x f)) s next → HasBegun (begin_by here q s x f)
          by_phase Waiting did = by_ready (is_ready here s q x.request) did
          by_phase Begun did = absurd did
          by_phase Done did = absurd did
