use Rattle.std.proofs.Common.{Some, refl, sym, ap, ◌∙◌, arith}
use Rattle.std.proofs.lemmas.Bool.{false≢true}
use Rattle.std.proofs.lemmas.Option.{same_Some, slice_get_within, slice_get_read}
use Rattle.calvin_lock.specs.Queues.{equal_places}
use Rattle.calvin_lock.proofs.PlaceTests.{places_exact, places_self}
use Rattle.calvin_sched.proofs.turns.is_at.Goals as goal

pub returns-in-Some : goal.returns-in-Some
returns-in-Some g c =
    let seat = c.in-Some.field-0.now in
    let there = slice_get_read c.args.turns.now _ c.args.number seat refl c.in-Some.ensures.lookup.3.0 c.in-Some.ensures.lookup.1 in (
      λ yes. (seat.1, there ∙ ap (λ q. Some (q, seat.1)) (places_exact seat.0 c.args.place (sym c.eq.ensures ∙ yes))),
      λ at. c.eq.ensures ∙ ap (λ q. equal_places q c.args.place) (ap (λ (e : _ × _). e.0) (same_Some _ _ (sym there ∙ at.1))) ∙ places_self c.args.place,
    )

pub returns-in-None : goal.returns-in-None
returns-in-None g c = (λ no. absurd (false≢true no), λ at. absurd (omega (arith, c.in-None.ensures.lookup.3, slice_get_within c.args.turns.now c.args.number _ at.1)))
