use Rattle.std.proofs.Common.{get_or, Some, sym, ap, ◌∙◌}
use Rattle.std.proofs.lemmas.Option.{slice_get-get_or}
use Rattle.calvin_lock.proofs.PlaceTests.{places_exact}
use Rattle.calvin_lock.proofs.RisingPlaces.{splits_there, splits_between, at_equal, searchable}
use Rattle.calvin_lock.proofs.order.count_up_to.Goals as goal

pub returns-then-eq : goal.returns-then-eq
returns-then-eq c =
    let xs = c.args.places.now in
    splits_there xs c.args.place c.args.near c.requires
    (slice_get-get_or xs c.args.near (record { epoch = 0; n = 0 }) c.if-near-places.true ∙ ap Some (places_exact (get_or xs c.args.near (record { epoch = 0; n = 0 })) c.args.place (sym c.if-eq.ensures)))

pub returns-in-Ok : goal.returns-in-Ok
returns-in-Ok c =
    let xs = c.args.places.now in
    splits_there xs c.args.place c.in-Ok.i c.requires (at_equal xs c.args.place c.in-Ok.i c.in-Ok.ensures.bound c.in-Ok.ensures.ok)

pub returns-in-Err : goal.returns-in-Err
returns-in-Err c =
    let xs = c.args.places.now in
    let at = c.in-Err.ensures.position (searchable xs c.args.place c.requires) in
    splits_between xs c.args.place c.in-Err.i at.0 at.1 c.in-Err.ensures.bound
