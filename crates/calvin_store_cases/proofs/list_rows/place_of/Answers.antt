use Rattle.std.proofs.Common.{sym}
use Rattle.std.proofs.lemmas.Option.{slice_get-get_or}
use Rattle.calvin_app.proofs.Puts.{found_place}
use Rattle.calvin_store_cases.proofs.list_rows.place_of.Goals as goal

pub returns-in-Equal : goal.returns-in-Equal
returns-in-Equal g c = found_place c.args.key c.args.pairs.now c.loop-i.i _ (slice_get-get_or c.args.pairs.now c.loop-i.i c.index-pairs-i.result c.loop-i-test.true) c.loop-i.invariant (sym c.in-Equal.ensures)
