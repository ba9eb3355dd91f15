use Rattle.std.proofs.Common.{length, take, refl, sym, ap, ◌∙◌}
use Rattle.calvin_types.specs.Keys.{has}
use Rattle.calvin_app.specs.Writing.{keys_of}
use Rattle.std.proofs.lemmas.Option.{slice_get_read}
use Rattle.calvin_app.proofs.Apart.{repeated_at, distinct_at}
use Rattle.calvin_app.proofs.table.first_fault.Goals as goal

pub returns-then-is_among-clause-repeated : goal.returns-then-is_among-clause-repeated
returns-then-is_among-clause-repeated g c =
    let here = slice_get_read c.args.rows.now (length c.args.rows.now) c.loop-i.i c.index-rows-i.result refl c.loop-i-test.true c.index-rows-i.is in
    (λ _. repeated_at c.args.rows.now c.loop-i.i c.index-rows-i.result here (ap (λ w. has (keys_of (take c.loop-i.i c.args.rows.now)) w.0) c.index-rows-i.is ∙ sym c.if-is_among.ensures), λ _. refl)

pub loop-i-preserved : goal.loop-i-preserved
loop-i-preserved g c =
    let here = slice_get_read c.args.rows.now (length c.args.rows.now) c.loop-i.i c.index-rows-i.result refl c.loop-i-test.true c.index-rows-i.is in
    distinct_at c.args.rows.now c.loop-i.i c.index-rows-i.result here (ap (λ w. has (keys_of (take c.loop-i.i c.args.rows.now)) w.0) c.index-rows-i.is ∙ sym c.if-is_among.ensures) c.loop-i.invariant
