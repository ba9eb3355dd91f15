use Rattle.std.proofs.Common.{◌≡◌, [], ◌∷◌, ◌++◌, length, refl, ap, ◌∙◌}
use Rattle.std.proofs.lemmas.List.{take_all}
use Rattle.std.proofs.lemmas.Option.{slice_get_read}
use Rattle.std.specs.FinMap as finmap
use Rattle.calvin_app.specs.Rows.{overwritten}
use Rattle.calvin_once.specs.Once.{as_rows, inside, kept_at}
use Rattle.calvin_once.specs.declared.kept.OnceRow.TheVariants as kept
use Rattle.calvin_once.proofs.Inner.{as_rows_at}
use Rattle.calvin_once.proofs.Lifted.{lifted_new, lifted_within}
use Rattle.calvin_once.proofs.lifting.lift.Given.{Over}
use Rattle.calvin_once.proofs.lifting.lift.Goals as goal

pub loop-key-preserved : goal.loop-key-preserved
loop-key-preserved g c =
    let here = slice_get_read c.args.rows.now (length c.args.rows.now) c.loop-key.key-index c.loop-key-item.result refl c.loop-key-test.true c.loop-key-item.is in
    c.in_ok-push.ensures.items ∙ ap (λ es. es ++ (c.loop-key-item.result.0, kept.Row c.loop-key-item.result.1) ∷ []) c.loop-key.invariant ∙ as_rows_at c.args.rows.now c.loop-key.key-index c.loop-key-item.result here

rows_are : (g : Over) (c : goal.After-loop-key g) → c.loop-key.lifted.items ≡ as_rows c.args.rows.now
rows_are g c = c.loop-key.invariant ∙ ap as_rows (take_all c.loop-key.key-index c.args.rows.now c.loop-key-test.false)

pub returns-clause-rows : goal.returns-clause-rows
returns-clause-rows g c = rows_are g c

pub returns-clause-new : goal.returns-clause-new
returns-clause-new g c id = ap (λ es. kept_at g.A.App.table_limit (overwritten finmap.empty es) id) (rows_are g c) ∙ lifted_new g.row.A-Reply.Denot g.A.App.table_limit c.args.rows.now id

pub returns-clause-within : goal.returns-clause-within
returns-clause-within g c low = ap (λ es. inside g.A.App.table_limit (overwritten finmap.empty es)) (rows_are g c) ∙ lifted_within g.row.A-Reply.Denot g.A.App.table_limit c.args.rows.now low
