-- What held of the beginning that was marked holds of the whole.
use denote.Memory.{lone}
use Rattle.calvin_histories.proofs.EntrySizes.{an_entry}
use Rattle.calvin_wide_desk.proofs.Going.{replied_in}
use Rattle.calvin_wide_desk.proofs.stopped.WideStopped.answer.Goals as goal

pub begins_with-requires-after_bounds : goal.begins_with-requires-after_bounds
begins_with-requires-after_bounds g c κs within = an_entry (lone g.row.A-Args.mir) (lone g.row.A-Row.mir) (lone g.row.A-Reply.mir) g.met.A.App.work_fits

pub returns : goal.returns
returns g c =
    let mark = c.answer.inside.mark in
    rw (← c.answer.view_is) (replied_in g.A.App.meaning g.J.WideFounding.config c.args.self.now mark.0 mark.1 c.begins_with.ensures.begins c.begins_with.ensures.lived c.answer.inside.replied c.answer.invariant.0 c.answer.invariant.1)
