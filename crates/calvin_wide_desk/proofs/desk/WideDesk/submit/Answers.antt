-- The last entry submits the request.
use denote.Memory.{lone}
use Rattle.std.proofs.Common.{[], length, slice_get, ap, ◌∙◌}
use Rattle.calvin_histories.proofs.EntrySizes.{an_entry}
use Rattle.calvin_histories.specs.declared.entry.Entry.TheVariants.{Own}
use Rattle.calvin_histories.specs.Locked.{Lived}
use Rattle.calvin_node_acts.specs.declared.act.Act.TheVariants.{Submit}
use Rattle.calvin_wide_desk.proofs.Going.{at_seam}
use Rattle.calvin_wide_desk.proofs.desk.WideDesk.submit.Goals as goal

pub act-requires-after_bounds : goal.act-requires-after_bounds
act-requires-after_bounds g c κs within = an_entry (lone g.row.A-Args.mir) (lone g.row.A-Row.mir) (lone g.row.A-Reply.mir) g.met.A.App.work_fits

pub invariant_of-result : goal.invariant_of-result
invariant_of-result g c =
    let old = c.args.self.now in
    let did = c.in_ok-mark.ensures in (
      c.id-node.ensures ∙ ap (λ (l : Lived g.row.A-Args.Denot g.row.A-Row.Denot g.row.A-Reply.Denot). l.id) c.self.view_is ∙ did.1,
      (λ i. slice_get ((did.2 ∙ ap (λ (l : Lived g.row.A-Args.Denot g.row.A-Row.Denot g.row.A-Reply.Denot). l.history) did.0) i) ((c.len-entry.ensures ∙ ap (λ (l : Lived g.row.A-Args.Denot g.row.A-Row.Denot g.row.A-Reply.Denot). length l.history) c.self.view_is) i))
          ∙ at_seam old.history (Own (Submit c.args.txn)) [],
    )
