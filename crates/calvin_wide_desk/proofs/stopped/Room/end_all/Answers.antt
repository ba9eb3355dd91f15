-- One history more, and in the end all.
use denote.Memory.{lone}
use Rattle.std.proofs.Common.{rules, ◌≡◌, ◌++◌, ◌∷◌, [], length, slice_get, sym, ap, subst, ◌∙◌, arith}
use Rattle.std.proofs.lemmas.Option.{none-some}
use Rattle.calvin_histories.proofs.EntrySizes.{an_entry}
use Rattle.calvin_wide_desk.specs.Stopping.{numbered, HaveLived}
use Rattle.calvin_wide_desk.proofs.Going.{numbered_next, lives_more}
use Rattle.calvin_wide_desk.proofs.stopped.Room.end_all.Goals as goal

pub clear-requires-2-room-T-Destruct : goal.clear-requires-2-room-T-Destruct
clear-requires-2-room-T-Destruct g c κs within = an_entry (lone g.row.A-Args.mir) (lone g.row.A-Row.mir) (lone g.row.A-Reply.mir) g.met.A.App.work_fits

pub loop-desk-init : goal.loop-desk-init
loop-desk-init g c = record {
  wholes = c.clear-2.ensures.items ∙ ap (numbered 0) (sym c.clear.ensures.items);
  lived = λ i history at. absurd (none-some history (ap (λ hs. slice_get hs i) (sym c.clear.ensures.items) ∙ at));
}

pub end-requires-after_bounds : goal.end-requires-after_bounds
end-requires-after_bounds g c κs within = an_entry (lone g.row.A-Args.mir) (lone g.row.A-Row.mir) (lone g.row.A-Reply.mir) g.met.A.App.work_fits

pub drop-wholes-requires-room-T-Destruct : goal.drop-wholes-requires-room-T-Destruct
drop-wholes-requires-room-T-Destruct g c κs within = an_entry (lone g.row.A-Args.mir) (lone g.row.A-Row.mir) (lone g.row.A-Reply.mir) g.met.A.App.work_fits

pub drop-whole-inside-requires-room-E-Destruct : goal.drop-whole-inside-requires-room-E-Destruct
drop-whole-inside-requires-room-E-Destruct g c κs within = an_entry (lone g.row.A-Args.mir) (lone g.row.A-Row.mir) (lone g.row.A-Reply.mir) g.met.A.App.work_fits

pub drop-history-inside-requires-room-T-Destruct :
    goal.drop-history-inside-requires-room-T-Destruct
drop-history-inside-requires-room-T-Destruct g c κs within = an_entry (lone g.row.A-Args.mir) (lone g.row.A-Row.mir) (lone g.row.A-Reply.mir) g.met.A.App.work_fits

pub drop-wholes-requires-then-node-len-room-T-Destruct :
    goal.drop-wholes-requires-then-node-len-room-T-Destruct
drop-wholes-requires-then-node-len-room-T-Destruct g c κs within = an_entry (lone g.row.A-Args.mir) (lone g.row.A-Row.mir) (lone g.row.A-Reply.mir) g.met.A.App.work_fits

pub drop-push-requires-room-T-Destruct : goal.drop-push-requires-room-T-Destruct
drop-push-requires-room-T-Destruct g c κs within = an_entry (lone g.row.A-Args.mir) (lone g.row.A-Row.mir) (lone g.row.A-Reply.mir) g.met.A.App.work_fits

pub drop-whole-inside-requires-then-is_err-room-E-Destruct :
    goal.drop-whole-inside-requires-then-is_err-room-E-Destruct
drop-whole-inside-requires-then-is_err-room-E-Destruct g c κs within = an_entry (lone g.row.A-Args.mir) (lone g.row.A-Row.mir) (lone g.row.A-Reply.mir) g.met.A.App.work_fits

pub drop-push-requires-else-is_err-room-E-Destruct :
    goal.drop-push-requires-else-is_err-room-E-Destruct
drop-push-requires-else-is_err-room-E-Destruct g c κs within = an_entry (lone g.row.A-Args.mir) (lone g.row.A-Row.mir) (lone g.row.A-Reply.mir) g.met.A.App.work_fits

pub drop-wholes-requires-then-is_err-room-T-Destruct :
    goal.drop-wholes-requires-then-is_err-room-T-Destruct
drop-wholes-requires-then-is_err-room-T-Destruct g c κs within = an_entry (lone g.row.A-Args.mir) (lone g.row.A-Row.mir) (lone g.row.A-Reply.mir) g.met.A.App.work_fits

pub loop-desk-preserved : goal.loop-desk-preserved
loop-desk-preserved g c =
    let l = c.loop-desk in
    let e = c.in-Some-end in
    let is = c.node.ensures.is in
    let same = c.if-node-len.false in
    let len = c.len.ensures in
    let counted = l.histories.ok in
    let number : e.whole.0 ≡ length l.histories.items = omega (arith, is, same, len, counted) in
    let histories : c.push.new.self.items ≡ l.histories.items ++ e.history ∷ [] = search rules in
    let wholes : c.push-else-is_err.new.self.items ≡ l.wholes.items ++ e.whole ∷ [] = search rules in
    record {
      wholes = wholes ∙ numbered_next l.histories.items l.wholes.items e.history e.whole l.invariant.wholes number (e.ensures.ended.1 ∙ sym e.ensures.ended.0) ∙ ap (numbered 0) (sym histories);
      lived = subst (HaveLived g.A.App.meaning g.J.WideFounding.config) (sym histories) (lives_more g.A.App.meaning g.J.WideFounding.config l.histories.items l.invariant.lived e.history c.in-Some.desk.id e.whole.0 e.ensures.ended.2 number e.ensures.lived);
    }

pub drop-wholes-requires-then-len-nodes-room-T-Destruct :
    goal.drop-wholes-requires-then-len-nodes-room-T-Destruct
drop-wholes-requires-then-len-nodes-room-T-Destruct g c κs within = an_entry (lone g.row.A-Args.mir) (lone g.row.A-Row.mir) (lone g.row.A-Reply.mir) g.met.A.App.work_fits

pub invariant_of-result : goal.invariant_of-result
invariant_of-result g c =
    let l = c.loop-desk in
    let same = c.if-len-nodes.false in
    let len = c.len-2.ensures in
    let counted = l.histories.ok in
    let all = c.args.self.all in
    (l.invariant.wholes, omega (arith, same, len, counted, all), l.invariant.lived)
