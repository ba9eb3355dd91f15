-- One node more, and in the end all.
use denote.Memory.{lone}
use Rattle.std.proofs.Common.{rules, ◌≡◌, ◌<◌, ◌++◌, ◌∷◌, [], length, length-append, append_assoc, append-nil, slice_get, sym, ap, subst, ◌∙◌, arith}
use Rattle.std.proofs.lemmas.List.{nil_from_length}
use Rattle.std.proofs.lemmas.Option.{none-some}
use Rattle.std.specs.Vec.Iter.{into_iter_items}
use Rattle.calvin_world.proofs.SettledLaws.{config_in_code}
use Rattle.calvin_histories.proofs.EntrySizes.{an_entry}
use Rattle.calvin_histories.specs.Histories.{id_of}
use Rattle.calvin_histories.specs.Locked.{Lived, AreLockedOf}
use Rattle.calvin_wide_desk.proofs.Going.{next_locked, marked_more, AreMarkedAt}
use Rattle.calvin_wide_desk.proofs.founding.found_all.Goals as goal

pub lock_nodes-requires : goal.lock_nodes-requires
lock_nodes-requires g c =
    let log = c.args.book.now in
    record { config = sym (config_in_code g.A.App.meaning g.met.A.App.lawful.writes_within_the_sets log.config log.events _ c.world.result.now c.world.ensures.run) ∙ c.config.ensures.whole }

pub drop-pens-inside-requires-room-E-Destruct : goal.drop-pens-inside-requires-room-E-Destruct
drop-pens-inside-requires-room-E-Destruct g c κs within = an_entry (lone g.row.A-Args.mir) (lone g.row.A-Row.mir) (lone g.row.A-Reply.mir) g.met.A.App.work_fits

pub loop-node-init : goal.loop-node-init
loop-node-init g c = record {
  taken = c.requires.pens;
  marked = ap length c.new-marks.ensures.items;
  nodes = subst (AreLockedOf g.A.App.meaning c.args.book.now) (sym c.into_iter-node-iterator.ensures.into_iter_gives.0) c.in_ok-nodes.ensures.nodes;
  marks = λ i mark at. absurd (none-some mark (ap (λ ms. slice_get ms i) (sym c.new-marks.ensures.items) ∙ at));
}

pub take-requires-clause-left : goal.take-requires-clause-left
take-requires-clause-left g c κs within =
    let l = c.loop-node in
    let next = next_locked g.A.App.meaning c.args.book.now l.yielded (into_iter_items c.next.new.self) c.in-Some.node (subst (λ ns. AreLockedOf g.A.App.meaning c.args.book.now (l.yielded ++ ns)) c.in-Some.ensures.steps.0 l.invariant.nodes) in
    subst (λ n. n < g.J.Naming.nodes) (sym l.invariant.taken) (subst (λ n. length l.yielded < n) (sym c.requires.number) next.1)

pub new-requires-after_bounds : goal.new-requires-after_bounds
new-requires-after_bounds g c κs within =
    let l = c.loop-node in
    let next = next_locked g.A.App.meaning c.args.book.now l.yielded (into_iter_items c.next.new.self) c.in-Some.node (subst (λ ns. AreLockedOf g.A.App.meaning c.args.book.now (l.yielded ++ ns)) c.in-Some.ensures.steps.0 l.invariant.nodes) in (
      an_entry (lone g.row.A-Args.mir) (lone g.row.A-Row.mir) (lone g.row.A-Reply.mir) g.met.A.App.work_fits,
      (
        ap (λ p. p.1) c.take.ensures.pen,
        (
          ap (λ (l : Lived g.row.A-Args.Denot g.row.A-Row.Denot g.row.A-Reply.Denot). l.id) next.0 ∙ (λ i. id_of (c.requires.config i).partitions (sym (ap (λ p. p.0) c.take.ensures.pen ∙ l.invariant.taken) i)),
          ap (λ (l : Lived g.row.A-Args.Denot g.row.A-Row.Denot g.row.A-Reply.Denot). l.config) next.0 ∙ c.requires.config,
        ),
      ),
    )

pub drop-marks-requires-room-T-Destruct : goal.drop-marks-requires-room-T-Destruct
drop-marks-requires-room-T-Destruct g c κs within = an_entry (lone g.row.A-Args.mir) (lone g.row.A-Row.mir) (lone g.row.A-Reply.mir) g.met.A.App.work_fits

pub drop-mark-inside-requires-room-E-Destruct : goal.drop-mark-inside-requires-room-E-Destruct
drop-mark-inside-requires-room-E-Destruct g c κs within = an_entry (lone g.row.A-Args.mir) (lone g.row.A-Row.mir) (lone g.row.A-Reply.mir) g.met.A.App.work_fits

pub loop-node-preserved : goal.loop-node-preserved
loop-node-preserved g c =
    let l = c.loop-node in
    let next = next_locked g.A.App.meaning c.args.book.now l.yielded (into_iter_items c.next.new.self) c.in-Some.node (subst (λ ns. AreLockedOf g.A.App.meaning c.args.book.now (l.yielded ++ ns)) c.in-Some.ensures.steps.0 l.invariant.nodes) in
    let e = c.in-Some-new in
    let marks : c.push-in-loop-node.new.self.items ≡ l.marks.items ++ e.mark ∷ [] = search rules in
    let taken = l.invariant.taken in
    let marked = l.invariant.marked in
    let went = c.take.ensures.next in
    let yielded = length-append l.yielded (c.in-Some.node ∷ []) in
    let more = ap length marks ∙ length-append l.marks.items (e.mark ∷ []) in
    record {
      taken = omega (arith, taken, went, yielded);
      marked = omega (arith, marked, more, yielded);
      nodes = subst (AreLockedOf g.A.App.meaning c.args.book.now) (ap (λ ns. l.yielded ++ ns) c.in-Some.ensures.steps.0 ∙ sym (append_assoc l.yielded (c.in-Some.node ∷ []) (into_iter_items c.next.new.self))) l.invariant.nodes;
      marks = subst (AreMarkedAt g.A.App.meaning c.args.book.now) (sym marks) (marked_more g.A.App.meaning c.args.book.now l.marks.items l.invariant.marks e.mark c.in-Some.node (length l.yielded) (sym marked) next.0 (e.ensures.1 ∙ ap (λ n. (n, c.in-Some.node.history)) (ap (λ p. p.0) c.take.ensures.pen ∙ taken)));
    }

pub from_residual-requires-in_err-push-2-room-F-From :
    goal.from_residual-requires-in_err-push-2-room-F-From
from_residual-requires-in_err-push-2-room-F-From g c κs within = an_entry (lone g.row.A-Args.mir) (lone g.row.A-Row.mir) (lone g.row.A-Reply.mir) g.met.A.App.work_fits

pub drop-pens-inside-requires-2-room-E-Destruct : goal.drop-pens-inside-requires-2-room-E-Destruct
drop-pens-inside-requires-2-room-E-Destruct g c κs within = an_entry (lone g.row.A-Args.mir) (lone g.row.A-Row.mir) (lone g.row.A-Reply.mir) g.met.A.App.work_fits

pub returns-clause-marks : goal.returns-clause-marks
returns-clause-marks g c =
    let l = c.loop-node in
    let none = nil_from_length (into_iter_items l.node-iterator) (search rules) in
    let all = subst (λ ns. AreLockedOf g.A.App.meaning c.args.book.now ns) (ap (λ ns. l.yielded ++ ns) none ∙ append-nil l.yielded) l.invariant.nodes in
    record { number = l.invariant.marked ∙ all.number; each = l.invariant.marks }
