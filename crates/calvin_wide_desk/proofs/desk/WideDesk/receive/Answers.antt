-- The packet that came is the last entry.
use denote.Memory.{lone}
use Rattle.std.proofs.Common.{◌≡◌, ◌++◌, ◌∷◌, [], Some, IfSome, sym, ap, subst, ◌∙◌, arith}
use Rattle.calvin_histories.proofs.EntrySizes.{an_entry}
use Rattle.calvin_histories.specs.declared.entry.Entry.TheVariants.{Came}
use Rattle.calvin_histories.specs.Histories.{id_of}
use Rattle.calvin_histories.specs.Locked.{Lived}
use Rattle.calvin_wide_desk.proofs.Going.{last_in, last_is}
use Rattle.calvin_wide_desk.proofs.desk.WideDesk.receive.Goals as goal

pub drop-self-inside-requires-room-E-Destruct : goal.drop-self-inside-requires-room-E-Destruct
drop-self-inside-requires-room-E-Destruct g c κs within = an_entry (lone g.row.A-Args.mir) (lone g.row.A-Row.mir) (lone g.row.A-Reply.mir) g.met.A.App.work_fits

pub drop-self-inside-requires-in-Err-room-E-Destruct :
    goal.drop-self-inside-requires-in-Err-room-E-Destruct
drop-self-inside-requires-in-Err-room-E-Destruct g c κs within = an_entry (lone g.row.A-Args.mir) (lone g.row.A-Row.mir) (lone g.row.A-Reply.mir) g.met.A.App.work_fits

pub entries-entries-requires : goal.entries-entries-requires
entries-entries-requires g c = an_entry (lone g.row.A-Args.mir) (lone g.row.A-Row.mir) (lone g.row.A-Reply.mir) g.met.A.App.work_fits

pub offset_bounds-entries-at : goal.offset_bounds-entries-at
offset_bounds-entries-at g c =
    let less = last_in c.self.inside.locked.history c.entries-entries.result.now (Came c.args.name c.args.packet) c.len-at.result (c.entries-entries.ensures ∙ ap (λ (l : Lived g.row.A-Args.Denot g.row.A-Row.Denot g.row.A-Reply.Denot). l.history) c.in-Ok.ensures.ok) c.len-at.ensures in
    omega (arith, less)

pub bounds-entries-at : goal.bounds-entries-at
bounds-entries-at g c = last_in c.self.inside.locked.history c.entries-entries.result.now (Came c.args.name c.args.packet) c.len-at.result (c.entries-entries.ensures ∙ ap (λ (l : Lived g.row.A-Args.Denot g.row.A-Row.Denot g.row.A-Reply.Denot). l.history) c.in-Ok.ensures.ok) c.len-at.ensures

pub drop-pen-inside-requires-room-E-Destruct : goal.drop-pen-inside-requires-room-E-Destruct
drop-pen-inside-requires-room-E-Destruct g c κs within = an_entry (lone g.row.A-Args.mir) (lone g.row.A-Row.mir) (lone g.row.A-Reply.mir) g.met.A.App.work_fits

pub drop-pen-inside-requires-then-not-write-room-E-Destruct :
    goal.drop-pen-inside-requires-then-not-write-room-E-Destruct
drop-pen-inside-requires-then-not-write-room-E-Destruct g c κs within = an_entry (lone g.row.A-Args.mir) (lone g.row.A-Row.mir) (lone g.row.A-Reply.mir) g.met.A.App.work_fits

pub drop-self-inside-requires-else-not-write-room-E-Destruct :
    goal.drop-self-inside-requires-else-not-write-room-E-Destruct
drop-self-inside-requires-else-not-write-room-E-Destruct g c κs within = an_entry (lone g.row.A-Args.mir) (lone g.row.A-Row.mir) (lone g.row.A-Reply.mir) g.met.A.App.work_fits

pub drop-self-inside-requires-else-not-write-2-room-E-Destruct :
    goal.drop-self-inside-requires-else-not-write-2-room-E-Destruct
drop-self-inside-requires-else-not-write-2-room-E-Destruct g c κs within = an_entry (lone g.row.A-Args.mir) (lone g.row.A-Row.mir) (lone g.row.A-Reply.mir) g.met.A.App.work_fits

pub invariant_of-self-2 : goal.invariant_of-self-2
invariant_of-self-2 g c =
    let config = g.J.WideFounding.config in
    let locked = c.self.inside.locked in
    let is_pen : c.self.inside.pen ≡ Some c.in-Some.pen = sym c.take.ensures.value ∙ c.in-Some.is in
    let pen : (c.in-Some.pen.1 ≡ locked.history) × (locked.id ≡ id_of config.partitions c.in-Some.pen.0) = subst (λ o. IfSome o (λ p. (p.1 ≡ locked.history) × (locked.id ≡ id_of config.partitions p.0))) is_pen c.self.invariant.0 in
    let came = last_is locked.history c.entries-entries.result.now (Came c.args.name c.args.packet) c.index-entries-at.result c.len-at.result (c.entries-entries.ensures ∙ ap (λ (l : Lived g.row.A-Args.Denot g.row.A-Row.Denot g.row.A-Reply.Denot). l.history) c.in-Ok.ensures.ok) c.len-at.ensures c.index-entries-at.is in
    let written = c.if-not-write.ensures in (
      (
        ap (λ p. p.1) written ∙ (λ i. pen.0 i ++ came i ∷ []) ∙ ap (λ (l : Lived g.row.A-Args.Denot g.row.A-Row.Denot g.row.A-Reply.Denot). l.history) (sym c.in-Ok.ensures.ok),
        ap (λ (l : Lived g.row.A-Args.Denot g.row.A-Row.Denot g.row.A-Reply.Denot). l.id) c.in-Ok.ensures.ok ∙ pen.1 ∙ ap (λ p. id_of config.partitions p.0) (sym written),
      ),
      ap (λ (l : Lived g.row.A-Args.Denot g.row.A-Row.Denot g.row.A-Reply.Denot). l.config) c.in-Ok.ensures.ok ∙ c.self.invariant.1,
    )
