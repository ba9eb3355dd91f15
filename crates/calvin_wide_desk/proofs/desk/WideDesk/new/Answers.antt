-- The history is written whole.
use denote.Memory.{lone}
use Rattle.std.proofs.Common.{◌∙◌, refl, sym, ap}
use Rattle.calvin_histories.proofs.EntrySizes.{an_entry}
use Rattle.calvin_histories.specs.Histories.{id_of}
use Rattle.calvin_wide_desk.proofs.desk.WideDesk.new.Goals as goal

pub entries-requires : goal.entries-requires
entries-requires g c = an_entry (lone g.row.A-Args.mir) (lone g.row.A-Row.mir) (lone g.row.A-Reply.mir) g.met.A.App.work_fits

pub write_all-requires-after_bounds : goal.write_all-requires-after_bounds
write_all-requires-after_bounds g c κs within = (an_entry (lone g.row.A-Args.mir) (lone g.row.A-Row.mir) (lone g.row.A-Reply.mir) g.met.A.App.work_fits, c.requires.pen)

pub drop-pen-inside-requires-room-E-Destruct : goal.drop-pen-inside-requires-room-E-Destruct
drop-pen-inside-requires-room-E-Destruct g c κs within = an_entry (lone g.row.A-Args.mir) (lone g.row.A-Row.mir) (lone g.row.A-Reply.mir) g.met.A.App.work_fits

pub invariant_of-result : goal.invariant_of-result
invariant_of-result g c =
    let written = c.if-not-write_all.ensures refl in
    ((ap (λ p. p.1) written ∙ c.entries.ensures, c.requires.node ∙ ap (λ p. id_of g.J.WideFounding.config.partitions p.0) (sym written)), c.requires.config)

pub returns : goal.returns
returns g c = (refl, c.mark-mark.ensures ∙ c.if-not-write_all.ensures refl ∙ ap (λ history. (c.args.pen.0, history)) c.entries.ensures)
