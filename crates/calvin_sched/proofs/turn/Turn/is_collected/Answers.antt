use Rattle.std.proofs.Common.{sym, ap, ◌∙◌}
use Rattle.std.specs.List.{slice_get}
use Rattle.calvin_types.proofs.ListTests.{all_missed, all_next}
use Rattle.calvin_sched.proofs.turn.Turn.is_collected.Goals as goal

pub returns-then-not-has_piece : goal.returns-then-not-has_piece
returns-then-not-has_piece g c =
    all_missed _ c.args.self.now.turn.request.sets.reads c.loop-i.i c.at.result (ap (λ ks. slice_get ks c.loop-i.i) (sym c.reads-keys.ensures) ∙ c.at.ensures)
    (sym c.has_piece.ensures ∙ c.if-not-has_piece.true) c.loop-i.invariant

pub loop-i-preserved : goal.loop-i-preserved
loop-i-preserved g c =
    all_next _ c.args.self.now.turn.request.sets.reads c.loop-i.i c.at.result (ap (λ ks. slice_get ks c.loop-i.i) (sym c.reads-keys.ensures) ∙ c.at.ensures)
    (sym c.has_piece.ensures ∙ c.if-not-has_piece.false) c.loop-i.invariant
