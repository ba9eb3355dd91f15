use Rattle.std.proofs.Common.{◌++◌, ◌∷◌, [], sym, ap, ◌∙◌}
use Rattle.calvin_types.specs.declared.place.NodeId.{NodeId}
use Rattle.calvin_report.specs.Reports.{is_lost}
use Rattle.calvin_report.specs.SoFar.{so_far, kept_epochs}
use Rattle.calvin_report.proofs.Kept.{kept_more}
use Rattle.calvin_report.proofs.nodes.with_node.Goals as goal

pub returns : goal.returns
returns g c nodes is =
    let kept = ap (λ (id : NodeId). is_lost c.args.lost id.replica) (sym c.id.ensures) ∙ sym c.is_lost.ensures ∙ c.if-is_lost.false in
    c.with.ensures (kept_epochs c.args.lost nodes) is
    ∙ ap (λ last. so_far (kept_epochs c.args.lost nodes ++ last ∷ [])) c.stands_at.ensures
    ∙ ap so_far (sym (kept_more c.args.lost nodes c.args.node.now.state kept))
