-- The history gives the node, as that of each locked node does.
use Rattle.std.proofs.Common.{sym, ap, ◌∙◌}
use Rattle.calvin_histories.specs.Histories.{new_life, life_of}
use Rattle.calvin_histories.specs.Locked.{Lived}
use Rattle.calvin_wide_desk.proofs.desk.WideDesk.end.Goals as goal

pub returns-clause-lived : goal.returns-clause-lived
returns-clause-lived g c =
    let life = c.node-node.ensures.life in (
      record { state = c.node-node.result.now.state; sent = life.0 },
      (λ i. life_of g.A.App.meaning (sym c.self.invariant.1 i) (new_life (ap (λ (l : Lived g.row.A-Args.Denot g.row.A-Row.Denot g.row.A-Reply.Denot). l.id) (sym c.self.view_is) i)) (c.into_history-history.ensures i)) ∙ life.1,
    )
