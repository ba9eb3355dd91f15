use Rattle.std.proofs.Common.{sym, subst, ◌∙◌}
use Rattle.calvin_order.proofs.Histories.{undecided_told}
use Rattle.calvin_order.proofs.Sequencers.{Settles}
use Rattle.calvin_order.proofs.history.History.is_decided.Goals as goal

pub returns-clause-settles : goal.returns-clause-settles
returns-clause-settles g c =
    let i = c.self.inside in
    λ out. subst (λ v. Settles v.state c.args.epoch) c.self.view_is (undecided_told i.decided.keys c.args.epoch (sym c.contains.ensures ∙ out) i.closed.entries c.self.invariant.once)
