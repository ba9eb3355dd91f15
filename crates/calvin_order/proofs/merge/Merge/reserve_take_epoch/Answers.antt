use Rattle.std.proofs.Common.{◌^◌, sym, ap, subst, ◌∙◌}
use Rattle.std.specs.Option.{unwrap_or}
use Rattle.calvin_order.specs.Merging.{EpochsFit}
use Rattle.calvin_order.proofs.Ranges.{ready_past_last}
use Rattle.calvin_order.proofs.merge.Merge.reserve_take_epoch.Goals as goal

pub returns-in_default-clause-ready : goal.returns-in_default-clause-ready
returns-in_default-clause-ready g c =
    ready_past_last c.args.self.now (subst (λ m. EpochsFit m.held) c.self.view_is c.self.invariant.in_range)
    (sym (ap (λ m. m.next) c.self.view_is) ∙ ap (λ o. unwrap_or o (2 ^ 64)) c.in_default.is)
