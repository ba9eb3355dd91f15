use Rattle.std.proofs.Common.{sym, ap, ◌∙◌}
use Rattle.std.specs.Option.{option_map}
use Rattle.calvin_sched.specs.Scheduling.{turn_at}
use Rattle.calvin_sched.proofs.Keepers.{get_turn, found_or_not}
use Rattle.calvin_sched.proofs.scheduler.Scheduler.turn.Goals as goal

pub returns : goal.returns
returns g c =
    let at = sym (ap (λ s. turn_at s.scheduling c.args.place) c.self.view_is) ∙ get_turn c.self.inside.turns.kept c.args.place ∙ ap (option_map (λ k. k.turn)) (sym c.get.ensures) in
    found_or_not (turn_at c.args.self.now.scheduling c.args.place) c.get.result at
