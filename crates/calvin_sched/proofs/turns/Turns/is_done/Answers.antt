use Rattle.std.proofs.Common.{sym, ap, ◌∙◌}
use Rattle.std.specs.Option.{option_copied, option_map}
use Rattle.calvin_sched.specs.Scheduling.{turn_done}
use Rattle.calvin_sched.proofs.Keepers.{get_turn}
use Rattle.calvin_sched.proofs.turns.Turns.is_done.Goals as goal

pub returns-in-Some : goal.returns-in-Some
returns-in-Some g c = c.is_done.ensures ∙ sym (ap turn_done (get_turn c.args.self.now.kept c.args.place ∙ ap (option_map (λ k. k.turn)) (sym c.get_near.ensures ∙ ap option_copied c.in-Some.is)))

pub returns-in-None : goal.returns-in-None
returns-in-None g c = sym (ap turn_done (get_turn c.args.self.now.kept c.args.place ∙ ap (option_map (λ k. k.turn)) (sym c.get_near.ensures ∙ ap option_copied c.in-None.is)))
