use Rattle.std.proofs.Common.{Some, arith}
use Rattle.calvin_order.proofs.HoldingBack.{first_seen, none_ripe_yet, turn_popped}
use Rattle.calvin_order.proofs.held_back.take_ripe.Goals as goal

pub overflow_sub-closings : goal.overflow_sub-closings
overflow_sub-closings g c = first_seen c.args.closings c.args.held.now.items c.in-Some.first.now c.in-Some.ensures.item.0 c.in-Some.ensures.lookup c.requires

pub returns-then-closings-first-clause-none : goal.returns-then-closings-first-clause-none
returns-then-closings-first-clause-none g c = λ _. none_ripe_yet c.args.delay c.args.closings c.args.held.now.items c.in-Some.first.now c.in-Some.ensures.item.0 c.in-Some.ensures.lookup c.requires (omega (arith, c.if-closings-first.true, c.from.ensures))

pub returns-in-Some-pop_front-clause-in_turn : goal.returns-in-Some-pop_front-clause-in_turn
returns-in-Some-pop_front-clause-in_turn g c = turn_popped c.args.closings (Some c.in-Some-pop_front.first) c.args.held.now.items c.pop_front.new.self.items c.in-Some-pop_front.ensures.items c.requires
