-- Each event leads on; and what holds of every list of events holds of these, after those that led here.
use Rattle.std.proofs.Common.{rules}
use Rattle.calvin_synod_group.proofs.Reached.{led_on, still_one, run_gives, run_one, run_begins}
use Rattle.calvin_synod_group.proofs.Runs.{chosen_stays}
use Rattle.calvin_synod_group.proofs.group.Group.run.Goals as goal

pub returns-in_err-outcomes-clause-one : goal.returns-in_err-outcomes-clause-one
returns-in_err-outcomes-clause-one g c = still_one _ _ c.self.invariant.1 _ c.self.view_is

pub loop-event-preserved : goal.loop-event-preserved
loop-event-preserved g c = record {
  room = search rules;
  counted = search rules;
  led = led_on c.args.self.now c.args.events.now c.loop-event.event-index _ c.loop-event-test.true c.event-item.is _ _ c.loop-event.invariant.led _ _ _ c.happen.ensures c.outcome_of.ensures _ c.push_reserved.ensures.items;
}

pub returns-clause-given : goal.returns-clause-given
returns-clause-given g c = run_gives _ _ c.self.invariant.1 _ c.self.view_is c.args.events.now _ c.loop-event-test.false _ _ c.loop-event.invariant.led

pub returns-clause-one : goal.returns-clause-one
returns-clause-one g c = run_one _ _ c.self.invariant.1 _ c.self.view_is _ _ _ c.loop-event.invariant.led

pub returns-clause-stays : goal.returns-clause-stays
returns-clause-stays g c = chosen_stays _ _ _ _ c.loop-event.invariant.led

pub returns-clause-beginnings : goal.returns-clause-beginnings
returns-clause-beginnings g c = run_begins _ _ c.self.invariant.1 _ c.self.view_is c.args.events.now _ c.loop-event-test.false _ _ c.loop-event.invariant.led
