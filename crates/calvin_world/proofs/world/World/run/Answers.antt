-- Each event leads on; and what holds of every list of events holds of these, after those that led here.
use Rattle.std.proofs.Common.{rules, subst}
use Rattle.calvin_world.specs.RunningWorlds.{IsReached}
use Rattle.calvin_world.proofs.InCode.{led_on, reached_by, reached_agrees, reached_serial, reached_points, reached_alike}
use Rattle.calvin_world.proofs.SettledHistories.{stays_chosen, stays_by, stays_here, ever_stays, code_submitted, code_before, code_in_time, code_later}
use Rattle.calvin_world.proofs.world.World.run.Goals as goal

pub loop-event-preserved : goal.loop-event-preserved
loop-event-preserved g c = record {
  room = search rules;
  counted = search rules;
  led = led_on _ c.args.self.now c.args.events.now c.loop-event.event-index _ c.loop-event-test.true c.event-item.is _ _ c.loop-event.invariant.led _ _ _ c.step.ensures.step c.outcome_of.ensures _ c.push_reserved.ensures.items;
}

pub returns-in_err-outcomes-clause-agrees : goal.returns-in_err-outcomes-clause-agrees
returns-in_err-outcomes-clause-agrees g c = reached_agrees _ g.met.A.App.lawful.writes_within_the_sets c.args.self.now (subst (λ w. IsReached g.A.App.meaning w) c.self.view_is c.self.invariant.1)

pub returns-in_err-outcomes-clause-serial : goal.returns-in_err-outcomes-clause-serial
returns-in_err-outcomes-clause-serial g c = reached_serial _ g.met.A.App.lawful.writes_within_the_sets c.args.self.now (subst (λ w. IsReached g.A.App.meaning w) c.self.view_is c.self.invariant.1)

pub returns-in_err-outcomes-clause-points : goal.returns-in_err-outcomes-clause-points
returns-in_err-outcomes-clause-points g c = reached_points _ g.met.A.App.lawful.writes_within_the_sets c.args.self.now (subst (λ w. IsReached g.A.App.meaning w) c.self.view_is c.self.invariant.1)

pub returns-in_err-outcomes-clause-alike : goal.returns-in_err-outcomes-clause-alike
returns-in_err-outcomes-clause-alike g c = reached_alike _ g.met.A.App.lawful.writes_within_the_sets c.args.self.now (subst (λ w. IsReached g.A.App.meaning w) c.self.view_is c.self.invariant.1)

pub returns-clause-agrees : goal.returns-clause-agrees
returns-clause-agrees g c = reached_agrees _ g.met.A.App.lawful.writes_within_the_sets _ (reached_by _ c.args.self.now (subst (λ w. IsReached g.A.App.meaning w) c.self.view_is c.self.invariant.1) _ _ _ c.loop-event.invariant.led)

pub returns-clause-serial : goal.returns-clause-serial
returns-clause-serial g c = reached_serial _ g.met.A.App.lawful.writes_within_the_sets _ (reached_by _ c.args.self.now (subst (λ w. IsReached g.A.App.meaning w) c.self.view_is c.self.invariant.1) _ _ _ c.loop-event.invariant.led)

pub returns-clause-points : goal.returns-clause-points
returns-clause-points g c = reached_points _ g.met.A.App.lawful.writes_within_the_sets _ (reached_by _ c.args.self.now (subst (λ w. IsReached g.A.App.meaning w) c.self.view_is c.self.invariant.1) _ _ _ c.loop-event.invariant.led)

pub returns-clause-alike : goal.returns-clause-alike
returns-clause-alike g c = reached_alike _ g.met.A.App.lawful.writes_within_the_sets _ (reached_by _ c.args.self.now (subst (λ w. IsReached g.A.App.meaning w) c.self.view_is c.self.invariant.1) _ _ _ c.loop-event.invariant.led)

pub returns-in_err-outcomes-clause-stays : goal.returns-in_err-outcomes-clause-stays
returns-in_err-outcomes-clause-stays g c = stays_here _ g.met.A.App.lawful.writes_within_the_sets c.args.self.now (subst (λ w. IsReached g.A.App.meaning w) c.self.view_is c.self.invariant.1)

pub returns-in_err-outcomes-clause-beginnings : goal.returns-in_err-outcomes-clause-beginnings
returns-in_err-outcomes-clause-beginnings g c = λ v first rest. stays_chosen _ g.met.A.App.lawful.writes_within_the_sets v (reached_by _ c.args.self.now (subst (λ w. IsReached g.A.App.meaning w) c.self.view_is c.self.invariant.1) first.0 first.1 v first.2) _ rest

pub returns-in_err-outcomes-clause-reached : goal.returns-in_err-outcomes-clause-reached
returns-in_err-outcomes-clause-reached g c = subst (λ w. IsReached g.A.App.meaning w) c.self.view_is c.self.invariant.1

pub returns-in_err-outcomes-clause-ever : goal.returns-in_err-outcomes-clause-ever
returns-in_err-outcomes-clause-ever g c = ever_stays _ g.met.A.App.lawful.writes_within_the_sets c.args.self.now (subst (λ w. IsReached g.A.App.meaning w) c.self.view_is c.self.invariant.1)

pub returns-in_err-outcomes-clause-submitted : goal.returns-in_err-outcomes-clause-submitted
returns-in_err-outcomes-clause-submitted g c = code_submitted _ g.met.A.App.lawful.writes_within_the_sets c.args.self.now (subst (λ w. IsReached g.A.App.meaning w) c.self.view_is c.self.invariant.1)

pub returns-in_err-outcomes-clause-before : goal.returns-in_err-outcomes-clause-before
returns-in_err-outcomes-clause-before g c = code_before _ g.met.A.App.lawful.writes_within_the_sets c.args.self.now (subst (λ w. IsReached g.A.App.meaning w) c.self.view_is c.self.invariant.1)

pub returns-in_err-outcomes-clause-in_time : goal.returns-in_err-outcomes-clause-in_time
returns-in_err-outcomes-clause-in_time g c = code_in_time _ g.met.A.App.lawful.writes_within_the_sets c.args.self.now (subst (λ w. IsReached g.A.App.meaning w) c.self.view_is c.self.invariant.1)

pub returns-in_err-outcomes-clause-later : goal.returns-in_err-outcomes-clause-later
returns-in_err-outcomes-clause-later g c = code_later _ g.met.A.App.lawful.writes_within_the_sets c.args.self.now (subst (λ w. IsReached g.A.App.meaning w) c.self.view_is c.self.invariant.1)

pub returns-clause-stays : goal.returns-clause-stays
returns-clause-stays g c = stays_by _ g.met.A.App.lawful.writes_within_the_sets c.args.self.now (subst (λ w. IsReached g.A.App.meaning w) c.self.view_is c.self.invariant.1) _ _ _ c.loop-event.invariant.led

pub returns-clause-beginnings : goal.returns-clause-beginnings
returns-clause-beginnings g c = λ v first rest. stays_chosen _ g.met.A.App.lawful.writes_within_the_sets v (reached_by _ c.args.self.now (subst (λ w. IsReached g.A.App.meaning w) c.self.view_is c.self.invariant.1) first.0 first.1 v first.2) _ rest

pub returns-clause-reached : goal.returns-clause-reached
returns-clause-reached g c = reached_by _ c.args.self.now (subst (λ w. IsReached g.A.App.meaning w) c.self.view_is c.self.invariant.1) _ _ _ c.loop-event.invariant.led

pub returns-clause-ever : goal.returns-clause-ever
returns-clause-ever g c = ever_stays _ g.met.A.App.lawful.writes_within_the_sets _ (reached_by _ c.args.self.now (subst (λ w. IsReached g.A.App.meaning w) c.self.view_is c.self.invariant.1) _ _ _ c.loop-event.invariant.led)

pub returns-clause-submitted : goal.returns-clause-submitted
returns-clause-submitted g c = code_submitted _ g.met.A.App.lawful.writes_within_the_sets _ (reached_by _ c.args.self.now (subst (λ w. IsReached g.A.App.meaning w) c.self.view_is c.self.invariant.1) _ _ _ c.loop-event.invariant.led)

pub returns-clause-before : goal.returns-clause-before
returns-clause-before g c = code_before _ g.met.A.App.lawful.writes_within_the_sets _ (reached_by _ c.args.self.now (subst (λ w. IsReached g.A.App.meaning w) c.self.view_is c.self.invariant.1) _ _ _ c.loop-event.invariant.led)

pub returns-clause-in_time : goal.returns-clause-in_time
returns-clause-in_time g c = code_in_time _ g.met.A.App.lawful.writes_within_the_sets _ (reached_by _ c.args.self.now (subst (λ w. IsReached g.A.App.meaning w) c.self.view_is c.self.invariant.1) _ _ _ c.loop-event.invariant.led)

pub returns-clause-later : goal.returns-clause-later
returns-clause-later g c = code_later _ g.met.A.App.lawful.writes_within_the_sets _ (reached_by _ c.args.self.now (subst (λ w. IsReached g.A.App.meaning w) c.self.view_is c.self.invariant.1) _ _ _ c.loop-event.invariant.led)
