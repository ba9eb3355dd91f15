-- Each step leads on; and what holds of every list of steps holds of these, after those that led here.
use Rattle.std.proofs.Common.{rules, ap, ◌∙◌}
use Rattle.calvin_bench.specs.Replicas.{Replica}
use Rattle.calvin_bench.proofs.RunReplicas.{led_on, led_all, runs_again, begins_again}
use Rattle.calvin_bench.proofs.one_replica.OneReplica.run.Goals as goal

pub loop-step-preserved : goal.loop-step-preserved
loop-step-preserved g c = record {
  room = search rules;
  counted = search rules;
  led = led_on g.A.App.meaning c.args.self.now.order c.loop-step.self.order c.args.self.now.parts c.loop-step.self.parts c.step.new.self.parts c.args.steps.now c.loop-step.step-index _ c.loop-step.outcomes.items _ c.step.result c.loop-step-test.true (ap (λ r. r.order) c.loop-step.invariant.same) c.loop-step.invariant.led c.step.ensures.did c.push_reserved.ensures.items;
  same = c.step.ensures.same ∙ ap (λ (r : Replica g.row.A-Args.Denot g.row.A-Row.Denot). record r { parts = c.step.new.self.parts }) c.loop-step.invariant.same;
}

pub returns-clause-ran : goal.returns-clause-ran
returns-clause-ran g c = led_all g.A.App.meaning c.args.self.now.order c.args.self.now.parts c.loop-step.self.parts c.args.steps.now c.loop-step.step-index c.loop-step.outcomes.items c.loop-step-test.false c.loop-step.invariant.led

pub returns-clause-serially : goal.returns-clause-serially
returns-clause-serially g c = runs_again g.A.App.meaning g.met.A.App.lawful.writes_within_the_sets c.self.inside.count c.self.inside.order.items c.self.inside.partitions.items c.self.invariant c.args.self.now c.self.view_is c.args.steps.now c.loop-step.step-index c.loop-step.outcomes.items c.loop-step.self.parts c.loop-step-test.false c.loop-step.invariant.led

pub returns-clause-beginnings : goal.returns-clause-beginnings
returns-clause-beginnings g c = begins_again g.A.App.meaning g.met.A.App.lawful.writes_within_the_sets c.self.inside.count c.self.inside.order.items c.self.inside.partitions.items c.self.invariant c.args.self.now c.self.view_is c.args.steps.now c.loop-step.step-index c.loop-step.outcomes.items c.loop-step.self.parts c.loop-step-test.false c.loop-step.invariant.led
