-- It stays a replica, reached by one step more.
use Rattle.std.proofs.Common.{map, subst}
use Rattle.calvin_types.specs.Deeds.{Did}
use Rattle.calvin_bench.specs.Steps.{step, grows}
use Rattle.calvin_bench.specs.Replicas.{part_of}
use Rattle.calvin_bench.specs.declared.step.Step.TheVariants.{Admit, Begin, Reads, Finish}
use Rattle.calvin_bench.proofs.RunReplicas.{stays_again, did_again}
use Rattle.calvin_bench.proofs.one_replica.OneReplica.step.Goals as goal

pub invariant_of-self : goal.invariant_of-self
invariant_of-self g c = stays_again g.A.App.meaning c.self.inside.count c.self.inside.order.items c.self.inside.partitions.len c.self.inside.partitions.items c.deref_mut.result.now c.admit.new.partitions c.deref_mut.ensures.len c.deref_mut.ensures.value c.admit.auto.partitions (Admit c.in-Admit.p) c.admit.result (subst (λ es. let old = map part_of c.deref_mut.result.now in Did (grows g.A.App.meaning es old (Admit c.in-Admit.p)) c.admit.result (step g.A.App.meaning es old (Admit c.in-Admit.p)) old (map part_of c.admit.new.partitions)) c.deref.ensures.value c.admit.ensures.did) g.met.A.App.lawful.writes_within_the_sets c.self.invariant c.admit.ensures.told

pub returns-in-Admit-clause-did : goal.returns-in-Admit-clause-did
returns-in-Admit-clause-did g c = did_again g.A.App.meaning c.self.inside.count c.self.inside.order.items c.self.inside.partitions.len c.self.inside.partitions.items c.deref_mut.result.now c.admit.new.partitions c.deref_mut.ensures.len c.deref_mut.ensures.value c.admit.auto.partitions (Admit c.in-Admit.p) c.admit.result (subst (λ es. let old = map part_of c.deref_mut.result.now in Did (grows g.A.App.meaning es old (Admit c.in-Admit.p)) c.admit.result (step g.A.App.meaning es old (Admit c.in-Admit.p)) old (map part_of c.admit.new.partitions)) c.deref.ensures.value c.admit.ensures.did) c.args.self.now c.self.view_is c.args.e c.in-Admit.is

pub invariant_of-self-in-Begin : goal.invariant_of-self-in-Begin
invariant_of-self-in-Begin g c = stays_again g.A.App.meaning c.self.inside.count c.self.inside.order.items c.self.inside.partitions.len c.self.inside.partitions.items c.deref_mut-in-Begin.result.now c.begin.new.partitions c.deref_mut-in-Begin.ensures.len c.deref_mut-in-Begin.ensures.value c.begin.auto.partitions (Begin c.in-Begin.p c.in-Begin.place) c.begin.result (c.begin.ensures.did c.self.inside.order.items) g.met.A.App.lawful.writes_within_the_sets c.self.invariant c.begin.ensures.told

pub returns-in-Begin-clause-did : goal.returns-in-Begin-clause-did
returns-in-Begin-clause-did g c = did_again g.A.App.meaning c.self.inside.count c.self.inside.order.items c.self.inside.partitions.len c.self.inside.partitions.items c.deref_mut-in-Begin.result.now c.begin.new.partitions c.deref_mut-in-Begin.ensures.len c.deref_mut-in-Begin.ensures.value c.begin.auto.partitions (Begin c.in-Begin.p c.in-Begin.place) c.begin.result (c.begin.ensures.did c.self.inside.order.items) c.args.self.now c.self.view_is c.args.e c.in-Begin.is

pub invariant_of-self-in-Reads : goal.invariant_of-self-in-Reads
invariant_of-self-in-Reads g c = stays_again g.A.App.meaning c.self.inside.count c.self.inside.order.items c.self.inside.partitions.len c.self.inside.partitions.items c.deref_mut-in-Reads.result.now c.receive.new.partitions c.deref_mut-in-Reads.ensures.len c.deref_mut-in-Reads.ensures.value c.receive.auto.partitions (Reads c.in-Reads.p c.in-Reads.from c.in-Reads.place) c.receive.result (c.receive.ensures.did c.self.inside.order.items) g.met.A.App.lawful.writes_within_the_sets c.self.invariant c.receive.ensures.told

pub returns-in-Reads-clause-did : goal.returns-in-Reads-clause-did
returns-in-Reads-clause-did g c = did_again g.A.App.meaning c.self.inside.count c.self.inside.order.items c.self.inside.partitions.len c.self.inside.partitions.items c.deref_mut-in-Reads.result.now c.receive.new.partitions c.deref_mut-in-Reads.ensures.len c.deref_mut-in-Reads.ensures.value c.receive.auto.partitions (Reads c.in-Reads.p c.in-Reads.from c.in-Reads.place) c.receive.result (c.receive.ensures.did c.self.inside.order.items) c.args.self.now c.self.view_is c.args.e c.in-Reads.is

pub invariant_of-self-in-Finish : goal.invariant_of-self-in-Finish
invariant_of-self-in-Finish g c = stays_again g.A.App.meaning c.self.inside.count c.self.inside.order.items c.self.inside.partitions.len c.self.inside.partitions.items c.deref_mut-in-Finish.result.now c.finish.new.partitions c.deref_mut-in-Finish.ensures.len c.deref_mut-in-Finish.ensures.value c.finish.auto.partitions (Finish c.in-Finish.p c.in-Finish.place) c.finish.result (c.finish.ensures.did c.self.inside.order.items) g.met.A.App.lawful.writes_within_the_sets c.self.invariant c.finish.ensures.told

pub returns-in-Finish-clause-did : goal.returns-in-Finish-clause-did
returns-in-Finish-clause-did g c = did_again g.A.App.meaning c.self.inside.count c.self.inside.order.items c.self.inside.partitions.len c.self.inside.partitions.items c.deref_mut-in-Finish.result.now c.finish.new.partitions c.deref_mut-in-Finish.ensures.len c.deref_mut-in-Finish.ensures.value c.finish.auto.partitions (Finish c.in-Finish.p c.in-Finish.place) c.finish.result (c.finish.ensures.did c.self.inside.order.items) c.args.self.now c.self.view_is c.args.e c.in-Finish.is
