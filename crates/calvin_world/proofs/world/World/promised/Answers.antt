-- What is promised of a world that is reached.
use Rattle.std.proofs.Common.{subst}
use Rattle.calvin_world.specs.RunningWorlds.{IsReached}
use Rattle.calvin_world.proofs.InCode.{steady, reached_agrees, reached_serial, reached_points, reached_alike}
use Rattle.calvin_world.proofs.SettledHistories.{ever_stays, code_submitted, code_before, code_in_time, code_later}
use Rattle.calvin_world.proofs.world.World.promised.Goals as goal

pub returns-clause-settled : goal.returns-clause-settled
returns-clause-settled g c = steady _ c.args.self.now (subst (λ w. IsReached g.A.App.meaning w) c.self.view_is c.self.invariant.1)

pub returns-clause-agrees : goal.returns-clause-agrees
returns-clause-agrees g c = reached_agrees _ g.met.A.App.lawful.writes_within_the_sets c.args.self.now (subst (λ w. IsReached g.A.App.meaning w) c.self.view_is c.self.invariant.1)

pub returns-clause-serial : goal.returns-clause-serial
returns-clause-serial g c = reached_serial _ g.met.A.App.lawful.writes_within_the_sets c.args.self.now (subst (λ w. IsReached g.A.App.meaning w) c.self.view_is c.self.invariant.1)

pub returns-clause-points : goal.returns-clause-points
returns-clause-points g c = reached_points _ g.met.A.App.lawful.writes_within_the_sets c.args.self.now (subst (λ w. IsReached g.A.App.meaning w) c.self.view_is c.self.invariant.1)

pub returns-clause-alike : goal.returns-clause-alike
returns-clause-alike g c = reached_alike _ g.met.A.App.lawful.writes_within_the_sets c.args.self.now (subst (λ w. IsReached g.A.App.meaning w) c.self.view_is c.self.invariant.1)

pub returns-clause-reached : goal.returns-clause-reached
returns-clause-reached g c = subst (λ w. IsReached g.A.App.meaning w) c.self.view_is c.self.invariant.1

pub returns-clause-ever : goal.returns-clause-ever
returns-clause-ever g c = ever_stays _ g.met.A.App.lawful.writes_within_the_sets c.args.self.now (subst (λ w. IsReached g.A.App.meaning w) c.self.view_is c.self.invariant.1)

pub returns-clause-submitted : goal.returns-clause-submitted
returns-clause-submitted g c = code_submitted _ g.met.A.App.lawful.writes_within_the_sets c.args.self.now (subst (λ w. IsReached g.A.App.meaning w) c.self.view_is c.self.invariant.1)

pub returns-clause-before : goal.returns-clause-before
returns-clause-before g c = code_before _ g.met.A.App.lawful.writes_within_the_sets c.args.self.now (subst (λ w. IsReached g.A.App.meaning w) c.self.view_is c.self.invariant.1)

pub returns-clause-in_time : goal.returns-clause-in_time
returns-clause-in_time g c = code_in_time _ g.met.A.App.lawful.writes_within_the_sets c.args.self.now (subst (λ w. IsReached g.A.App.meaning w) c.self.view_is c.self.invariant.1)

pub returns-clause-later : goal.returns-clause-later
returns-clause-later g c = code_later _ g.met.A.App.lawful.writes_within_the_sets c.args.self.now (subst (λ w. IsReached g.A.App.meaning w) c.self.view_is c.self.invariant.1)
