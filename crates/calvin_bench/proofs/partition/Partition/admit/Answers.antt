use Rattle.std.proofs.Common.{refl, ap}
use Rattle.std.proofs.lemmas.Option.{slice_get_read}
use Rattle.std.proofs.lemmas.Result.{err_from_is_err_and}
use Rattle.calvin_bench.proofs.Seats.{admitted_ok, admitted_err}
use Rattle.calvin_bench.proofs.partition.Partition.admit.Goals as goal

pub returns-in_err-admit-clause-did : goal.returns-in_err-admit-clause-did
returns-in_err-admit-clause-did g c =
    let p = err_from_is_err_and c.from_residual.result c.from_residual.ensures.1 in
    let there = slice_get_read c.args.order.now _ c.self.inside.admitted c.in-Some.field-0.now refl c.in-Some.ensures.lookup.3.0 c.in-Some.ensures.lookup.1 in
    rw (p.1, p.2) (admitted_err c.self.inside.scheduler c.admit.new.self c.self.inside.admitted _ c.self.view_is (ap (λ s. s.here) c.in_err-admit.ensures.rest) g.row.A-Reply.Denot c.args.order.now c.in-Some.field-0.now there _ c.in_err-admit.ensures.did)

pub returns-clause-did : goal.returns-clause-did
returns-clause-did g c =
    let there = slice_get_read c.args.order.now _ c.self.inside.admitted c.in-Some.field-0.now refl c.in-Some.ensures.lookup.3.0 c.in-Some.ensures.lookup.1 in
    admitted_ok c.self.inside.scheduler c.admit.new.self c.self.inside.admitted _ c.self.view_is (ap (λ s. s.here) c.in_ok-admit.ensures.rest) g.row.A-Reply.Denot c.args.order.now c.in-Some.field-0.now there c.in_ok-admit.field-0 c.in_ok-admit.ensures.did
