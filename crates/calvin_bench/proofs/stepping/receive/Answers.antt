-- It is the deed of the partition there, with what the other one served.
use Rattle.std.proofs.Common.{false, get_or, map, sym, subst, ◌∙◌}
use Rattle.std.specs.Prelude.{slice_get}
use Rattle.std.proofs.lemmas.Option.{slice_get-get_or}
use Rattle.std.proofs.lemmas.Result.{err_from_is_err_and}
use Rattle.calvin_types.specs.Deeds.{Did}
use Rattle.calvin_bench.specs.Steps.{receive_from}
use Rattle.calvin_bench.specs.Replicas.{part_of}
use Rattle.calvin_bench.proofs.SteppedSeats.{stepped_quiet, refused_quiet, not_awaited, not_served, served_rows, told_one}
use Rattle.calvin_bench.proofs.stepping.receive.Goals as goal

pub returns-then-not-awaits-clause-did : goal.returns-then-not-awaits-clause-did
returns-then-not-awaits-clause-did g c order =
    let seats = c.args.partitions.now in
    let giver = slice_get-get_or seats c.args.from c.index-partitions-at.result c.if-giver-partitions.false in
    let there = slice_get-get_or seats c.args.p c.index-partitions-at.result c.if-at-partitions.false in
    let here = get_or seats c.args.p c.index-partitions-at.result in
    refused_quiet seats c.args.p _ c.index-partitions-at.result there (receive_from {Reply = g.row.A-Reply.Denot} c.args.from c.args.place (slice_get (map part_of seats) c.args.from)) _
    (not_awaited seats c.args.from c.args.place (part_of here) _ giver (sym c.awaits.ensures ∙ c.if-not-awaits.true))

pub returns-in_err-rows-clause-did : goal.returns-in_err-rows-clause-did
returns-in_err-rows-clause-did g c order =
    let p = err_from_is_err_and c.from_residual.result c.from_residual.ensures.1 in
    let seats = c.args.partitions.now in
    let giver = slice_get-get_or seats c.args.from c.index-partitions-giver.result c.if-giver-partitions.false in
    let there = slice_get-get_or seats c.args.p c.index-partitions-at.result c.if-at-partitions.false in
    let here = get_or seats c.args.p c.index-partitions-at.result in
    rw (p.1, p.2) (refused_quiet seats c.args.p _ c.index-partitions-at.result there (receive_from {Reply = g.row.A-Reply.Denot} c.args.from c.args.place (slice_get (map part_of seats) c.args.from)) _
    (not_served seats c.args.from c.args.place (part_of here) _ giver _ c.in_err-rows.ensures (sym c.awaits.ensures ∙ c.if-not-awaits.false)))

pub returns-clause-did : goal.returns-clause-did
returns-clause-did g c order =
    let seats = c.args.partitions.now in
    let giver = slice_get-get_or seats c.args.from c.index-partitions-giver.result c.if-giver-partitions.false in
    let there = slice_get-get_or seats c.args.p c.index-partitions-at-2.result c.if-at-partitions.false in
    let here = get_or seats c.args.p c.index-partitions-at-2.result in
    stepped_quiet seats c.args.p _ c.receive.new.self there (receive_from {Reply = g.row.A-Reply.Denot} c.args.from c.args.place (slice_get (map part_of seats) c.args.from)) c.receive.result
    (subst (λ d. Did false c.receive.result d (part_of here) (part_of c.receive.new.self)) (sym (served_rows seats c.args.from c.args.place (part_of here) _ giver _ c.in_ok-rows.ensures)) c.receive.ensures.did)

pub returns-clause-told : goal.returns-clause-told
returns-clause-told g c = told_one c.args.partitions.now c.args.p _ c.receive.new.self (slice_get-get_or c.args.partitions.now c.args.p c.index-partitions-at-2.result c.if-at-partitions.false) c.receive.ensures.told
