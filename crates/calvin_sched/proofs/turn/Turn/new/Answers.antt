use Rattle.std.proofs.Common.{length, sym, ap, ◌∙◌, arith}
use Rattle.calvin_sched.specs.Scheduling.{gathered}
use Rattle.calvin_sched.proofs.Gathering.{no_rows}
use Rattle.calvin_sched.proofs.turn.Turn.new.Goals as goal

pub invariant_of-result : goal.invariant_of-result
invariant_of-result g c =
    let reads = c.args.request.sets.reads in
    let made = c.in_ok-reserve.ensures.ok in
    let none = ap (λ l. l.rows) made ∙ ap (λ l. l.rows) c.new-served.ensures in (
      (λ i. gathered (λ _. none i) reads) ∙ no_rows reads ∙ sym none,
      omega (arith, ap (λ l. l.room) made, ap (λ r. length r.sets.reads) c.get.ensures, c.len.ensures.len),
    )
