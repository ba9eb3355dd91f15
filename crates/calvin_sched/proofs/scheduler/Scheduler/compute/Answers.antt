use Rattle.std.proofs.Common.{◌≡◌, sym, ap, ◌∙◌}
use Rattle.calvin_app.specs.Serial.{answer_on, writes_on}
use Rattle.calvin_sched.specs.Scheduling.{whole_view}
use Rattle.calvin_sched.proofs.scheduler.Scheduler.compute.Goals as goal
use Rattle.calvin_sched.proofs.scheduler.Scheduler.compute.Goals.{then-reads_here_alone, else-reads_here_alone}

pub returns-clause-ok : goal.returns-clause-ok
returns-clause-ok g c =
    let m = g.A.App.meaning in
    let x = c.in_ok-turn.turn.now.turn in
    let told = c.txn-txn.ensures in
    let whole = ap (λ v. whole_view v.here x) c.self.view_is in
    let seen : c.if-reads_here_alone.view ≡ whole_view c.args.self.now.here x = elim c.if-reads_here_alone.branch [
      | then-reads_here_alone w ↦ w.view-is ∙ w.put_served.ensures ∙ sym (c.reads_here_alone.ensures w.if-reads_here_alone.true) ∙ whole
      | else-reads_here_alone w ↦ w.view-is ∙ w.put_whole.ensures ∙ whole
    ] in (
      record { place = c.args.place; txn = x.request; view = whole_view c.args.self.now.here x },
      c.in_ok-turn.ensures.ok,
      ap (λ t. (t.id, t.attempt)) told,
      c.run_on.ensures.answer ∙ (λ i. answer_on m (told i) (seen i)),
      c.run_on.ensures.writes ∙ (λ i. writes_on m (told i) (seen i)),
    )
