use Rattle.std.proofs.Common.{◌≡◌, true, false, Some, ◌↔◌, sym, ap, subst, ◌∙◌}
use Rattle.std.proofs.lemmas.Bool.{false≢true}
use Rattle.calvin_types.specs.Participants.{is_active}
use Rattle.calvin_lock.specs.Ready.{IsReady}
use Rattle.calvin_sched.specs.Scheduling.{is_finished, turn_at}
use Rattle.calvin_sched.specs.Steps.{is_ready}
use Rattle.calvin_sched.proofs.Begins.{not_yet}
use Rattle.calvin_sched.proofs.ReadyHere.{ready_of}
use Rattle.calvin_sched.proofs.scheduler.Scheduler.ready_to_begin.Goals as goal

pub returns-then-not-is_ready-clause-refused : goal.returns-then-not-is_ready-clause-refused
returns-then-not-is_ready-clause-refused g c =
    let x = c.in-Some.turn.now.turn in
    let test = subst (λ v. turn_at v.scheduling c.args.place ≡ Some x → is_finished x.phase ≡ false → IsReady (g.L.Locks.kept c.self.inside.locks).requested c.args.place ↔ (is_ready v.here v.scheduling c.args.place x.request ≡ true))
    c.self.view_is (λ there waits. ready_of _ _ _ _ c.self.invariant.0 c.args.place x there waits) c.in-Some.ensures (ap is_finished (sym c.in-Waiting.ensures)) in
    not_yet c.args.self.now.here c.args.self.now.scheduling c.args.place x c.in-Some.ensures (sym c.in-Waiting.ensures)
    (λ ready. false≢true (sym c.if-not-is_ready.true ∙ c.is_ready.ensures.1 (test.1 ready)))

pub returns-clause-ok : goal.returns-clause-ok
returns-clause-ok g c =
    let x = c.in-Some.turn.now.turn in
    let test = subst (λ v. turn_at v.scheduling c.args.place ≡ Some x → is_finished x.phase ≡ false → IsReady (g.L.Locks.kept c.self.inside.locks).requested c.args.place ↔ (is_ready v.here v.scheduling c.args.place x.request ≡ true))
    c.self.view_is (λ there waits. ready_of _ _ _ _ c.self.invariant.0 c.args.place x there waits) c.in-Some.ensures (ap is_finished (sym c.in-Waiting.ensures)) in (
      x,
      c.in-Some.ensures,
      sym c.in-Waiting.ensures,
      test.0 (c.is_ready.ensures.0 c.if-not-is_ready.false),
      c.is_active.ensures ∙ (λ i. is_active (c.self.view_is i).here (c.txn.ensures i)),
    )
