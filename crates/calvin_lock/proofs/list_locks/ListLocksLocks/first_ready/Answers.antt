use Rattle.std.proofs.Common.{Some, None, vec_len, sym, subst, ◌∙◌, arith}
use Rattle.std.proofs.lemmas.Bool.{false≢true}
use Rattle.std.proofs.lemmas.Option.{slice_get_read}
use Rattle.calvin_lock.specs.Ready.{IsFirstReady}
use Rattle.calvin_lock.specs.ListOrder.{IsFree}
use Rattle.calvin_lock.proofs.Requests.{first_at, none_at, none_next}
use Rattle.calvin_lock.proofs.list_locks.ListLocksLocks.first_ready.Goals as goal
use Rattle.calvin_lock.proofs.list_locks.ListLocksLocks.first_ready.Goals.{else-is_past-via-then-is_past+else-is_free, else-is_past-via-else-is_past}

pub returns-then-is_free : goal.returns-then-is_free
returns-then-is_free c =
    let here = slice_get_read c.self.inside.unreleased.items (vec_len c.self.inside.unreleased) c.loop-i.i c.index.result.now c.self.inside.unreleased.ok.0 (omega (arith, c.loop-i-test.true, c.len-i-end.ensures)) c.index.ensures in
    let free = subst (λ es. IsFree es c.loop-i.i) c.deref.ensures.value (c.is_free.ensures.0 c.if-is_free.true) in
    subst (λ l. IsFirstReady l.requested c.args.after (Some c.index.result.now.0)) c.self.view_is
    (first_at c.self.inside.unreleased.items c.self.invariant.rising c.args.after c.loop-i.i c.index.result.now here (c.is_past.ensures.0 c.if-is_past.true) free c.loop-i.invariant)

pub loop-i-preserved : goal.loop-i-preserved
loop-i-preserved c =
    let here = slice_get_read c.self.inside.unreleased.items (vec_len c.self.inside.unreleased) c.loop-i.i c.index.result.now c.self.inside.unreleased.ok.0 (omega (arith, c.loop-i-test.true, c.len-i-end.ensures)) c.index.ensures in
    none_next c.self.inside.unreleased.items c.self.invariant.rising c.args.after c.loop-i.i c.index.result.now here (λ past free. elim c.else-is_past.branch [
      | else-is_past-via-then-is_past+else-is_free w ↦ false≢true (sym w.if-is_free.false ∙ w.is_free.ensures.1 (subst (λ es. IsFree es c.loop-i.i) (sym w.deref.ensures.value) free))
      | else-is_past-via-else-is_past w ↦ false≢true (sym w.if-is_past.false ∙ c.is_past.ensures.1 past)
    ]) c.loop-i.invariant

pub returns : goal.returns
returns c =
    subst (λ l. IsFirstReady l.requested c.args.after None) c.self.view_is
    (none_at c.self.inside.unreleased.items c.self.invariant.rising c.args.after c.loop-i.i (omega (arith, c.loop-i-test.false, c.len-i-end.ensures, c.self.inside.unreleased.ok.0)) c.loop-i.invariant)
