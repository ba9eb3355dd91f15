use Rattle.std.proofs.Common.{◌≡◌, ◌+◌, ◌<◌, ◌++◌, suc, length, Err, IfErr, sym, ap, subst, ◌∙◌, length-append, arith}
use Rattle.std.proofs.lemmas.Result.{err_from_is_err_and}
use Rattle.calvin_types.specs.declared.fault.Fault.TheVariants.{OutOfMemory}
use Rattle.calvin_order.specs.Merged.{joined, numbered}
use Rattle.calvin_order.specs.Merging.{batch_at}
use Rattle.calvin_order.proofs.Segments.{numbered_behind, joined_longer}
use Rattle.calvin_order.proofs.held.Held.joined_segments.Goals as goal

pub returns-in_err-n-clause-refused : goal.returns-in_err-n-clause-refused
returns-in_err-n-clause-refused g c =
    let B = batch_at c.args.self.now.batches in
    let longer = joined_longer B c.args.epoch c.loop-group.group c.args.groups c.loop-group-test.true in
    let refused = c.in_err-n.ensures.refused in
    let failed = err_from_is_err_and c.from_residual.result c.from_residual.ensures.1 in
    subst (λ r. IfErr r (λ fault. (fault ≡ OutOfMemory) × (0 < length (joined B c.args.epoch c.args.groups)))) (sym (failed.1 ∙ ap Err failed.2)) (refused.0, let some = refused.1 in omega (arith, longer, some))

pub loop-group-preserved : goal.loop-group-preserved
loop-group-preserved g c =
    let B = batch_at c.args.self.now.batches in
    let e = c.args.epoch in
    let k = c.loop-group.group in
    let batch = B (record { epoch = e; group = k }) in
    let there = c.loop-group.invariant in
    let next : suc k ≡ k + 1 = omega arith in
    record {
      so_far =
          c.in_ok-n.ensures.segments
          ∙ ap (λ l. l ++ numbered e c.loop-group.n batch) there.so_far
          ∙ ap (λ m. numbered e 0 (joined B e k) ++ numbered e m batch) there.number
          ∙ sym (numbered_behind e (joined B e k) batch)
          ∙ ap (λ m. numbered e 0 (joined B e m)) next;
      number = c.in_ok-n.ensures.next ∙ ap (λ m. m + length batch) there.number ∙ sym (length-append (joined B e k) batch) ∙ ap (λ m. length (joined B e m)) next;
      fewer = omega (arith, there.fewer, c.in_ok-n.ensures.fewer, c.in_ok-n.ensures.next);
      few = omega (arith, there.few, c.in_ok-n.ensures.few);
    }
