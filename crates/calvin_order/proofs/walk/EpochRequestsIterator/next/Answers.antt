use Rattle.std.proofs.Common.{◌+◌, ◌≤◌, ◌∙◌, [], arith, length, is_some, sym, ap, subst}
use Rattle.std.specs.Option.{unwrap_or}
use Rattle.calvin_order.specs.Walking.{left_of}
use Rattle.std.proofs.lemmas.Bool.{eqb-true, true≢false}
use Rattle.calvin_order.proofs.Walks.{next_group, Stands, stands_at_turn, given, walks_on, not_none}
use Rattle.calvin_order.proofs.walk.EpochRequestsIterator.next.Given.{Over}
use Rattle.calvin_order.proofs.walk.EpochRequestsIterator.next.Goals as goal
use Rattle.calvin_order.proofs.walk.EpochRequestsIterator.next.Goals.{After-index-rest-0, then-is_empty+in_ok-self-inside, else-is_empty, then-loop-batch-test+else-self, else-loop-batch-test}

pub loop-batch-preserved : goal.loop-batch-preserved
loop-batch-preserved g c =
    let s = c.loop-batch.self-inside in
    let walk = c.loop-batch.invariant.walk in
    let none = eqb-true (length s.rest.now) 0 (sym c.is_empty.ensures ∙ c.loop-batch-test.true) in
    let part = c.first_part-self-inside in
    let B = g.S.BatchSource.assignment s.source.now in
    record {
      left = ap (λ w. left_of B (record { epoch = s.slot.epoch; group = s.slot.group + 1 }) s.groups w s.n part.result.now (unwrap_or part.new.turns [])) part.ensures.woven
          ∙ next_group B (is_some s.turns) s.slot.epoch s.slot.group s.groups s.n s.rest.now c.requests-batch.result.now part.result.now (unwrap_or s.turns []) (unwrap_or part.new.turns []) none c.if-self.true c.requests-batch.ensures.requests part.ensures.left
          ∙ c.loop-batch.invariant.left;
      walk = record {
        few = walk.few;
        within = omega (arith, walk.within, c.if-self.true);
        counted = omega (arith, walk.counted, c.requests-batch.ensures.at_most, part.ensures.count);
        waiting_few = omega (arith, walk.waiting_few, part.ensures.few);
      };
    }

stands : (g : Over) (c : After-index-rest-0 g) → Stands (g.S.BatchSource.assignment c.if-is_empty.self-inside.source.now) c.args.self.now c.if-is_empty.self-inside.slot c.if-is_empty.self-inside.groups (is_some c.if-is_empty.self-inside.turns) c.if-is_empty.self-inside.n c.if-is_empty.self-inside.rest.now (unwrap_or c.if-is_empty.self-inside.turns [])
stands g c =
    let s = c.loop-batch.self-inside in
    let B = g.S.BatchSource.assignment s.source.now in
    elim c.if-is_empty.branch [
      | then-is_empty+in_ok-self-inside w ↦
          let none = eqb-true (length s.rest.now) 0 (sym c.is_empty-2.ensures ∙ w.if-is_empty.true) in
          let past : s.groups ≤ s.slot.group = elim c.loop-batch-test.branch [
            | then-loop-batch-test+else-self v ↦ v.if-self.false
            | else-loop-batch-test v ↦ absurd (true≢false (sym w.if-is_empty.true ∙ c.is_empty-2.ensures ∙ sym c.is_empty.ensures ∙ v.loop-batch-test.false))
          ] in
          subst (λ x. Stands (g.S.BatchSource.assignment x.source.now) c.args.self.now x.slot x.groups (is_some x.turns) x.n x.rest.now (unwrap_or x.turns [])) (sym w.self-inside-is)
          (subst (λ b. Stands B c.args.self.now s.slot s.groups b s.n w.in_ok-self-inside.field-0.now (unwrap_or w.next_turn.new.turns [])) (sym w.next_turn.ensures.woven)
          (stands_at_turn B c.args.self.now s.slot s.groups (is_some s.turns) s.n s.rest.now w.in_ok-self-inside.field-0.now (unwrap_or s.turns []) (unwrap_or w.next_turn.new.turns []) c.loop-batch.invariant.left c.loop-batch.invariant.walk none past w.in_ok-self-inside.ensures.turn))
      | else-is_empty w ↦
          subst (λ x. Stands (g.S.BatchSource.assignment x.source.now) c.args.self.now x.slot x.groups (is_some x.turns) x.n x.rest.now (unwrap_or x.turns [])) (sym w.self-inside-is)
          (record { left = c.loop-batch.invariant.left; walk = c.loop-batch.invariant.walk; some = not_none (length s.rest.now) (sym c.is_empty-2.ensures ∙ w.if-is_empty.false) })
    ]

pub invariant_of-self-2 : goal.invariant_of-self-2
invariant_of-self-2 g c =
    let s = c.if-is_empty.self-inside in
    walks_on (g.S.BatchSource.assignment s.source.now) c.args.self.now s.slot s.groups (is_some s.turns) s.n s.rest.now (unwrap_or s.turns []) (stands g c)

pub returns-clause-steps : goal.returns-clause-steps
returns-clause-steps g c =
    let s = c.if-is_empty.self-inside in
    given (g.S.BatchSource.assignment s.source.now) c.args.self.now s.slot s.groups (is_some s.turns) s.n s.rest.now (unwrap_or s.turns []) c.index-rest-0.result (stands g c) c.index-rest-0.is

pub returns-clause-goes : goal.returns-clause-goes
returns-clause-goes g c =
    let shorter = ap length (returns-clause-steps g c) in
    record { on = λ _. (tt, tt, omega (arith, shorter)); keeps = tt; rests = λ _. tt }
