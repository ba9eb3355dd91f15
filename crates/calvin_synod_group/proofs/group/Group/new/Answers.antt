-- Each new replica has the next number; together they are a group at its opening.
use Rattle.std.proofs.Common.{map, ap, ◌∙◌, arith}
use Rattle.std.specs.List.{range_with_len}
use Rattle.calvin_synod_group.proofs.Opened.{at_first, one_more_made, made_group, made_opening, opening_reached}
use Rattle.calvin_synod_group.proofs.group.Group.new.Goals as goal

pub loop-replica-preserved : goal.loop-replica-preserved
loop-replica-preserved g c = one_more_made _ _ _ _ _ c.loop-replica.invariant c.new.ensures c.in_ok-push.ensures.items

pub invariant_of-result : goal.invariant_of-result
invariant_of-result g c =
    let size = c.args.config.now.replicas in
    let all = c.loop-replica.invariant ∙ ap (λ n. map (at_first size) (range_with_len 0 n)) (omega (arith, c.loop-replica.auto.replica-end)) in
    (made_group size _ all, opening_reached size _ (made_opening size _ _ all c.new-2.ensures.items))

pub returns-clause-ok : goal.returns-clause-ok
returns-clause-ok g c =
    let size = c.args.config.now.replicas in
    made_opening size _ _ (c.loop-replica.invariant ∙ ap (λ n. map (at_first size) (range_with_len 0 n)) (omega (arith, c.loop-replica.auto.replica-end))) c.new-2.ensures.items
