use Rattle.std.proofs.Common.{◌++◌, length, sym, ap, ◌∙◌, arith}
use Rattle.std.specs.Vec.Iter.{into_iter_items}
use Rattle.calvin_order.specs.Walking.{flat}
use Rattle.calvin_order.proofs.Segments.{moved}
use Rattle.calvin_order.proofs.pending.PendingRequests.append.Goals as goal

pub loop-segment-preserved : goal.loop-segment-preserved
loop-segment-preserved g c =
    let before = c.loop-segment.self-inside.segments.items in
    let later = into_iter_items c.next.new.self in
    let there = c.loop-segment.invariant in
    let pushed = c.push_back_reserved.ensures in
    let given = c.in-Some.ensures.steps.0 in
    let number = ap length given in
    record {
      to_come = ap (λ bs. flat bs ++ flat later) pushed.items ∙ moved before c.in-Some.segment later ∙ ap (λ bs. flat before ++ flat bs) (sym given) ∙ there.to_come;
      room = omega (arith, number, there.room, pushed.len, pushed.capacity);
    }
