use Rattle.std.proofs.Common.{◌∷◌, not, sym, ap, ◌∙◌, arith}
use Rattle.std.specs.List.{list_any}
use Rattle.calvin_order.specs.Sequencing.{same_attempt}
use Rattle.calvin_order.proofs.Queues.{put_before}
use Rattle.calvin_order.proofs.queue.put_missing.Goals as goal

pub loop-i-preserved-then-not-is_among : goal.loop-i-preserved-then-not-is_among
loop-i-preserved-then-not-is_among g c =
    let i = c.loop-i.invariant in
    let pushed = c.push_front_reserved.ensures in
    let some = c.loop-i-test.true in
    record {
      within = omega (arith, i.within);
      items = pushed.items ∙ ap (λ l. c.index-closed-i.result ∷ l) i.items
          ∙ put_before (λ t. not (list_any (same_attempt t) c.args.decided.now)) c.args.closed.now c.args.queue.now.items c.loop-i.i c.index-closed-i.result some i.within c.index-closed-i.is (ap not (sym c.is_among.ensures ∙ c.if-not-is_among.true));
      len = omega (arith, pushed.len, i.len, some);
      room = omega (arith, pushed.len, pushed.capacity, i.room, some);
      capacity = pushed.capacity ∙ i.capacity;
    }
