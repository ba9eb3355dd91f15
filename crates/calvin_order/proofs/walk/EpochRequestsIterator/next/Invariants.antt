use Rattle.std.proofs.Common.{◌≡◌, ◌-◌, [], length, is_some}
use Rattle.std.specs.Option.{unwrap_or}
use Rattle.calvin_order.specs.Walking.{left_of, IsWalk}
use Rattle.calvin_order.proofs.walk.EpochRequestsIterator.next.Given as goal

abbrev pub invariant-loop-batch : goal.invariant-loop-batch
invariant-loop-batch g l =
    let B = g.S.BatchSource.assignment l.self-inside.source.now in
    record {
      left : left_of B l.self-inside.slot l.self-inside.groups (is_some l.self-inside.turns) l.self-inside.n l.self-inside.rest.now (unwrap_or l.self-inside.turns []) ≡ l.fn.self;
      walk : IsWalk l.self-inside.slot.group l.self-inside.groups l.self-inside.n (length l.self-inside.rest.now) (unwrap_or l.self-inside.turns []);
    }

abbrev pub decreases-loop-batch : goal.decreases-loop-batch
decreases-loop-batch g l = l.self-inside.groups - l.self-inside.slot.group
