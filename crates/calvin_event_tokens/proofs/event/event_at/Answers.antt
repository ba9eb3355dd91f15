use Rattle.calvin_event_tokens.proofs.Events.{deliver_spelled, act_spelled}
use Rattle.calvin_event_tokens.proofs.event.event_at.Goals as goal

pub returns-then-is_same : goal.returns-then-is_same
returns-then-is_same g c =
    deliver_spelled g.Op.Operation.grammar c.in_ok-name.name.now c.args.reader.now c.opens_array.new.reader c.string_at.new.reader c.in_ok-opens_array.ensures c.in_ok-name.ensures
    c.in_ok-number.number c.one_number.new.reader (c.is_same.ensures c.if-is_same.true) c.in_ok-number.ensures

pub returns : goal.returns
returns g c =
    act_spelled g.Op.Operation.grammar c.in_ok-name.name.now c.args.reader.now c.opens_array.new.reader c.string_at.new.reader c.in_ok-opens_array.ensures c.in_ok-name.ensures
    c.in_ok-replica.replica c.in_ok-partition.partition c.u8_value.new.reader c.u8_value-2.new.reader c.act_at.new.reader _ c.in_ok-replica.ensures c.in_ok-partition.ensures c.in_ok-act.ensures
