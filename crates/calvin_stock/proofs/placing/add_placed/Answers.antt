use Rattle.std.proofs.Common.{ap, ◌∙◌, rules}
use Rattle.calvin_types.specs.Keys.{has}
use Rattle.calvin_app.specs.Writing.{keys_of}
use Rattle.calvin_stock.proofs.Lines.{room, room_after, order_untaken, customer_after}
use Rattle.calvin_stock.proofs.placing.add_placed.Goals as goal

pub push-requires : goal.push-requires
push-requires c =
    let rows = c.requires.0 in
    (search rules, (room rows c.args.order.now c.args.writes.now c.requires.1, (λ j. has (keys_of (c.requires.1 j)) (c.order_key.ensures j)) ∙ order_untaken rows c.args.order.now.lines c.args.order.now.number))

pub push-requires-2 : goal.push-requires-2
push-requires-2 c =
    let rows = c.requires.0 in (
      search rules,
      (
        room_after rows c.args.order.now c.args.writes.now _ c.push.new.self c.requires.1 c.push.ensures,
        ap (has (keys_of c.push.new.self)) c.customer_key.ensures
            ∙ customer_after rows c.args.order.now.lines c.args.order.now.number c.args.order.now.customer _ c.order_key.result c.args.writes.now c.push.new.self c.push.ensures c.requires.1 c.order_key.ensures,
      ),
    )
