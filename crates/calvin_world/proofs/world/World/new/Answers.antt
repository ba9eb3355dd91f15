-- Each node that is made is a new one, and has the next name.
use Rattle.std.proofs.Common.{map, ap, ◌∙◌, arith}
use Rattle.std.specs.List.{range_with_len}
use Rattle.calvin_order.specs.Configs.{config_of}
use Rattle.calvin_world.specs.RunningWorlds.{world_of}
use Rattle.calvin_world.proofs.InCode.{at_first, one_more, opened_nodes, opened_world, opening_reached}
use Rattle.calvin_world.proofs.world.World.new.Goals as goal

pub loop-i-preserved : goal.loop-i-preserved
loop-i-preserved g c =
    let config = config_of c.args.config.now g.S.Rows.points g.S.Rows.cold in
    one_more config c.loop-i.i c.new.result c.loop-i.nodes.items c.push.new.self.items c.loop-i.invariant c.new.ensures.config c.id_at.result c.id_at.ensures c.new.ensures.state c.in_ok-push.ensures.items

pub invariant_of-result : goal.invariant_of-result
invariant_of-result g c =
    let config = config_of c.args.config.now g.S.Rows.points g.S.Rows.cold in
    let all = c.loop-i.invariant ∙ ap (λ n. map (at_first config) (range_with_len 0 n)) (omega (arith, c.loop-i.auto.i-end, c.loop-i-test.false)) in (
      opened_nodes config c.loop-i.nodes.items all,
      opening_reached g.A.App.meaning (world_of config c.loop-i.nodes.items c.new-2.result.packets) (opened_world config g.row.A-Reply.Denot c.loop-i.nodes.items all c.new-2.result.packets (ap (λ o. o.packets) c.new-2.ensures)),
    )

pub returns-clause-ok : goal.returns-clause-ok
returns-clause-ok g c =
    let config = config_of c.args.config.now g.S.Rows.points g.S.Rows.cold in
    let all = c.loop-i.invariant ∙ ap (λ n. map (at_first config) (range_with_len 0 n)) (omega (arith, c.loop-i.auto.i-end, c.loop-i-test.false)) in
    opened_world config g.row.A-Reply.Denot c.loop-i.nodes.items all c.new-2.result.packets (ap (λ o. o.packets) c.new-2.ensures)
