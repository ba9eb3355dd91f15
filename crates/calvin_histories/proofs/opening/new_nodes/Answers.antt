-- One new node more.
use Rattle.std.proofs.Common.{[], ◌∷◌, length, length-append, ap, ◌∙◌, arith}
use Rattle.calvin_order.specs.Configs.{config_of}
use Rattle.calvin_histories.proofs.Replaying.{new_more}
use Rattle.calvin_histories.proofs.opening.new_nodes.Goals as goal

pub loop-at-preserved : goal.loop-at-preserved
loop-at-preserved g c =
    let config = config_of c.args.config.now g.S.Rows.points g.S.Rows.cold in
    record {
      number = ap length c.in_ok-push.ensures.items ∙ length-append c.loop-at.nodes.items (c.new.result ∷ []) ∙ (let e = c.loop-at.invariant.number in omega (arith, e));
      bound = (let less = c.loop-at-test.true in omega (arith, less));
      each = new_more g.A.App.meaning (record { config = config; events = [] }) c.loop-at.nodes.items c.loop-at.at c.loop-at.invariant.number c.loop-at.invariant.each c.new.result (c.new.ensures ∙ (λ i. record { config = config; id = c.id_at.ensures i; history = [] })) c.push.new.self.items c.in_ok-push.ensures.items;
    }
