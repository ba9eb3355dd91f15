-- The packets' senders are nodes; in the end all events happened.
use Rattle.std.proofs.Common.{length, sym, ap, subst, ◌∙◌, arith}
use Rattle.calvin_order.specs.Configs.{Config}
use Rattle.calvin_world.specs.Worlds.{WorldState}
use Rattle.calvin_book.specs.Books.{world_after}
use Rattle.calvin_histories.specs.Positions.{AreThere, AreNamed}
use Rattle.calvin_histories.proofs.Replaying.{senders_there, replayed_all}
use Rattle.calvin_histories.proofs.opening.lock_nodes.Goals as goal

pub names_of-requires : goal.names_of-requires
names_of-requires g c =
    let log = c.args.book.now in
    record {
      there = subst (λ (d : Config). AreThere d.replicas d.partitions c.packets.result.now.packets) c.requires.config
          (subst (λ packets. AreThere log.config.replicas log.config.partitions packets) (sym c.packets.ensures) (senders_there g.A.App.meaning g.met.A.App.lawful.writes_within_the_sets log.config log.events c.world.result.now c.world.ensures.run));
    }

pub happen_again-requires-clause-names : goal.happen_again-requires-clause-names
happen_again-requires-clause-names g c =
    let log = c.args.book.now in
    subst (λ names. AreNamed (world_after g.A.App.meaning log.config log.events).packets names) (sym c.deref.ensures.value)
    (subst (λ packets. AreNamed packets c.in_ok-names.names.items) (c.packets.ensures ∙ ap (λ (w : WorldState g.row.A-Args.Denot g.row.A-Row.Denot g.row.A-Reply.Denot). w.packets) c.world.ensures.after) c.in_ok-names.ensures.names)

pub returns-clause-nodes : goal.returns-clause-nodes
returns-clause-nodes g c =
    replayed_all g.A.App.meaning c.args.book.now c.loop-number.number (let past = c.loop-number-test.false in let number = c.len-number-end.ensures in let same = ap length c.events.ensures in omega (arith, past, number, same)) c.loop-number.nodes.items c.loop-number.invariant
