use Rattle.std.proofs.Common.{◌++◌, [], ◌∷◌, ap, ◌∙◌}
use Rattle.calvin_node_packets.specs.declared.kept.KeptContent.TheVariants as stored
use Rattle.calvin_node_packets.specs.declared.packet.Content.TheVariants.{Reads}
use Rattle.calvin_node_packets.specs.declared.packet.Packet.{Packet}
use Rattle.calvin_node_packets.proofs.KeptPackets.{lists_of, rows_listed, pushed_kept, pushed_packets}
use Rattle.calvin_node_packets.proofs.outbox.Outbox.push_rows.Goals as goal

pub invariant_of-self : goal.invariant_of-self
invariant_of-self g c =
    let l = lists_of c.self.inside.rows.views c.self.inside.sets.items c.self.inside.answers.items in
    let packet : Packet _ _ _ = record { from = c.args.from; to = c.args.to; content = Reads c.args.place c.args.rows.now.rows } in
    pushed_kept _ _ l _ packet _ c.self.invariant (ap (λ n. stored.Reads c.args.place n) c.len-number.ensures) (rows_listed g.row.A-Args.Denot l c.args.place c.args.rows.now.rows _ c.push_listed.ensures.views) c.push_reserved.ensures.items

pub returns-clause-packets : goal.returns-clause-packets
returns-clause-packets g c =
    let l = lists_of c.self.inside.rows.views c.self.inside.sets.items c.self.inside.answers.items in
    let packet : Packet _ _ _ = record { from = c.args.from; to = c.args.to; content = Reads c.args.place c.args.rows.now.rows } in
    pushed_packets _ _ l _ packet _ c.self.invariant (ap (λ n. stored.Reads c.args.place n) c.len-number.ensures) (rows_listed g.row.A-Args.Denot l c.args.place c.args.rows.now.rows _ c.push_listed.ensures.views) c.push_reserved.ensures.items
    ∙ ap (λ v. v.packets ++ packet ∷ []) c.self.view_is
