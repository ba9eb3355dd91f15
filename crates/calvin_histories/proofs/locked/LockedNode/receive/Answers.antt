-- It is the last entry, or nothing changed.
use Rattle.std.proofs.Common.{◌++◌, ◌∷◌, [], ap, subst, ◌∙◌}
use Rattle.calvin_node_acts.specs.Growing.{content_grows}
use Rattle.calvin_histories.specs.declared.entry.Entry.TheVariants.{Came}
use Rattle.calvin_histories.specs.Locked.{IsNoEntry}
use Rattle.calvin_histories.proofs.Locking.{config_kept, did_entry, no_entry, still_life}
use Rattle.calvin_histories.proofs.locked.LockedNode.receive.Goals as goal

pub invariant_of-self-in-Err-handle : goal.invariant_of-self-in-Err-handle
invariant_of-self-in-Err-handle g c =
    let no = no_entry g.A.App.meaning c.self.inside.node c.self.inside.id c.self.inside.entries.items c.self.inside.sent.packets (Came c.args.name c.args.packet) c.self.invariant (content_grows c.self.inside.node.config c.args.packet.content c.self.inside.node.state) c.in-Err-handle.fault c.handle.new.self c.handle.new.outbox.packets c.in-Err-handle.ensures.did in
    still_life g.A.App.meaning c.self.inside.node c.self.inside.id c.self.inside.entries.items c.self.inside.sent.packets (Came c.args.name c.args.packet) c.self.invariant (content_grows c.self.inside.node.config c.args.packet.content c.self.inside.node.state) c.handle.new.self c.handle.new.outbox.packets c.reserve.new.self.items no.0 no.1 c.reserve.ensures.items

pub returns-in-Err-handle-clause-err : goal.returns-in-Err-handle-clause-err
returns-in-Err-handle-clause-err g c =
    let no = no_entry g.A.App.meaning c.self.inside.node c.self.inside.id c.self.inside.entries.items c.self.inside.sent.packets (Came c.args.name c.args.packet) c.self.invariant (content_grows c.self.inside.node.config c.args.packet.content c.self.inside.node.state) c.in-Err-handle.fault c.handle.new.self c.handle.new.outbox.packets c.in-Err-handle.ensures.did in
    (λ i. record { config = (no.0 i).config; id = c.self.inside.id; history = c.reserve.ensures.items i }) ∙ c.self.view_is

pub returns-in-Err-handle-clause-only : goal.returns-in-Err-handle-clause-only
returns-in-Err-handle-clause-only g c =
    let no = no_entry g.A.App.meaning c.self.inside.node c.self.inside.id c.self.inside.entries.items c.self.inside.sent.packets (Came c.args.name c.args.packet) c.self.invariant (content_grows c.self.inside.node.config c.args.packet.content c.self.inside.node.state) c.in-Err-handle.fault c.handle.new.self c.handle.new.outbox.packets c.in-Err-handle.ensures.did in
    subst (λ n. IsNoEntry g.A.App.meaning n (Came c.args.name c.args.packet) c.in-Err-handle.fault) c.self.view_is no.2

pub invariant_of-self-in-Ok-handle : goal.invariant_of-self-in-Ok-handle
invariant_of-self-in-Ok-handle g c =
    did_entry g.A.App.meaning c.self.inside.node c.self.inside.id c.self.inside.entries.items c.self.inside.sent.packets (Came c.args.name c.args.packet) c.self.invariant (content_grows c.self.inside.node.config c.args.packet.content c.self.inside.node.state) c.in-Ok-handle.field-0 c.handle.new.self c.handle.new.outbox.packets c.in-Ok-handle.ensures.did c.push_reserved.new.self.items (c.push_reserved.ensures.items ∙ ap (λ es. es ++ Came c.args.name c.args.packet ∷ []) c.reserve.ensures.items)

pub returns-in-Ok-handle-clause-ok : goal.returns-in-Ok-handle-clause-ok
returns-in-Ok-handle-clause-ok g c =
    (λ i. record { config = config_kept g.A.App.meaning c.self.inside.node c.self.inside.id c.self.inside.entries.items c.self.inside.sent.packets (Came c.args.name c.args.packet) c.self.invariant (content_grows c.self.inside.node.config c.args.packet.content c.self.inside.node.state) c.handle.result c.handle.new.self c.handle.new.outbox.packets c.handle.ensures.did i; id = c.self.inside.id; history = (c.push_reserved.ensures.items ∙ ap (λ es. es ++ Came c.args.name c.args.packet ∷ []) c.reserve.ensures.items) i })
    ∙ (λ i. record (c.self.view_is i) { history = (c.self.view_is i).history ++ Came c.args.name c.args.packet ∷ [] })
