-- It is the last entry, or nothing changed.
use Rattle.std.proofs.Common.{◌++◌, ◌∷◌, [], ap, subst, ◌∙◌}
use Rattle.calvin_node_acts.specs.Growing.{act_grows}
use Rattle.calvin_histories.specs.declared.entry.Entry.TheVariants.{Own}
use Rattle.calvin_histories.specs.Locked.{IsNoEntry}
use Rattle.calvin_histories.proofs.Locking.{config_kept, did_entry, no_entry, still_life}
use Rattle.calvin_histories.proofs.locked.LockedNode.act.Goals as goal

pub invariant_of-self-in-Err : goal.invariant_of-self-in-Err
invariant_of-self-in-Err g c =
    let no = no_entry g.A.App.meaning c.self.inside.node c.self.inside.id c.self.inside.entries.items c.self.inside.sent.packets (Own c.args.act.now) c.self.invariant (act_grows c.self.inside.node.config c.args.act.now c.self.inside.node.state) c.in-Err.fault c.act.new.self c.act.new.outbox.packets c.in-Err.ensures.did in
    still_life g.A.App.meaning c.self.inside.node c.self.inside.id c.self.inside.entries.items c.self.inside.sent.packets (Own c.args.act.now) c.self.invariant (act_grows c.self.inside.node.config c.args.act.now c.self.inside.node.state) c.act.new.self c.act.new.outbox.packets c.reserve.new.self.items no.0 no.1 c.reserve.ensures.items

pub returns-in-Err-clause-err : goal.returns-in-Err-clause-err
returns-in-Err-clause-err g c =
    let no = no_entry g.A.App.meaning c.self.inside.node c.self.inside.id c.self.inside.entries.items c.self.inside.sent.packets (Own c.args.act.now) c.self.invariant (act_grows c.self.inside.node.config c.args.act.now c.self.inside.node.state) c.in-Err.fault c.act.new.self c.act.new.outbox.packets c.in-Err.ensures.did in
    (λ i. record { config = (no.0 i).config; id = c.self.inside.id; history = c.reserve.ensures.items i }) ∙ c.self.view_is

pub returns-in-Err-clause-only : goal.returns-in-Err-clause-only
returns-in-Err-clause-only g c =
    let no = no_entry g.A.App.meaning c.self.inside.node c.self.inside.id c.self.inside.entries.items c.self.inside.sent.packets (Own c.args.act.now) c.self.invariant (act_grows c.self.inside.node.config c.args.act.now c.self.inside.node.state) c.in-Err.fault c.act.new.self c.act.new.outbox.packets c.in-Err.ensures.did in
    subst (λ n. IsNoEntry g.A.App.meaning n (Own c.args.act.now) c.in-Err.fault) c.self.view_is no.2

pub invariant_of-self-in-Ok : goal.invariant_of-self-in-Ok
invariant_of-self-in-Ok g c =
    did_entry g.A.App.meaning c.self.inside.node c.self.inside.id c.self.inside.entries.items c.self.inside.sent.packets (Own c.args.act.now) c.self.invariant (act_grows c.self.inside.node.config c.args.act.now c.self.inside.node.state) c.in-Ok.field-0 c.act.new.self c.act.new.outbox.packets c.in-Ok.ensures.did c.push_reserved.new.self.items (c.push_reserved.ensures.items ∙ ap (λ es. es ++ Own c.args.act.now ∷ []) c.reserve.ensures.items)

pub returns-in-Ok-clause-ok : goal.returns-in-Ok-clause-ok
returns-in-Ok-clause-ok g c =
    (λ i. record { config = config_kept g.A.App.meaning c.self.inside.node c.self.inside.id c.self.inside.entries.items c.self.inside.sent.packets (Own c.args.act.now) c.self.invariant (act_grows c.self.inside.node.config c.args.act.now c.self.inside.node.state) c.act.result c.act.new.self c.act.new.outbox.packets c.act.ensures.did i; id = c.self.inside.id; history = (c.push_reserved.ensures.items ∙ ap (λ es. es ++ Own c.args.act.now ∷ []) c.reserve.ensures.items) i })
    ∙ (λ i. record (c.self.view_is i) { history = (c.self.view_is i).history ++ Own c.args.act.now ∷ [] })
