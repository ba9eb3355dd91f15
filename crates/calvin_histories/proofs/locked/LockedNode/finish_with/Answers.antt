-- It is the last entry, or nothing changed.
use Rattle.std.proofs.Common.{◌++◌, ◌∷◌, [], true, Ok, ap, subst, ◌∙◌}
use Rattle.calvin_node_acts.specs.declared.act.Act.TheVariants.{Finish}
use Rattle.calvin_histories.specs.declared.entry.Entry.TheVariants.{Own}
use Rattle.calvin_histories.specs.Locked.{IsNoFinish}
use Rattle.calvin_histories.proofs.Locking.{config_kept, did_entry, no_finish, still_life}
use Rattle.calvin_histories.proofs.locked.LockedNode.finish_with.Goals as goal

pub invariant_of-self-in-Err : goal.invariant_of-self-in-Err
invariant_of-self-in-Err g c = still_life g.A.App.meaning c.self.inside.node c.self.inside.id c.self.inside.entries.items c.self.inside.sent.packets (Own (Finish c.args.computed.now.job.place)) c.self.invariant true c.take_computed.new.self c.take_computed.new.outbox.packets c.reserve.new.self.items c.in-Err.ensures.did.0 c.in-Err.ensures.did.1 c.reserve.ensures.items

pub returns-in-Err-clause-err : goal.returns-in-Err-clause-err
returns-in-Err-clause-err g c = (λ i. record { config = (c.in-Err.ensures.did.0 i).config; id = c.self.inside.id; history = c.reserve.ensures.items i }) ∙ c.self.view_is

pub returns-in-Err-clause-only : goal.returns-in-Err-clause-only
returns-in-Err-clause-only g c = subst (λ n. IsNoFinish g.A.App.meaning n c.args.computed.now.job c.in-Err.fault) c.self.view_is (no_finish g.A.App.meaning c.self.inside.node c.self.inside.id c.self.inside.entries.items c.self.inside.sent.packets (Own (Finish c.args.computed.now.job.place)) c.self.invariant true c.args.computed.now.job c.in-Err.fault c.in-Err.ensures.did.2)

pub invariant_of-self-in-Ok : goal.invariant_of-self-in-Ok
invariant_of-self-in-Ok g c =
    did_entry g.A.App.meaning c.self.inside.node c.self.inside.id c.self.inside.entries.items c.self.inside.sent.packets (Own (Finish c.args.computed.now.job.place)) c.self.invariant true c.in-Ok.field-0 c.take_computed.new.self c.take_computed.new.outbox.packets c.in-Ok.ensures.did.1 c.push_reserved.new.self.items (c.push_reserved.ensures.items ∙ ap (λ es. es ++ Own (Finish c.args.computed.now.job.place) ∷ []) c.reserve.ensures.items)

pub returns-in-Ok-clause-ok : goal.returns-in-Ok-clause-ok
returns-in-Ok-clause-ok g c =
    (λ i. record { config = config_kept g.A.App.meaning c.self.inside.node c.self.inside.id c.self.inside.entries.items c.self.inside.sent.packets (Own (Finish c.args.computed.now.job.place)) c.self.invariant true (Ok c.in-Ok.field-0) c.take_computed.new.self c.take_computed.new.outbox.packets c.in-Ok.ensures.did.1 i; id = c.self.inside.id; history = (c.push_reserved.ensures.items ∙ ap (λ es. es ++ Own (Finish c.args.computed.now.job.place) ∷ []) c.reserve.ensures.items) i })
    ∙ (λ i. record (c.self.view_is i) { history = (c.self.view_is i).history ++ Own (Finish c.args.computed.now.job.place) ∷ [] })
