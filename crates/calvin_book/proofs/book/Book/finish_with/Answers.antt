-- The place is finished, and its event is the last one; or nothing changed.
use Rattle.std.proofs.Common.{◌≡◌, ℕ, [], ◌∷◌, ◌++◌, inl, Ok, Err, refl, sym, ap, subst, ◌∙◌}
use Rattle.std.proofs.lemmas.Result.{err_from_is_err_and}
use Rattle.calvin_node_acts.specs.declared.act.Act.TheVariants.{Finish}
use Rattle.calvin_world.specs.declared.event.Event.TheVariants.{At}
use Rattle.calvin_world.specs.Jobs.{job_of, IsNotFinished}
use Rattle.calvin_world.specs.Worlds.{WorldState, node_at}
use Rattle.calvin_book.specs.Books.{world_after}
use Rattle.calvin_book.proofs.Keeping.{on_err, same_err, after_is, err_kept, err_view, ok_kept, ok_applied}
use Rattle.calvin_book.proofs.book.Book.finish_with.Goals as goal

pub invariant_of-self-in_err-finish_with : goal.invariant_of-self-in_err-finish_with
invariant_of-self-in_err-finish_with g c =
    let p = c.self.inside in
    err_kept g.A.App.meaning p.world p.events.items c.self.invariant.0 p.sent.items c.self.invariant.1 c.reserve.new.self.items c.reserve-2.new.self.items c.reserve.ensures.items c.reserve-2.ensures.items c.finish_with.new.self
    (c.in_err-finish_with.ensures.0)

pub returns-in_err-finish_with-clause-err : goal.returns-in_err-finish_with-clause-err
returns-in_err-finish_with-clause-err g c =
    let p = c.self.inside in
    on_err _
    (err_view g.A.App.meaning p.world p.events.items c.self.invariant.0 p.sent.items c.self.invariant.1 c.reserve.new.self.items c.reserve-2.new.self.items c.reserve.ensures.items c.reserve-2.ensures.items c.finish_with.new.self
    (c.in_err-finish_with.ensures.0)
    ∙ c.self.view_is) c.from_residual-in_err-finish_with.result

pub returns-in_err-finish_with-clause-only : goal.returns-in_err-finish_with-clause-only
returns-in_err-finish_with-clause-only g c = λ fault is.
    let p = c.self.inside in
    let m = g.A.App.meaning in
    let j = c.args.computed.now.job in
    let now = c.args.self.now in
    let failed = err_from_is_err_and c.from_residual-in_err-finish_with.result c.from_residual-in_err-finish_with.ensures.1 in
    let same = same_err fault c.in_err-finish_with.field-0.0 (sym is ∙ failed.1 ∙ ap Err failed.2) in
    let world = after_is m p.world p.events.items c.self.invariant.0 now c.self.view_is in
    inl (subst (λ f. IsNotFinished now.config j (node_at (world_after m now.config now.events) c.args.id) f) (sym same)
    (subst (λ (w : WorldState g.row.A-Args.Denot g.row.A-Row.Denot g.row.A-Reply.Denot). IsNotFinished now.config j (node_at w c.args.id) c.in_err-finish_with.field-0.0) world
    (subst (λ k. IsNotFinished k j (node_at p.world c.args.id) c.in_err-finish_with.field-0.0) (ap (λ l. l.config) c.self.view_is) c.in_err-finish_with.ensures.1)))

pub invariant_of-self-2 : goal.invariant_of-self-2
invariant_of-self-2 g c =
    let p = c.self.inside in
    ok_kept g.A.App.meaning p.world p.events.items c.self.invariant.0 p.sent.items c.self.invariant.1 c.reserve.new.self.items c.reserve-2.new.self.items c.reserve.ensures.items c.reserve-2.ensures.items c.finish_with.new.self
    g.met.A.App.lawful.writes_within_the_sets (At c.args.id (Finish c.args.computed.now.job.place)) (At c.args.id (Finish c.args.computed.now.job.place)) refl c.push_reserved.new.self.items c.push_reserved.ensures.items (c.in_ok-finish_with.ensures.1)
    c.packets.result.now.packets c.packets.ensures c.push_reserved-2.new.self.items
    (c.push_reserved-2.ensures.items ∙ ap (λ (n : ℕ). c.reserve-2.new.self.items ++ n ∷ []) c.len.ensures)

pub returns-clause-due : goal.returns-clause-due
returns-clause-due g c =
    let p = c.self.inside in
    subst (λ (w : WorldState g.row.A-Args.Denot g.row.A-Row.Denot g.row.A-Reply.Denot). job_of w c.args.id c.args.computed.now.job.place ≡ Ok c.args.computed.now.job)
    (after_is g.A.App.meaning p.world p.events.items c.self.invariant.0 c.args.self.now c.self.view_is) (c.in_ok-finish_with.ensures.0)

pub returns-clause-ok : goal.returns-clause-ok
returns-clause-ok g c =
    let p = c.self.inside in
    ok_applied g.A.App.meaning p.world p.events.items c.self.invariant.0 p.sent.items c.self.invariant.1 c.reserve.new.self.items c.reserve-2.new.self.items c.reserve.ensures.items c.reserve-2.ensures.items c.finish_with.new.self
    g.met.A.App.lawful.writes_within_the_sets (At c.args.id (Finish c.args.computed.now.job.place)) (At c.args.id (Finish c.args.computed.now.job.place)) refl c.push_reserved.new.self.items c.push_reserved.ensures.items (c.in_ok-finish_with.ensures.1)
    c.args.self.now c.self.view_is
