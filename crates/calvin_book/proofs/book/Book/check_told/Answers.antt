-- The node is there, and its next epoch is above; or why not.
use Rattle.std.proofs.Common.{◌≡◌, Some, None, subst}
use Rattle.calvin_types.specs.declared.fault.Fault.TheVariants.{NoNode, Stale}
use Rattle.calvin_order.specs.Sequencing.{next_epoch}
use Rattle.calvin_world.specs.Worlds.{WorldState, node_at}
use Rattle.calvin_book.specs.Books.{world_after}
use Rattle.calvin_book.specs.Receipts.{IsNotTaken}
use Rattle.calvin_book.proofs.Keeping.{after_is, same_err}
use Rattle.calvin_book.proofs.Submitting.{none_there, not_above}
use Rattle.calvin_book.proofs.book.Book.check_told.Goals as goal

pub returns-clause-ok : goal.returns-clause-ok
returns-clause-ok g c = record {
  state = c.in-Some.node.now.state;
  there = subst (λ (w : WorldState g.row.A-Args.Denot g.row.A-Row.Denot g.row.A-Reply.Denot). node_at w c.args.id ≡ Some c.in-Some.node.now.state)
      (after_is g.A.App.meaning c.self.inside.world c.self.inside.events.items c.self.invariant.0 c.args.self.now c.self.view_is) c.in-Some.ensures;
  above = c.if-not-is_above.ensures (next_epoch c.in-Some.node.now.state.sequencer) c.next_epoch.ensures;
}

pub returns-in_default-clause-only : goal.returns-in_default-clause-only
returns-in_default-clause-only g c = λ fault is t.
    let now = c.args.self.now in
    let at = node_at (world_after g.A.App.meaning now.config now.events) c.args.id in
    let none = subst (λ (w : WorldState g.row.A-Args.Denot g.row.A-Row.Denot g.row.A-Reply.Denot). node_at w c.args.id ≡ None)
    (after_is g.A.App.meaning c.self.inside.world c.self.inside.events.items c.self.invariant.0 now c.self.view_is) c.in_default.ensures in
    subst (λ f. IsNotTaken at t c.args.told f) (same_err NoNode fault is) (none_there at c.args.told none t)

pub returns-then-not-is_above-clause-only : goal.returns-then-not-is_above-clause-only
returns-then-not-is_above-clause-only g c = λ fault is t.
    let now = c.args.self.now in
    let state = c.in-Some.node.now.state in
    let at = node_at (world_after g.A.App.meaning now.config now.events) c.args.id in
    let there = subst (λ (w : WorldState g.row.A-Args.Denot g.row.A-Row.Denot g.row.A-Reply.Denot). node_at w c.args.id ≡ Some state)
    (after_is g.A.App.meaning c.self.inside.world c.self.inside.events.items c.self.invariant.0 now c.self.view_is) c.in-Some.ensures in
    let below = c.if-not-is_above.ensures (next_epoch state.sequencer) c.next_epoch.ensures in
    subst (λ f. IsNotTaken at t c.args.told f) (same_err Stale fault is) (not_above at c.args.told state there below t)
