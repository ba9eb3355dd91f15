-- What was told before the mark holds of the whole.
use Rattle.std.proofs.Common.{◌≡◌, ◌∙◌, sym, subst}
use mathlib.Core.List.{IsPrefix}
use Rattle.calvin_book.specs.Books.{Log}
use Rattle.calvin_book.specs.Receipts.{IsAnswered}
use Rattle.calvin_cluster_desk.proofs.Replying.{answered_in}
use Rattle.calvin_cluster_desk.proofs.stopped.Stopped.told.Goals as goal

pub returns-in-Some : goal.returns-in-Some
returns-in-Some g c =
    let events = c.self.inside.book.events in
    let r = c.report.inside in
    let p : IsPrefix r.asked events = rw (← c.self.invariant.0) c.covers.ensures in
    let q : IsPrefix r.mark events = rw (← c.self.invariant.0) c.covers-in-Some.ensures in
    let is = answered_in g.A.App.meaning g.J.Founding.config r.asked r.mark events p q r.answered c.report.invariant.0 c.report.invariant.1 in
    let same : ◌≡◌ {A = Log g.row.A-Args.Denot} (record { config = g.J.Founding.config; events = events }) c.args.self.now = (λ i. record { config = sym c.self.invariant.1 i; events = events }) ∙ c.self.view_is in
    rw (c.in-Some.is, ← c.report.view_is) (subst (λ (l : Log g.row.A-Args.Denot). IsAnswered g.A.App.meaning l r.answered) same is)
