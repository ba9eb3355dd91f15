-- What was submitted before the mark was submitted in the whole.
use Rattle.std.proofs.Common.{◌≡◌, ◌∙◌, sym, subst}
use mathlib.Core.List.{IsPrefix}
use Rattle.calvin_book.specs.Books.{Log}
use Rattle.calvin_book.specs.Receipts.{IsSubmitted}
use Rattle.calvin_cluster_desk.proofs.Replying.{submitted_in}
use Rattle.calvin_cluster_desk.proofs.stopped.Stopped.ticket.Goals as goal

pub returns : goal.returns
returns g c =
    let events = c.self.inside.book.events in
    let p : IsPrefix c.ticket.inside.mark events = rw (← c.self.invariant.0) c.covers.ensures in
    let is = submitted_in g.A.App.meaning g.J.Founding.config c.ticket.inside.mark events p c.ticket.inside.submission c.ticket.invariant in
    let same : ◌≡◌ {A = Log g.row.A-Args.Denot} (record { config = g.J.Founding.config; events = events }) c.args.self.now = (λ i. record { config = sym c.self.invariant.1 i; events = events }) ∙ c.self.view_is in
    rw (← c.ticket.view_is) (subst (λ (l : Log g.row.A-Args.Denot). IsSubmitted g.A.App.meaning l c.ticket.inside.submission) same is)
