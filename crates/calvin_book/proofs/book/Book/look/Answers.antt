-- The first reply that was sent after the event, by how many packets had been sent.
use Rattle.std.proofs.Common.{ℕ, sym, subst}
use Rattle.calvin_book.specs.Receipts.{IsLookedFor}
use Rattle.calvin_book.specs.declared.receipt.Look.TheVariants.{NotYet}
use Rattle.calvin_book.proofs.Hearing.{not_that, not_counted, found, not_found, read_at}
use Rattle.calvin_book.proofs.book.Book.look.Goals as goal

pub returns-then-not-submits : goal.returns-then-not-submits
returns-then-not-submits g c = λ unheard. not_that g.A.App.meaning c.args.self.now c.args.submission.now c.if-not-submits.ensures c.args.from unheard

pub returns-in_default : goal.returns-in_default
returns-in_default g c = λ unheard.
    let p = c.self.inside in
    not_counted g.A.App.meaning p.world p.events.items c.self.invariant.0 p.sent.items c.self.invariant.1 c.args.self.now c.self.view_is c.args.submission.now c.deref.result.now c.deref.ensures.value (c.in_default.ensures.lookup.0) c.args.from unheard

pub returns-in-Some-first_reply : goal.returns-in-Some-first_reply
returns-in-Some-first_reply g c = λ unheard.
    let p = c.self.inside in
    let at = read_at c.deref.result.now p.sent.items c.args.submission.now.number c.in-Some.sent.now c.deref.ensures.value c.in-Some.ensures.lookup.3.0 c.in-Some.ensures.lookup.1 in
    found g.A.App.meaning p.world p.events.items c.self.invariant.0 p.sent.items c.self.invariant.1 c.args.self.now c.self.view_is c.args.submission.now c.in-Some.sent.now at c.packets-packets.result.now.packets c.packets-packets.ensures c.if-not-submits.ensures c.args.from unheard c.max.result c.max.ensures
    c.in-Some-first_reply.place c.in-Some-first_reply.answer c.in-Some-first_reply.ensures

pub returns-in-None : goal.returns-in-None
returns-in-None g c = λ unheard.
    let p = c.self.inside in
    let at = read_at c.deref.result.now p.sent.items c.args.submission.now.number c.in-Some.sent.now c.deref.ensures.value c.in-Some.ensures.lookup.3.0 c.in-Some.ensures.lookup.1 in
    subst (λ (n : ℕ). IsLookedFor g.A.App.meaning c.args.self.now c.args.submission.now (NotYet n)) (sym c.len.ensures)
    (not_found g.A.App.meaning p.world p.events.items c.self.invariant.0 p.sent.items c.self.invariant.1 c.args.self.now c.self.view_is c.args.submission.now c.in-Some.sent.now at c.packets-packets.result.now.packets c.packets-packets.ensures c.if-not-submits.ensures c.args.from unheard c.max.result c.max.ensures
    c.in-None.ensures)
