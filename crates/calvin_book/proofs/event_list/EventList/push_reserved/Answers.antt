-- The event's step is behind the others, and so is its request, if it has one.
use Rattle.std.proofs.Common.{rules, ◌≡◌, [], ◌∷◌, ◌++◌, length, sym, ap, ◌∙◌}
use Rattle.calvin_book.proofs.Kept.{pushed_with, pushed_alone}
use Rattle.calvin_book.proofs.event_list.EventList.push_reserved.Goals as goal

pub invariant_of-self : goal.invariant_of-self
invariant_of-self g c =
    let l = c.self.inside in
    let number : c.len-number.result ≡ length l.requests.items = search rules in
    (pushed_with l.requests.items l.steps.items c.self.invariant c.len-number.result number c.args.event.now c.step_of.result c.step_of.ensures c.push_reserved.new.self.items c.push_reserved.ensures.items
    c.in-Some.txn.now (sym c.in-Some.ensures) c.push_reserved-in-Some.new.self.items c.push_reserved-in-Some.ensures.items).0

pub invariant_of-self-in-None : goal.invariant_of-self-in-None
invariant_of-self-in-None g c =
    let l = c.self.inside in
    let number : c.len-number.result ≡ length l.requests.items = search rules in
    (pushed_alone l.requests.items l.steps.items c.self.invariant c.len-number.result number c.args.event.now c.step_of.result c.step_of.ensures c.push_reserved.new.self.items c.push_reserved.ensures.items (sym c.in-None.ensures)).0

pub returns-in-Some : goal.returns-in-Some
returns-in-Some g c =
    let l = c.self.inside in
    let number : c.len-number.result ≡ length l.requests.items = search rules in
    record {
      items = (pushed_with l.requests.items l.steps.items c.self.invariant c.len-number.result number c.args.event.now c.step_of.result c.step_of.ensures c.push_reserved.new.self.items c.push_reserved.ensures.items
          c.in-Some.txn.now (sym c.in-Some.ensures) c.push_reserved-in-Some.new.self.items c.push_reserved-in-Some.ensures.items).1 ∙ ap (λ s. s.items ++ c.args.event.now ∷ []) c.self.view_is;
    }

pub returns-in-None : goal.returns-in-None
returns-in-None g c =
    let l = c.self.inside in
    let number : c.len-number.result ≡ length l.requests.items = search rules in
    record {
      items = (pushed_alone l.requests.items l.steps.items c.self.invariant c.len-number.result number c.args.event.now c.step_of.result c.step_of.ensures c.push_reserved.new.self.items c.push_reserved.ensures.items (sym c.in-None.ensures)).1
          ∙ ap (λ s. s.items ++ c.args.event.now ∷ []) c.self.view_is;
    }
