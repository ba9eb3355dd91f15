-- As many events as steps.
use Rattle.std.proofs.Common.{rules, ◌≡◌, length, sym, ap, ◌∙◌}
use Rattle.calvin_book.proofs.Kept.{kept_number}
use Rattle.calvin_book.proofs.event_list.EventList.len.Goals as goal

pub returns : goal.returns
returns g c =
    let l = c.self.inside in
    let steps : c.len.result ≡ length l.steps.items = search rules in
    steps ∙ sym (kept_number l.requests.items l.steps.items c.self.invariant) ∙ ap (λ s. length s.items) c.self.view_is
