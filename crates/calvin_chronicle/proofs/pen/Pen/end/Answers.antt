use Rattle.std.proofs.Common.{◌≡◌, ◌∙◌, ◌++◌, ◌∷◌, [], List, Option, None, ap, sym, subst}
use Rattle.calvin_chronicle.specs.Histories.{IsLegal, events_of}
use Rattle.calvin_chronicle.proofs.Prefixes.{legal_more}
use Rattle.calvin_chronicle.proofs.Adding.{adds_moves, was_added, is_ended}
use Rattle.calvin_chronicle.proofs.pen.Pen.end.Goals as goal

pub compare_exchange-found-requires : goal.compare_exchange-found-requires
compare_exchange-found-requires g c =
    let head = c.self.invariant.2 in
    let offer = c.plain-offer.ensures in
    let right = c.no_pen-right.ensures in
    let log = c.self.inside.seen.log in
    let P : List (Option g.row.E.Denot) → Type 0 = λ l. IsLegal (l ++ None ∷ []) in
    let may : P log = subst P (sym c.self.invariant.3) (legal_more (events_of log) None) in
    let book : c.self.inside.seen.book ≡ c.self.inside.head.book = c.self.invariant.1 ∙ sym (ap (λ w. w.book) head) in (
      ap (λ w. w.tracked) head,
      book,
      right.0 ∙ book,
      offer.0,
      rw (ap (λ w. w.key) head, right.1, offer.1, offer.3) (adds_moves log None c.self.inside.count (sym c.self.invariant.0) may),
    )

pub invariant_of-result : goal.invariant_of-result
invariant_of-result g c =
    let log = c.self.inside.seen.log in
    let added = was_added log c.compare_exchange-found.new.seen.log c.plain-offer.result.ask None c.compare_exchange-found.result c.self.inside.count c.if-found-count.false c.plain-offer.ensures.1 c.compare_exchange-found.ensures.7 in
    let ended = is_ended log c.compare_exchange-found.new.seen.log c.self.invariant.3 added in
    (c.compare_exchange-found.ensures.0 ∙ c.self.invariant.1, ended.plain)

pub returns : goal.returns
returns g c =
    let log = c.self.inside.seen.log in
    let added = was_added log c.compare_exchange-found.new.seen.log c.plain-offer.result.ask None c.compare_exchange-found.result c.self.inside.count c.if-found-count.false c.plain-offer.ensures.1 c.compare_exchange-found.ensures.7 in
    let ended = is_ended log c.compare_exchange-found.new.seen.log c.self.invariant.3 added in
    ended.events ∙ c.self.view_is
