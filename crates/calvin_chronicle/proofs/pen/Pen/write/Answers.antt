use Rattle.std.proofs.Common.{◌≡◌, ◌∙◌, ◌++◌, ◌∷◌, [], List, Option, Some, ap, sym, subst, length, arith}
use Rattle.calvin_chronicle.specs.Histories.{IsLegal, events_of}
use Rattle.calvin_chronicle.proofs.Prefixes.{legal_more}
use Rattle.calvin_chronicle.proofs.Adding.{adds_moves, was_added, IsWritten, is_written}
use Rattle.calvin_chronicle.proofs.pen.Pen.write.Goals as goal

pub compare_exchange-found-requires : goal.compare_exchange-found-requires
compare_exchange-found-requires g c =
    let head = c.self.invariant.2 in
    let offer = c.plain-offer.ensures in
    let right = c.no_pen-right.ensures in
    let again = c.again-seen.ensures in
    let log = c.self.inside.seen.log in
    let log' = c.again-seen.result.log in
    let e = c.args.event.now in
    let same : log ≡ log' = sym (ap (λ s. s.log) again) in
    let P : List (Option g.row.E.Denot) → Type 0 = λ l. IsLegal (l ++ Some e ∷ []) in
    let may : P log = subst P (sym c.self.invariant.3) (legal_more (events_of log) (Some e)) in
    let may' : P log' = subst P same may in
    let length_is : length log' ≡ c.self.inside.count = sym (c.self.invariant.0 ∙ ap length same) in
    let book : c.again-seen.result.book ≡ c.self.inside.head.book = ap (λ s. s.book) again ∙ (c.self.invariant.1 ∙ sym (ap (λ w. w.book) head)) in (
      ap (λ w. w.tracked) head,
      book,
      right.0 ∙ book,
      offer.0,
      rw (ap (λ w. w.key) head, right.1, offer.1, offer.3) (adds_moves log' (Some e) c.self.inside.count length_is may'),
    )

written : (g : _) (c : goal.After-drop-offer-2 g) → IsWritten c.self.inside.seen.log c.compare_exchange-found.new.seen.log c.args.event.now
written g c =
    let log = c.self.inside.seen.log in
    let log' = c.again-seen.result.log in
    let e = c.args.event.now in
    let same : log' ≡ log = ap (λ s. s.log) c.again-seen.ensures in
    let added = was_added log' c.compare_exchange-found.new.seen.log c.plain-offer.result.ask (Some e) c.compare_exchange-found.result c.self.inside.count c.if-found-count.false c.plain-offer.ensures.1 c.compare_exchange-found.ensures.7 in
    is_written log c.compare_exchange-found.new.seen.log e c.self.invariant.3 (added ∙ ap (λ w. w ++ Some e ∷ []) same)

pub invariant_of-self : goal.invariant_of-self
invariant_of-self g c =
    let w = written g c in (
      omega (arith, c.self.invariant.0, w.longer),
      c.compare_exchange-found.ensures.0 ∙ (ap (λ s. s.book) c.again-seen.ensures ∙ c.self.invariant.1),
      c.self.invariant.2,
      w.plain,
    )

pub returns : goal.returns
returns g c = let w = written g c in w.events ∙ ap (λ w. w ++ c.args.event.now ∷ []) c.self.view_is
