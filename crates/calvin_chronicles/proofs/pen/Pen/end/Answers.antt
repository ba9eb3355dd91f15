use Rattle.std.proofs.Common.{◌≡◌, ◌∙◌, ◌++◌, ◌∷◌, [], ℕ, List, Option, None, ap, sym, subst}
use Rattle.calvin_chronicles.specs.declared.law.Entry.TheVariants.{Ended}
use Rattle.calvin_chronicles.specs.Histories.{IsLegal, events_of, part_at}
use Rattle.calvin_chronicles.proofs.Prefixes.{legal_more}
use Rattle.calvin_chronicles.proofs.Parts.{ended_of, pair_is}
use Rattle.calvin_chronicles.proofs.Adding.{adds_moves, was_added, is_ended}
use Rattle.calvin_chronicles.proofs.pen.Pen.end.Goals as goal

pub compare_exchange-found-requires : goal.compare_exchange-found-requires
compare_exchange-found-requires g c =
    let head = c.self.invariant.2 in
    let offer = c.plain-offer.ensures in
    let right = c.no_pen-right.ensures in
    let node = c.self.inside.node in
    let log = c.self.inside.seen.log in
    let P : List (Option g.row.E.Denot) → Type 0 = λ l. IsLegal (l ++ None ∷ []) in
    let may : P (part_at node log) = subst P (sym c.self.invariant.3) (legal_more (events_of (part_at node log)) None) in
    let book : c.self.inside.seen.book ≡ c.self.inside.head.book = c.self.invariant.1 ∙ sym (ap (λ w. w.book) head) in (
      ap (λ w. w.tracked) head,
      book,
      right.0 ∙ book,
      offer.0,
      rw (ap (λ w. w.key) head, right.1, offer.1, offer.3) (adds_moves log node g.J.Naming.nodes (Ended node) None c.self.inside.count c.self.invariant.4 c.self.invariant.5 (sym c.self.invariant.0) may (ended_of node)),
    )

pub invariant_of-result : goal.invariant_of-result
invariant_of-result g c =
    let node = c.self.inside.node in
    let log = c.self.inside.seen.log in
    let key : c.self.inside.head.key ≡ node = ap (λ w. w.key) c.self.invariant.2 in
    let asked : part_at node (c.plain-offer.result.ask ∷ []) ≡ None ∷ [] = ap (λ a. part_at node (a ∷ [])) c.plain-offer.ensures.1 ∙ (ended_of node).own in
    let told = rw key at c.compare_exchange-found.ensures.7 in
    let added = was_added (part_at node log) (part_at node c.compare_exchange-found.new.seen.log) (part_at node (c.plain-offer.result.ask ∷ [])) None c.compare_exchange-found.result c.self.inside.count c.if-found-count.false asked told in
    let ended = is_ended (part_at node log) (part_at node c.compare_exchange-found.new.seen.log) c.self.invariant.3 added in
    (c.compare_exchange-found.ensures.0 ∙ c.self.invariant.1, ended.plain, c.self.invariant.5)

pub returns : goal.returns
returns g c =
    let node = c.self.inside.node in
    let log = c.self.inside.seen.log in
    let key : c.self.inside.head.key ≡ node = ap (λ w. w.key) c.self.invariant.2 in
    let asked : part_at node (c.plain-offer.result.ask ∷ []) ≡ None ∷ [] = ap (λ a. part_at node (a ∷ [])) c.plain-offer.ensures.1 ∙ (ended_of node).own in
    let told = rw key at c.compare_exchange-found.ensures.7 in
    let added = was_added (part_at node log) (part_at node c.compare_exchange-found.new.seen.log) (part_at node (c.plain-offer.result.ask ∷ [])) None c.compare_exchange-found.result c.self.inside.count c.if-found-count.false asked told in
    let ended = is_ended (part_at node log) (part_at node c.compare_exchange-found.new.seen.log) c.self.invariant.3 added in
    pair_is (ap (λ (v : ℕ × List g.row.E.Denot). v.0) c.self.view_is) (ended.events ∙ ap (λ (v : ℕ × List g.row.E.Denot). v.1) c.self.view_is)
