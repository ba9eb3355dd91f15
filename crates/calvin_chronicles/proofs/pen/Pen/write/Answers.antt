use Rattle.std.proofs.Common.{◌≡◌, ◌∙◌, ◌<◌, ◌++◌, ◌∷◌, [], ℕ, List, Option, Some, ap, sym, subst, length, arith}
use Rattle.calvin_chronicles.specs.declared.law.Entry.TheVariants.{Did}
use Rattle.calvin_chronicles.specs.Histories.{IsLegal, events_of, part_at, nodes_of}
use Rattle.calvin_chronicles.proofs.Prefixes.{legal_more}
use Rattle.calvin_chronicles.proofs.Parts.{did_of, pair_is, nodes_of-prefix, nodes_some}
use Rattle.calvin_chronicles.proofs.Adding.{adds_moves, was_added, IsWritten, is_written}
use Rattle.calvin_chronicles.proofs.pen.Pen.write.Goals as goal

pub compare_exchange-found-requires : goal.compare_exchange-found-requires
compare_exchange-found-requires g c =
    let head = c.self.invariant.2 in
    let offer = c.plain-offer.ensures in
    let right = c.no_pen-right.ensures in
    let again = c.again-seen.ensures in
    let node = c.self.inside.node in
    let log = c.self.inside.seen.log in
    let log' = c.again-seen.result.log in
    let e = c.args.event.now in
    let same : log ≡ log' = sym (ap (λ s. s.log) again) in
    let P : List (Option g.row.E.Denot) → Type 0 = λ l. IsLegal (l ++ Some e ∷ []) in
    let may : P (part_at node log) = subst P (sym c.self.invariant.3) (legal_more (events_of (part_at node log)) (Some e)) in
    let may' : P (part_at node log') = subst P (ap (part_at node) same) may in
    let length_is : length (part_at node log') ≡ c.self.inside.count = sym (c.self.invariant.0 ∙ ap (λ l. length (part_at node l)) same) in
    let nodes : nodes_of log' ≡ g.J.Naming.nodes = ap nodes_of (sym same) ∙ c.self.invariant.4 in
    let book : c.again-seen.result.book ≡ c.self.inside.head.book = ap (λ s. s.book) again ∙ (c.self.invariant.1 ∙ sym (ap (λ w. w.book) head)) in (
      ap (λ w. w.tracked) head,
      book,
      right.0 ∙ book,
      offer.0,
      rw (ap (λ w. w.key) head, right.1, offer.1, offer.3) (adds_moves log' node g.J.Naming.nodes (Did node e) (Some e) c.self.inside.count nodes c.self.invariant.5 length_is may' (did_of node e)),
    )

written : (g : _) (c : goal.After-drop-offer-2 g) → IsWritten (part_at c.self.inside.node c.self.inside.seen.log) (part_at c.self.inside.node c.compare_exchange-found.new.seen.log) c.args.event.now
written g c =
    let node = c.self.inside.node in
    let log = c.self.inside.seen.log in
    let log' = c.again-seen.result.log in
    let e = c.args.event.now in
    let same : log' ≡ log = ap (λ s. s.log) c.again-seen.ensures in
    let key : c.self.inside.head.key ≡ node = ap (λ w. w.key) c.self.invariant.2 in
    let asked : part_at node (c.plain-offer.result.ask ∷ []) ≡ Some e ∷ [] = ap (λ a. part_at node (a ∷ [])) c.plain-offer.ensures.1 ∙ (did_of node e).own in
    let told = rw key at c.compare_exchange-found.ensures.7 in
    let added = was_added (part_at node log') (part_at node c.compare_exchange-found.new.seen.log) (part_at node (c.plain-offer.result.ask ∷ [])) (Some e) c.compare_exchange-found.result c.self.inside.count c.if-found-count.false asked told in
    is_written (part_at node log) (part_at node c.compare_exchange-found.new.seen.log) e c.self.invariant.3 (added ∙ ap (λ l. part_at node l ++ Some e ∷ []) same)

pub invariant_of-self : goal.invariant_of-self
invariant_of-self g c =
    let w = written g c in
    let log' = c.again-seen.result.log in
    let same : log' ≡ c.self.inside.seen.log = ap (λ s. s.log) c.again-seen.ensures in
    let nodes : nodes_of log' ≡ g.J.Naming.nodes = ap nodes_of same ∙ c.self.invariant.4 in
    let some : 0 < nodes_of log' = omega (arith, nodes, c.self.invariant.5) in (
      omega (arith, c.self.invariant.0, w.longer),
      c.compare_exchange-found.ensures.0 ∙ (ap (λ s. s.book) c.again-seen.ensures ∙ c.self.invariant.1),
      c.self.invariant.2,
      w.plain,
      sym (nodes_of-prefix log' c.compare_exchange-found.new.seen.log (nodes_some log' some) c.compare_exchange-found.ensures.6) ∙ nodes,
      c.self.invariant.5,
    )

pub returns : goal.returns
returns g c =
    let w = written g c in
    pair_is (ap (λ (v : ℕ × List g.row.E.Denot). v.0) c.self.view_is) (w.events ∙ ap (λ (v : ℕ × List g.row.E.Denot). v.1 ++ c.args.event.now ∷ []) c.self.view_is)
