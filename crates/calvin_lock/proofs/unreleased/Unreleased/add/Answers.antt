use Rattle.std.proofs.Common.{◌≡◌, ◌↔◌, ℕ, true, Some, ◌++◌, ◌∷◌, [], inl, inr, refl, subst, sym, ◌∙◌, arith}
use Rattle.std.proofs.lemmas.Option.{none-some}
use Rattle.calvin_types.specs.Places.{IsBefore}
use Rattle.calvin_types.proofs.PlaceOrder.{not_before_itself, not_both}
use Rattle.calvin_types.specs.declared.key_set.Sets.{Sets}
use Rattle.calvin_lock.specs.declared.unreleased.Pending.{Pending}
use Rattle.calvin_lock.specs.Marks.{is_marked}
use Rattle.calvin_lock.specs.Unreleased.{Among, Rises, IsReadyAt}
use Rattle.calvin_lock.proofs.Entries.{on_ok}
use Rattle.calvin_lock.proofs.RisingPlaces.{among_push, push_last, push_keeps, rises_push, number_pushed}
use Rattle.calvin_lock.proofs.ReadyPlaces.{entry_now, listed_now, marked_at, ready_at, marked_pushed, ready_waits_none}
use Rattle.calvin_lock.proofs.unreleased.Unreleased.add.Goals as goal

abbrev made : Sets → ℕ → ℕ → Pending
made sets waits near = record { sets = sets; waits = waits; near = near }

pub returns-then-waits-eq0-clause-kept : goal.returns-then-waits-eq0-clause-kept
returns-then-waits-eq0-clause-kept c =
    let es = c.args.self.now.places.entries in
    let xs = c.args.self.now.order.items in
    let now = c.insert-added.new.self.entries in
    let place = c.args.place in
    let updated = (on_ok c.insert-added.result c.unwrap-before.result c.unwrap-before.ensures c.insert-added.ensures.updates).0 in
    let items = c.push_reserved.ensures.items in
    let rises = rises_push xs place c.requires.kept.rises c.requires.last in
    let number = number_pushed xs place c.len-near.result rises (omega (arith, c.len-near.ensures, c.args.self.now.order.ok.0)) in
    let was = marked_pushed xs es place c.requires.new (is_marked c.args.self.now.marks) c.requires.kept.marked in
    record {
      rises = subst Rises (sym items) rises;
      listed = λ q p found. subst (λ l. Among l q) (sym items) (listed_now es now place (Some (made c.args.sets c.args.waits c.len-near.result)) updated (xs ++ place ∷ []) (λ r is. push_last xs place) (λ x r there. push_keeps xs place x (c.requires.kept.listed x r there)) q p found);
      kept = c.mark.ensures.kept;
      fits = omega (arith, c.mark.ensures.leaves, c.push_reserved.ensures.len, c.push_reserved.new.self.ok.0, c.requires.room);
      marked = λ k. subst (λ l. (is_marked c.mark.new.self k ≡ true) ↔ IsReadyAt l now k) (sym items)
          (marked_at es now place (Some (made c.args.sets c.args.waits c.len-near.result)) updated (xs ++ place ∷ []) c.len-near.result number (is_marked c.args.self.now.marks) (is_marked c.mark.new.self) was c.mark.ensures.others
          (λ marked. (made c.args.sets c.args.waits c.len-near.result, entry_now es now place (Some (made c.args.sets c.args.waits c.len-near.result)) updated, c.if-waits-eq0.true), λ ready. c.mark.ensures.marked) k);
    }

pub returns-then-waits-eq0-clause-order : goal.returns-then-waits-eq0-clause-order
returns-then-waits-eq0-clause-order c = λ q there before. elim (among_push c.args.self.now.order.items c.args.place q (subst (λ l. Among l q) c.push_reserved.ensures.items there)) [
  | inl same ↦ not_before_itself q (subst (λ p. IsBefore p q) same before)
  | inr old ↦ not_both c.args.place q before (c.requires.last q old)
]

pub returns-clause-kept : goal.returns-clause-kept
returns-clause-kept c =
    let es = c.args.self.now.places.entries in
    let xs = c.args.self.now.order.items in
    let now = c.insert-added.new.self.entries in
    let place = c.args.place in
    let updated = (on_ok c.insert-added.result c.unwrap-before.result c.unwrap-before.ensures c.insert-added.ensures.updates).0 in
    let items = c.push_reserved.ensures.items in
    let rises = rises_push xs place c.requires.kept.rises c.requires.last in
    let number = number_pushed xs place c.len-near.result rises (omega (arith, c.len-near.ensures, c.args.self.now.order.ok.0)) in
    let was = marked_pushed xs es place c.requires.new (is_marked c.args.self.now.marks) c.requires.kept.marked in
    record {
      rises = subst Rises (sym items) rises;
      listed = λ q p found. subst (λ l. Among l q) (sym items) (listed_now es now place (Some (made c.args.sets c.args.waits c.len-near.result)) updated (xs ++ place ∷ []) (λ r is. push_last xs place) (λ x r there. push_keeps xs place x (c.requires.kept.listed x r there)) q p found);
      kept = c.requires.kept.kept;
      fits = omega (arith, c.push_reserved.ensures.len, c.push_reserved.new.self.ok.0, c.requires.room);
      marked = λ k. subst (λ l. (is_marked c.args.self.now.marks k ≡ true) ↔ IsReadyAt l now k) (sym items)
          (marked_at es now place (Some (made c.args.sets c.args.waits c.len-near.result)) updated (xs ++ place ∷ []) c.len-near.result number (is_marked c.args.self.now.marks) (is_marked c.args.self.now.marks) was (λ j apart. refl) (
            λ marked. (let early = (ready_at (xs ++ place ∷ []) es c.len-near.result place number.0).0 ((was c.len-near.result).0 marked) in absurd (none-some early.0 (sym c.requires.new ∙ early.1))),
            λ ready. absurd (c.if-waits-eq0.false (ready_waits_none now place (made c.args.sets c.args.waits c.len-near.result) (entry_now es now place (Some (made c.args.sets c.args.waits c.len-near.result)) updated) ready)),
          ) k);
    }

pub returns-clause-order : goal.returns-clause-order
returns-clause-order c = λ q there before. elim (among_push c.args.self.now.order.items c.args.place q (subst (λ l. Among l q) c.push_reserved.ensures.items there)) [
  | inl same ↦ not_before_itself q (subst (λ p. IsBefore p q) same before)
  | inr old ↦ not_both c.args.place q before (c.requires.last q old)
]
