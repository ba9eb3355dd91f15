use Rattle.std.proofs.Common.{◌≡◌, true, ◌⊎◌, inl, inr, sym, ◌∙◌}
use Rattle.std.proofs.lemmas.Bool.{false≢true}
use Rattle.calvin_lock.proofs.Conflicts.{meets, conflict_by_sets, sets_by_conflict}
use Rattle.calvin_lock.proofs.conflict.conflict.Goals as goal
use Rattle.calvin_lock.proofs.conflict.conflict.Goals.{then-meets, else-meets}

pub returns-then-meets-2 : goal.returns-then-meets-2
returns-then-meets-2 c = (
  λ _. conflict_by_sets c.args.a.now c.args.b.now (elim c.if-meets.branch [
    | then-meets w ↦ inl (sym c.meets.ensures ∙ w.if-meets.true)
    | else-meets w ↦ inr (inl (sym w.meets-else-meets.ensures ∙ sym w.value-is ∙ c.if-meets-2.true))
  ]),
  λ _. c.if-meets-2.true,
)

pub returns-else-meets-2 : goal.returns-else-meets-2
returns-else-meets-2 c = (
  λ met. conflict_by_sets c.args.a.now c.args.b.now (inr (inr (sym c.meets-else-meets-2.ensures ∙ met))),
  λ conflict. go (sets_by_conflict c.args.a.now c.args.b.now conflict),
)
  where
    none : (meets c.args.a.now.writes c.args.b.now.reads ≡ true) ⊎ (meets c.args.a.now.writes c.args.b.now.writes ≡ true) → ⊥
    none (inl wr) = elim c.if-meets.branch [
      | then-meets w ↦ false≢true (sym c.if-meets-2.false ∙ w.value-is ∙ w.if-meets.true)
      | else-meets w ↦ false≢true (sym w.if-meets.false ∙ c.meets.ensures ∙ wr)
    ]
    none (inr ww) = elim c.if-meets.branch [
      | then-meets w ↦ false≢true (sym c.if-meets-2.false ∙ w.value-is ∙ w.if-meets.true)
      | else-meets w ↦ false≢true (sym c.if-meets-2.false ∙ w.value-is ∙ w.meets-else-meets.ensures ∙ ww)
    ]

    go : (meets c.args.a.now.writes c.args.b.now.reads ≡ true) ⊎ ((meets c.args.a.now.writes c.args.b.now.writes ≡ true) ⊎ (meets c.args.a.now.reads c.args.b.now.writes ≡ true)) → c.meets-else-meets-2.result ≡ true
    go (inl wr) = absurd (none (inl wr))
    go (inr (inl ww)) = absurd (none (inr ww))
    go (inr (inr common)) = c.meets-else-meets-2.ensures ∙ common
