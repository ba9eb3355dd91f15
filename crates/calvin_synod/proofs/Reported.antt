-- The vote of the greatest ballot, of reports with some more at the end.
use Rattle.std.proofs.Common.{◌≡◌, ◌∙◌, ℕ, true, cond, List, [], ◌∷◌, ◌++◌, Option, Some, None, refl, sym, ap}
use Rattle.calvin_synod.specs.declared.vote.Vote.{Vote}
use Rattle.calvin_synod.specs.declared.attempt.Report.{Report}
use Rattle.calvin_synod.specs.declared.attempt.Attempt.{Attempt}
use Rattle.calvin_synod.specs.Roles.{higher, highest, batch_or, batch_of, with_report, is_enough, batch_due}

module _ {B : Type 0} where
  higher_none : (v : Option (Vote B)) → higher v None ≡ v
  higher_none None = refl
  higher_none (Some v) = refl

  -- of two reports more at the end the one with the higher vote is enough
  pub highest_push : (reports : List (Report B)) (r last : Report B) → highest ((reports ++ r ∷ []) ++ last ∷ []) ≡ highest (reports ++ record { from = last.from; vote = higher r.vote last.vote } ∷ [])
  highest_push [] r last = ap (higher r.vote) (higher_none last.vote) ∙ sym (higher_none (higher r.vote last.vote))
  highest_push (x ∷ reports) r last = ap (higher x.vote) (highest_push reports r last)

  -- a report more that names no vote changes nothing
  pub highest_none : (reports : List (Report B)) (from : ℕ) → highest (reports ++ record { from = from; vote = None } ∷ []) ≡ highest reports
  highest_none [] from = refl
  highest_none (x ∷ reports) from = ap (higher x.vote) (highest_none reports from)

  -- the batch that is due, by the highest vote
  pub due_is : (size : ℕ) (attempt : Option (Attempt B)) (t : Attempt B) (from : ℕ) (vote : Option (Vote B)) → attempt ≡ Some t → is_enough size t ≡ true → (h : Option (Vote B)) → h ≡ highest (with_report t from vote) → Some (batch_or t.own h) ≡ batch_due size attempt from vote
  due_is size attempt t from vote is enough h e =
      ap (λ v. Some (batch_or t.own v)) e
      ∙ sym (ap (λ o. batch_due size o from vote) is ∙ ap (λ b. cond b (Some (batch_of t.own (with_report t from vote))) None) enough)
