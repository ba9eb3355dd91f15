-- The lines of replies, one reply after another.
use Rattle.std.proofs.Common.{◌≡◌, ℕ, ◌+◌, true, false, cond, List, [], ◌∷◌, ◌++◌, take, Some, slice_get, ap, ◌∙◌}
use Rattle.std.proofs.lemmas.Grind.{flat_map-append}
use Rattle.std.proofs.lemmas.List.{append-nil}
use Rattle.std.proofs.lemmas.List.Elements.{filter-append}
use Rattle.calvin_types.specs.declared.place.Place.{Place}
use Rattle.calvin_types.specs.declared.place.RequestId.{RequestId}
use Rattle.calvin_types.proofs.Fews.{take_at}
use Rattle.calvin_app.specs.declared.answer.Answer.{Answer}
use Rattle.calvin_text.specs.Texts.{line}
use Rattle.calvin_report.specs.declared.replies.Epochs.{Epochs}
use Rattle.calvin_report.specs.Replies.{ByPlace, is_told, of_epochs, reply_lines}

module _ {Reply : Type 0} (show : Reply → List ℕ) (epochs : Epochs) (xs : ByPlace Reply) (i : ℕ) (e : Place × (RequestId × Answer Reply)) (here : slice_get xs i ≡ Some e) where
  one_more : reply_lines show (of_epochs epochs (take (i + 1) xs)) ≡ reply_lines show (of_epochs epochs (take i xs)) ++ reply_lines show (of_epochs epochs (e ∷ []))
  one_more = ap (λ es. reply_lines show (of_epochs epochs es)) (take_at xs i e here)
      ∙ ap (reply_lines show) (filter-append (λ (f : Place × (RequestId × Answer Reply)). is_told epochs f.0.epoch) (take i xs) (e ∷ []))
      ∙ flat_map-append (λ (f : Place × (RequestId × Answer Reply)). line show f.0 f.1.0 f.1.1) (of_epochs epochs (take i xs)) (of_epochs epochs (e ∷ []))

  pub told_more : is_told epochs e.0.epoch ≡ true → reply_lines show (of_epochs epochs (take (i + 1) xs)) ≡ reply_lines show (of_epochs epochs (take i xs)) ++ line show e.0 e.1.0 e.1.1
  told_more so = one_more ∙ ap (λ b. reply_lines show (of_epochs epochs (take i xs)) ++ reply_lines show (cond b (e ∷ []) [])) so
      ∙ ap (λ l. reply_lines show (of_epochs epochs (take i xs)) ++ l) (append-nil (line show e.0 e.1.0 e.1.1))

  pub passed_more : is_told epochs e.0.epoch ≡ false → reply_lines show (of_epochs epochs (take (i + 1) xs)) ≡ reply_lines show (of_epochs epochs (take i xs))
  passed_more so = one_more ∙ ap (λ b. reply_lines show (of_epochs epochs (take i xs)) ++ reply_lines show (cond b (e ∷ []) [])) so ∙ append-nil (reply_lines show (of_epochs epochs (take i xs)))
