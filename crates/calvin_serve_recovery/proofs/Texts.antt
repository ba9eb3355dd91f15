-- What is printed of the epochs of a journal.
use Rattle.std.proofs.Common.{ℕ, ◌+◌, ◌≡◌, List, [], ◌++◌, sym, ◌∙◌, ap, subst, length, take, append_assoc, append-nil, Option, Some, None, IfSome, Ok, inl, inr}
use Rattle.std.proofs.Math.Seq.{take-append-add, take-length}
use Rattle.std.specs.Io.KnownBytes.{Appends}
use Rattle.calvin_app.specs.Rows.{Rows}
use Rattle.calvin_app.specs.Meaning.{Meaning}
use Rattle.calvin_text.specs.Texts.{finished}
use Rattle.calvin_script.specs.Grammar.{Grammar}
use Rattle.calvin_journal.specs.Readings.{Lines}
use Rattle.calvin_serve_rows.specs.Starts.{Start}
use Rattle.calvin_serve_desk.specs.declared.setting.Setting.{Setting}
use Rattle.calvin_serve_recovery.specs.Recovered.{epochs_of}
use Rattle.calvin_serve_recovery.specs.Runs.{Runs, RunsNext, PrintsAll, PrintsSome}
use Rattle.calvin_serve_recovery.proofs.Steps.{runs_more, all_run}

pub appends-none : (out : Option (List ℕ)) → Appends out out []
appends-none None = tt
appends-none (Some bytes) = sym (append-nil bytes)

pub appends-more : (a b c : Option (List ℕ)) (xs ys : List ℕ) → Appends a b xs → Appends b c ys → Appends a c (xs ++ ys)
appends-more None b c xs ys p q = tt
appends-more (Some a) None c xs ys p q = absurd p
appends-more (Some a) (Some b) None xs ys p q = absurd q
appends-more (Some a) (Some b) (Some c) xs ys p q = q ∙ ap (λ w. w ++ ys) p ∙ append_assoc a xs ys

-- a text, and a beginning of the next one, is a beginning of both
in_part : (a b c : Option (List ℕ)) (xs ys : List ℕ) (n : ℕ) → Appends a b xs → Appends b c (take n ys) → Appends a c (take (length xs + n) (xs ++ ys))
in_part a b c xs ys n p q = subst (Appends a c) (sym (take-append-add xs ys n)) (appends-more a b c xs (take n ys) p q)

module _ {Args Row Reply : Type 0} (m : Meaning Args Row Reply) (show : Reply → List ℕ) (grammar : Grammar Args) (setting : Setting) (start : Start Row) (old new : Option Lines) (e : ℕ) (rows : Rows Row) (said : List ℕ)
    (r : Runs m show grammar setting start old new e rows said) (out out_now : Option (List ℕ)) where
  -- the texts of the epochs that were run, or a part of them
  pub prints_so_far : (size : ℕ) → Appends out out_now (take size said) → IfSome old (λ lines. PrintsSome m show grammar setting start lines out out_now)
  prints_so_far size printed = go old new r
    where
      go : (old new : Option Lines) → Runs m show grammar setting start old new e rows said → IfSome old (λ lines. PrintsSome m show grammar setting start lines out out_now)
      go None new r = tt
      go (Some old) None r = absurd r.handed
      go (Some old) (Some new) r =
          record { first = r.handed.0; others = new.ahead; parts = r.handed.1; epochs = r.epochs; spelled = r.handed.3; rows = rows; said = said; answered = r.answered; size = size; printed = inl printed }

  pub prints_as_far : Appends out out_now said → IfSome old (λ lines. PrintsSome m show grammar setting start lines out out_now)
  prints_as_far printed = prints_so_far (length said) (subst (Appends out out_now) (sym (take-length said)) printed)

  module _ (end : IfSome new (λ lines. lines.ahead ≡ [])) (printed : Appends out out_now said) (out_new : Option (List ℕ)) where
    pub prints_all : Appends out_now out_new (finished e) → IfSome old (λ lines. PrintsAll m show grammar setting start lines out out_new)
    prints_all last = go old (all_run m show grammar setting start r.epochs old new r.handed end)
      where
        go : (old : Option Lines) → IfSome old (λ lines. epochs_of grammar setting.partitions lines.ahead ≡ Ok r.epochs) → IfSome old (λ lines. PrintsAll m show grammar setting start lines out out_new)
        go None all = tt
        go (Some old) all =
            record { epochs = r.epochs; spelled = all; rows = rows; said = said; answered = r.answered; printed = subst (λ n. Appends out out_new (said ++ finished n)) r.count (appends-more out out_now out_new said (finished e) printed last) }

    pub prints_to_end : (n : ℕ) → Appends out_now out_new (take n (finished e)) → IfSome old (λ lines. PrintsSome m show grammar setting start lines out out_new)
    prints_to_end n last = go old new r end
      where
        go : (old new : Option Lines) → Runs m show grammar setting start old new e rows said → IfSome new (λ lines. lines.ahead ≡ []) → IfSome old (λ lines. PrintsSome m show grammar setting start lines out out_new)
        go None new r end = tt
        go (Some old) None r end = absurd r.handed
        go (Some old) (Some new) r end = record {
          first = r.handed.0;
          others = new.ahead;
          parts = r.handed.1;
          epochs = r.epochs;
          spelled = r.handed.3;
          rows = rows;
          said = said;
          answered = r.answered;
          size = length said + n;
          printed = inr (end, subst (λ k. Appends out out_new (take (length said + n) (said ++ finished k))) r.count (in_part out out_now out_new said (finished e) n printed last));
        }

  -- the next epoch is printed in part
  pub prints_next_in_part : Appends out out_now said → (next : Option Lines) (f : ℕ) (after : Rows Row) (text : List ℕ) → RunsNext m show grammar setting new e rows next f after text
      → (out_new : Option (List ℕ)) (n : ℕ) → Appends out_now out_new (take n text) → IfSome old (λ lines. PrintsSome m show grammar setting start lines out out_new)
  prints_next_in_part printed next f after text s out_new n part = go old next (runs_more m show grammar setting start old new e rows said r next f after text s)
    where
      go : (old next : Option Lines) → Runs m show grammar setting start old next f after (said ++ text) → IfSome old (λ lines. PrintsSome m show grammar setting start lines out out_new)
      go None next r = tt
      go (Some old) None r = absurd r.handed
      go (Some old) (Some next) r =
          record { first = r.handed.0; others = next.ahead; parts = r.handed.1; epochs = r.epochs; spelled = r.handed.3; rows = after; said = said ++ text; answered = r.answered; size = length said + n; printed = inl (in_part out out_now out_new said text n printed part) }
