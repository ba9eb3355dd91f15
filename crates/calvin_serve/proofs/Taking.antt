-- Lines of an input are dealt with, one after another.
use Rattle.std.proofs.Common.{ℕ, ◌≡◌, List, [], ◌∷◌, ◌++◌, refl, sym, ◌∙◌, ap, subst, append_assoc, append-nil, Option, Result}
use Rattle.std.proofs.lemmas.List.{map-append}
use Rattle.calvin_types.specs.declared.fault.Fault.{Fault}
use Rattle.calvin_app.specs.Meaning.{Meaning}
use Rattle.calvin_script.specs.Grammar.{Grammar}
use Rattle.calvin_journal_log.specs.Disks.{Disk}
use Rattle.calvin_serve_desk.specs.Desks.{Standing}
use Rattle.calvin_serve_input.specs.Inputs.{Held, coming}
use Rattle.calvin_serve_lines.specs.Asking.{Asked, request_line}
use Rattle.calvin_serve.specs.Serving.{Sitting, Follows, Ends, Takes, TakesInPart, read_as}

module _ {Args Row Reply : Type 0} (m : Meaning Args Row Reply) (show : Reply → List ℕ) (grammar : Grammar Args) (input : Held) (before : Sitting Args Row) (out_before : Option (List ℕ)) where
  pub takes_none : Takes m show grammar input input before out_before before out_before
  takes_none = record {
    found = [];
    handed = λ left. refl;
    follows = λ old out lines f. subst (λ ls. Follows m show grammar old out ls before out_before) (sym (append-nil lines)) f;
  }

  module _ (input_now : Held) (now : Sitting Args Row) (out_now : Option (List ℕ)) (t : Takes m show grammar input input_now before out_before now out_now) (input_new : Held) (line : List ℕ)
      (handed : (left : List ℕ) → coming input_now left ≡ line ∷ coming input_new left) where
    one_more : (left : List ℕ) → coming input left ≡ (t.found ++ line ∷ []) ++ coming input_new left
    one_more left = t.handed left ∙ ap (λ w. t.found ++ w) (handed left) ∙ sym (append_assoc t.found (line ∷ []) (coming input_new left))

    read_more : (old : Standing Row) (lines : List (Result (Asked Args) Fault))
        → (lines ++ read_as m show grammar old t.found) ++ request_line grammar old.setting.partitions line ∷ [] ≡ lines ++ read_as m show grammar old (t.found ++ line ∷ [])
    read_more old lines =
        append_assoc lines (read_as m show grammar old t.found) (request_line grammar old.setting.partitions line ∷ [])
        ∙ ap (λ w. lines ++ w) (sym (map-append (request_line grammar old.setting.partitions) t.found (line ∷ [])))

    pub takes_one : (new : Sitting Args Row) (out_new : Option (List ℕ))
        → ((old : Standing Row) (out : Option (List ℕ)) (lines : List (Result (Asked Args) Fault)) → Follows m show grammar old out lines now out_now
        → Follows m show grammar old out (lines ++ request_line grammar old.setting.partitions line ∷ []) new out_new)
        → Takes m show grammar input input_new before out_before new out_new
    takes_one new out_new step = record {
      found = t.found ++ line ∷ [];
      handed = one_more;
      follows = λ old out lines f. subst (λ ls. Follows m show grammar old out ls new out_new) (read_more old lines) (step old out (lines ++ read_as m show grammar old t.found) (t.follows old out lines f));
    }

    pub ends_at : (disk : Option Disk) (out_new : Option (List ℕ))
        → ((old : Standing Row) (out : Option (List ℕ)) (lines : List (Result (Asked Args) Fault)) → Follows m show grammar old out lines now out_now
        → Ends m show grammar old out (lines ++ request_line grammar old.setting.partitions line ∷ []) disk out_new)
        → TakesInPart m show grammar input before out_before disk out_new
    ends_at disk out_new step = record {
      found = t.found ++ line ∷ [];
      input_now = input_new;
      handed = one_more;
      ends = λ old out lines f. subst (λ ls. Ends m show grammar old out ls disk out_new) (read_more old lines) (step old out (lines ++ read_as m show grammar old t.found) (t.follows old out lines f));
    }

  module _ (input_now : Held) (now : Sitting Args Row) (out_now : Option (List ℕ)) (t : Takes m show grammar input input_now before out_before now out_now) where
    -- no line more
    pub takes_so : (input_new : Held) → ((left : List ℕ) → coming input_now left ≡ coming input_new left) → (new : Sitting Args Row) (out_new : Option (List ℕ))
        → ((old : Standing Row) (out : Option (List ℕ)) (lines : List (Result (Asked Args) Fault)) → Follows m show grammar old out lines now out_now → Follows m show grammar old out lines new out_new)
        → Takes m show grammar input input_new before out_before new out_new
    takes_so input_new same new out_new step = record {
      found = t.found;
      handed = λ left. t.handed left ∙ ap (λ w. t.found ++ w) (same left);
      follows = λ old out lines f. step old out (lines ++ read_as m show grammar old t.found) (t.follows old out lines f);
    }

    pub ends_so_far : (disk : Option Disk) (out_new : Option (List ℕ))
        → ((old : Standing Row) (out : Option (List ℕ)) (lines : List (Result (Asked Args) Fault)) → Follows m show grammar old out lines now out_now → Ends m show grammar old out lines disk out_new)
        → TakesInPart m show grammar input before out_before disk out_new
    ends_so_far disk out_new step = record {
      found = t.found;
      input_now = input_now;
      handed = t.handed;
      ends = λ old out lines f. step old out (lines ++ read_as m show grammar old t.found) (t.follows old out lines f);
    }
