-- An input is read and dealt with, piece after piece.
use Rattle.std.proofs.Common.{arith, ℕ, ◌+◌, ◌≤◌, ◌≡◌, List, [], ◌∷◌, ◌++◌, Bool, true, false, refl, sym, ◌∙◌, ap, subst, map, length, take, length-take, nat_le, if◌then◌else◌, append_assoc, append-nil, Option, Some, None, Result, Err, IfSome}
use Rattle.std.proofs.lemmas.List.{map-append, take_all}
use Rattle.std.proofs.lemmas.Bool.Decides.{nat_tests}
use Rattle.std.specs.Io.KnownBytes.{Consumes, IsAtEnd}
use mathlib.Core.List.{IsPrefix}
use Rattle.calvin_types.specs.declared.fault.Fault.{Fault}
use Rattle.calvin_types.specs.declared.fault.Fault.TheVariants.{BadJson}
use Rattle.calvin_app.specs.Meaning.{Meaning}
use Rattle.calvin_script.specs.Grammar.{Grammar}
use Rattle.calvin_script.specs.Reading.{and_then, json}
use Rattle.calvin_journal_log.specs.Disks.{Disk}
use Rattle.calvin_serve_desk.specs.Desks.{Standing}
use Rattle.calvin_serve_input.specs.Inputs.{Held, coming, input_lines}
use Rattle.calvin_serve_lines.specs.Asking.{Asked, asked_or, request_line}
use Rattle.calvin_serve_lines.specs.declared.limits.TheConstants.{MOST_LINE_BYTES}
use Rattle.calvin_serve.specs.Serving.{Sitting, Follows, Ends, Serves, Takes, TakesInPart, ServesInput, EndsInput, read_as, lines_left}

-- ---- of a line that is longer than one may be no more is needed than that it is

module _ {Args : Type 0} (grammar : Grammar Args) (partitions : ℕ) where
  if_long : (short : Bool) (r : Result (Asked Args) Fault) → short ≡ false → (if short then r else Err BadJson) ≡ Err BadJson
  if_long true r is = absurd (cc is)
  if_long false r is = refl

  too_long : (line : List ℕ) → nat_le (length line) MOST_LINE_BYTES ≡ false → request_line grammar partitions line ≡ Err BadJson
  unfolding request_line
  too_long line long = if_long (nat_le (length line) MOST_LINE_BYTES) (and_then (json line) (asked_or grammar partitions)) long

  over : (n : ℕ) → nat_le n (MOST_LINE_BYTES + 1) ≡ false → nat_le n MOST_LINE_BYTES ≡ false
  over n is = grind (arith, nat_tests)

  over_by_one : (n : ℕ) → n ≡ MOST_LINE_BYTES + 1 → nat_le n MOST_LINE_BYTES ≡ false
  over_by_one n is = grind (arith, nat_tests)

  one_kept : (short : Bool) (line : List ℕ) → nat_le (length line) (MOST_LINE_BYTES + 1) ≡ short → request_line grammar partitions (take (MOST_LINE_BYTES + 1) line) ≡ request_line grammar partitions line
  one_kept true line is =
      let fits : length line ≤ MOST_LINE_BYTES + 1 = grind (arith, nat_tests) in
      ap (request_line grammar partitions) (take_all (MOST_LINE_BYTES + 1) line fits)
  one_kept false line is =
      let long : MOST_LINE_BYTES + 1 ≤ length line = grind (arith, nat_tests) in
      too_long (take (MOST_LINE_BYTES + 1) line) (over_by_one (length (take (MOST_LINE_BYTES + 1) line)) (length_all (MOST_LINE_BYTES + 1) line long)) ∙ sym (too_long line (over (length line) is))
    where
      length_all : (n : ℕ) (bytes : List ℕ) → n ≤ length bytes → length (take n bytes) ≡ n
      length_all n bytes fits = omega (arith, fits, length-take n bytes)

  all_kept : (lines : List (List ℕ)) → map (request_line grammar partitions) (map (take (MOST_LINE_BYTES + 1)) lines) ≡ map (request_line grammar partitions) lines
  all_kept [] = refl
  all_kept (line ∷ lines) = (λ i. one_kept (nat_le (length line) (MOST_LINE_BYTES + 1)) line refl i ∷ all_kept lines i)

  -- the lines of all bytes, of an input of which none was read
  pub whole_input : (bytes : List ℕ) → map (request_line grammar partitions) (coming (record { most = MOST_LINE_BYTES + 1; begin = []; ahead = [] }) bytes) ≡ map (request_line grammar partitions) (input_lines bytes)
  whole_input bytes = all_kept (input_lines bytes)

-- ---- what is left

-- these lines were handed out, and what is left gives the others
abbrev pub IsLeft : Held → Option (List ℕ) → List (List ℕ) → Held → Option (List ℕ) → Type 0
IsLeft start None found input left = Unit {0}
IsLeft start (Some bytes) found input None = ⊥
IsLeft start (Some bytes) found input (Some left) = coming start bytes ≡ found ++ coming input left

pub left_more : (start : Held) (told : Option (List ℕ)) (found more : List (List ℕ)) (input input_now : Held) (left : Option (List ℕ)) → IsLeft start told found input left
    → ((rest : List ℕ) → coming input rest ≡ more ++ coming input_now rest) → IsLeft start told (found ++ more) input_now left
left_more start None found more input input_now left is handed = tt
left_more start (Some bytes) found more input input_now None is handed = absurd is
left_more start (Some bytes) found more input input_now (Some rest) is handed = is ∙ ap (λ w. found ++ w) (handed rest) ∙ sym (append_assoc found more (coming input_now rest))

pub left_read : (start : Held) (told : Option (List ℕ)) (found : List (List ℕ)) (input input_now : Held) (left left_now : Option (List ℕ)) → IsLeft start told found input left
    → input.ahead ≡ [] → input_now.most ≡ input.most → input_now.begin ≡ input.begin → Consumes left left_now input_now.ahead → IsLeft start told found input_now left_now
left_read start None found input input_now left left_now is none most begin taken = tt
left_read start (Some bytes) found input input_now None left_now is none most begin taken = absurd is
left_read start (Some bytes) found input input_now (Some rest) None is none most begin taken = absurd taken
left_read start (Some bytes) found input input_now (Some rest) (Some rest_now) is none most begin taken =
    is ∙ ap (λ w. found ++ w) ((λ i. map (take (sym most i)) (input_lines (sym begin i ++ (none i ++ taken i)))))

at_end : (start : Held) (bytes : List ℕ) (found : List (List ℕ)) (input : Held) (left : Option (List ℕ)) → IsLeft start (Some bytes) found input left → IsAtEnd left → coming start bytes ≡ found ++ coming input []
at_end start bytes found input None is end = absurd is
at_end start bytes found input (Some rest) is end = is ∙ ap (λ w. found ++ coming input w) end

begins : (start : Held) (bytes : List ℕ) (found : List (List ℕ)) (input : Held) (left : Option (List ℕ)) → IsLeft start (Some bytes) found input left → IsPrefix found (coming start bytes)
begins start bytes found input None is = absurd is
begins start bytes found input (Some rest) is = (coming input rest, sym is)

prefix-map : {A B : Type 0} (f : A → B) (xs ys : List A) → IsPrefix xs ys → IsPrefix (map f xs) (map f ys)
prefix-map f xs ys p = (map f p.0, sym (map-append f xs p.0) ∙ ap (map f) p.1)

module _ {Args Row Reply : Type 0} (m : Meaning Args Row Reply) (show : Reply → List ℕ) (grammar : Grammar Args) (start : Held) (told : Option (List ℕ)) (before : Sitting Args Row) (out_before : Option (List ℕ)) where
  -- how far an input is dealt with
  pub record SoFar (input : Held) (left : Option (List ℕ)) (now : Sitting Args Row) (out_now : Option (List ℕ)) : Type 0 where
    pub found : List (List ℕ)
    pub follows : (old : Standing Row) (out : Option (List ℕ)) (lines : List (Result (Asked Args) Fault)) → Follows m show grammar old out lines before out_before
        → Follows m show grammar old out (lines ++ read_as m show grammar old found) now out_now
    pub is_left : IsLeft start told found input left

  nothing_yet : (t : Option (List ℕ)) → IsLeft start t [] start t
  nothing_yet None = tt
  nothing_yet (Some bytes) = refl

  pub so_far-none : (left : Option (List ℕ)) → told ≡ left → SoFar start left before out_before
  so_far-none left same = record {
    found = [];
    follows = λ old out lines f. subst (λ ls. Follows m show grammar old out ls before out_before) (sym (append-nil lines)) f;
    is_left = subst (IsLeft start told [] start) same (nothing_yet told);
  }

  module _ (input : Held) (left : Option (List ℕ)) (now : Sitting Args Row) (out_now : Option (List ℕ)) (s : SoFar input left now out_now) where
    read_so : (old : Standing Row) (lines : List (Result (Asked Args) Fault)) (more : List (List ℕ))
        → (lines ++ read_as m show grammar old s.found) ++ read_as m show grammar old more ≡ lines ++ read_as m show grammar old (s.found ++ more)
    read_so old lines more =
        append_assoc lines (read_as m show grammar old s.found) (read_as m show grammar old more)
        ∙ ap (λ w. lines ++ w) (sym (map-append (request_line grammar old.setting.partitions) s.found more))

    pub so_far-lines : (input_now : Held) (new : Sitting Args Row) (out_new : Option (List ℕ)) → Takes m show grammar input input_now now out_now new out_new → SoFar input_now left new out_new
    so_far-lines input_now new out_new t = record {
      found = s.found ++ t.found;
      follows = λ old out lines f. subst (λ ls. Follows m show grammar old out ls new out_new) (read_so old lines t.found) (t.follows old out (lines ++ read_as m show grammar old s.found) (s.follows old out lines f));
      is_left = left_more start told s.found t.found input input_now left s.is_left t.handed;
    }

    pub so_far-read : (input_now : Held) (left_now : Option (List ℕ)) → input.ahead ≡ [] → input_now.most ≡ input.most → input_now.begin ≡ input.begin → Consumes left left_now input_now.ahead
        → SoFar input_now left_now now out_now
    so_far-read input_now left_now none most begin taken = record {
      found = s.found;
      follows = s.follows;
      is_left = left_read start told s.found input input_now left left_now s.is_left none most begin taken;
    }

    -- all was read, and what was left of it was dealt with
    pub serves_whole : IsAtEnd left → (desk : Standing Row) (out_new : Option (List ℕ))
        → ((old : Standing Row) (out : Option (List ℕ)) (lines : List (Result (Asked Args) Fault)) → Follows m show grammar old out lines now out_now
        → Serves m show grammar old out (lines ++ read_as m show grammar old (coming input [])) desk out_new)
        → (old : Standing Row) (out : Option (List ℕ)) → Follows m show grammar old out [] before out_before → ServesInput m show grammar old out start told desk out_new
    serves_whole end desk out_new step old out f = record {
      lines = read_as m show grammar old s.found ++ read_as m show grammar old (coming input []);
      serves = step old out (read_as m show grammar old s.found) (s.follows old out [] f);
      all = all_of told s.is_left;
    }
      where
        all_of : (t : Option (List ℕ)) → IsLeft start t s.found input left → IfSome t (λ bytes. read_as m show grammar old s.found ++ read_as m show grammar old (coming input []) ≡ lines_left m show grammar old start bytes)
        all_of None is = tt
        all_of (Some bytes) is = sym (map-append (request_line grammar old.setting.partitions) s.found (coming input [])) ∙ ap (read_as m show grammar old) (sym (at_end start bytes s.found input left is end))

    pub ends_whole : IsAtEnd left → (disk : Option Disk) (out_new : Option (List ℕ))
        → ((old : Standing Row) (out : Option (List ℕ)) (lines : List (Result (Asked Args) Fault)) → Follows m show grammar old out lines now out_now
        → Ends m show grammar old out (lines ++ read_as m show grammar old (coming input [])) disk out_new)
        → (old : Standing Row) (out : Option (List ℕ)) → Follows m show grammar old out [] before out_before → EndsInput m show grammar old out start told disk out_new
    ends_whole end disk out_new step old out f = record {
      lines = read_as m show grammar old s.found ++ read_as m show grammar old (coming input []);
      ends = step old out (read_as m show grammar old s.found) (s.follows old out [] f);
      first = all_of told s.is_left;
    }
      where
        all_of : (t : Option (List ℕ)) → IsLeft start t s.found input left
            → IfSome t (λ bytes. IsPrefix (read_as m show grammar old s.found ++ read_as m show grammar old (coming input [])) (lines_left m show grammar old start bytes))
        all_of None is = tt
        all_of (Some bytes) is = (
          [],
          append-nil (read_as m show grammar old s.found ++ read_as m show grammar old (coming input []))
              ∙ sym (map-append (request_line grammar old.setting.partitions) s.found (coming input [])) ∙ ap (read_as m show grammar old) (sym (at_end start bytes s.found input left is end)),
        )

    -- it ends before all was read
    pub ends_now : (disk : Option Disk) (out_new : Option (List ℕ))
        → ((old : Standing Row) (out : Option (List ℕ)) (lines : List (Result (Asked Args) Fault)) → Follows m show grammar old out lines now out_now → Ends m show grammar old out lines disk out_new)
        → (old : Standing Row) (out : Option (List ℕ)) → Follows m show grammar old out [] before out_before → EndsInput m show grammar old out start told disk out_new
    ends_now disk out_new step old out f = record {
      lines = read_as m show grammar old s.found;
      ends = step old out (read_as m show grammar old s.found) (s.follows old out [] f);
      first = first_of told s.is_left;
    }
      where
        first_of : (t : Option (List ℕ)) → IsLeft start t s.found input left → IfSome t (λ bytes. IsPrefix (read_as m show grammar old s.found) (lines_left m show grammar old start bytes))
        first_of None is = tt
        first_of (Some bytes) is = prefix-map (request_line grammar old.setting.partitions) s.found (coming start bytes) (begins start bytes s.found input left is)

    pub ends_in_lines : (disk : Option Disk) (out_new : Option (List ℕ)) → TakesInPart m show grammar input now out_now disk out_new
        → (old : Standing Row) (out : Option (List ℕ)) → Follows m show grammar old out [] before out_before → EndsInput m show grammar old out start told disk out_new
    ends_in_lines disk out_new t old out f = record {
      lines = read_as m show grammar old s.found ++ read_as m show grammar old t.found;
      ends = t.ends old out (read_as m show grammar old s.found) (s.follows old out [] f);
      first = first_of told s.is_left;
    }
      where
        first_of : (told_of : Option (List ℕ)) → IsLeft start told_of s.found input left
            → IfSome told_of (λ bytes. IsPrefix (read_as m show grammar old s.found ++ read_as m show grammar old t.found) (lines_left m show grammar old start bytes))
        first_of None is = tt
        first_of (Some bytes) is =
            subst (λ w. IsPrefix w (lines_left m show grammar old start bytes)) (map-append (request_line grammar old.setting.partitions) s.found t.found)
            (prefix-map (request_line grammar old.setting.partitions) (s.found ++ t.found) (coming start bytes)
            (begins start bytes (s.found ++ t.found) t.input_now left (left_more start (Some bytes) s.found t.found input t.input_now left is t.handed)))
