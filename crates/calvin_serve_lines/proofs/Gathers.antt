-- One request more is gathered.
use Rattle.std.proofs.Common.{◌≡◌, ◌<◌, ◌+◌, ℕ, List, [], ◌∷◌, ◌++◌, Bool, true, false, map, length, get_or, nat_eq, nat_lt, refl, sym, ap, ap₂, ◌∙◌, arith, slice_set, append-nil}
use Rattle.std.specs.List.{filter, range_with_len}
use Rattle.std.proofs.lemmas.List.{map-append}
use Rattle.std.proofs.lemmas.List.Elements.{filter-append}
use Rattle.std.proofs.lemmas.Bool.{and_parts, ltb-true, eq-eqb, ne_eqb}
use Rattle.calvin_types.specs.declared.limits.TheConstants.{MOST_REQUESTS}
use Rattle.calvin_script.specs.declared.contents.Request.{Request}
use Rattle.calvin_serve_lines.specs.Asking.{Asked}
use Rattle.calvin_serve_lines.specs.Gathered.{waiting_for, gathered, has_room}
use Rattle.calvin_serve_lines.proofs.Lists.{put_at, get_at, get_or_any, length-given}

module _ {Args : Type 0} where
  length-gathered : (partitions : ℕ) (before : List (Asked Args)) → length (gathered partitions before) ≡ partitions
  length-gathered partitions before = length-given (λ group. waiting_for group before) partitions 0

  waiting_more : (group : ℕ) (before : List (Asked Args)) (a : Asked Args) → waiting_for group (before ++ a ∷ []) ≡ waiting_for group before ++ waiting_for group (a ∷ [])
  waiting_more group before a =
      ap (map (λ x. x.request)) (filter-append (λ x. nat_eq x.group group) before (a ∷ []))
      ∙ map-append (λ x. x.request) (filter (λ x. nat_eq x.group group) before) (filter (λ x. nat_eq x.group group) (a ∷ []))

  own : (before : List (Asked Args)) (a : Asked Args) → waiting_for a.group (before ++ a ∷ []) ≡ waiting_for a.group before ++ a.request ∷ []
  own before a = waiting_more a.group before a ∙ ap (λ r. waiting_for a.group before ++ r) (rw (eq-eqb a.group a.group refl) refl)

  others : (group : ℕ) (before : List (Asked Args)) (a : Asked Args) → (group ≡ a.group → ⊥) → waiting_for group (before ++ a ∷ []) ≡ waiting_for group before
  others group before a apart =
      let differ : nat_eq a.group group ≡ false = ne_eqb a.group group (λ is. apart (sym is)) in
      waiting_more group before a ∙ ap (λ r. waiting_for group before ++ r) (rw differ refl) ∙ append-nil (waiting_for group before)

  -- the group's requests, and the request behind them, in the place of the group's
  pub one_more : (partitions : ℕ) (before : List (Asked Args)) (a : Asked Args) (d : List (Request Args)) → a.group < partitions
      → slice_set (gathered partitions before) a.group (get_or (gathered partitions before) a.group d ++ a.request ∷ []) ≡ gathered partitions (before ++ a ∷ [])
  one_more partitions before a d within =
      let zero : 0 + a.group ≡ a.group = omega arith in
      let now = get_at (λ group. waiting_for group before) partitions 0 a.group d within ∙ ap (λ group. waiting_for group before) zero in
      ap (λ rs. slice_set (gathered partitions before) a.group (rs ++ a.request ∷ [])) now
      ∙ put_at (λ group. waiting_for group before) (λ group. waiting_for group (before ++ a ∷ [])) partitions 0 a.group (waiting_for a.group before ++ a.request ∷ []) within
      (ap (λ group. waiting_for group (before ++ a ∷ [])) zero ∙ own before a) (λ group apart. others group before a (λ is. apart (is ∙ sym zero)))

  -- ---- room

  pub room_within : (waiting : List (List (Request Args))) (group : ℕ) → has_room waiting group ≡ true → group < length waiting
  room_within waiting group room = ltb-true group (length waiting) (and_parts _ _ room).0

  pub room_left : (waiting : List (List (Request Args))) (group : ℕ) (d : List (Request Args)) → has_room waiting group ≡ true → d ≡ get_or waiting group d → length d < MOST_REQUESTS
  room_left waiting group d room is =
      let few : length (get_or waiting group []) < 256 = ltb-true (length (get_or waiting group [])) 256 (and_parts (nat_lt group (length waiting)) (nat_lt (length (get_or waiting group [])) 256) room).1 in
      let same : length d ≡ length (get_or waiting group []) = ap length (is ∙ get_or_any waiting group d [] (room_within waiting group room)) in
      omega (arith, few, same)

  pub gathers : (old new : List (List (Request Args))) (a : Asked Args) (now then : List (Request Args)) → has_room old a.group ≡ true → now ≡ get_or old a.group now → then ≡ now ++ a.request ∷ [] → new ≡ slice_set old a.group then
      → (partitions : ℕ) (before : List (Asked Args)) → old ≡ gathered partitions before → new ≡ gathered partitions (before ++ a ∷ [])
  gathers old new a now then room at more put partitions before is =
      let within : a.group < partitions = omega (arith, room_within old a.group room, ap length is, length-gathered partitions before) in
      put ∙ ap (slice_set old a.group) (more ∙ ap (λ rs. rs ++ a.request ∷ []) at)
      ∙ ap (λ w. slice_set w a.group (get_or w a.group now ++ a.request ∷ [])) is
      ∙ one_more partitions before a now within
