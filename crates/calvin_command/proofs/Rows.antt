-- What each use of an argument keeps that clap lets through, and each default, holds of the rows that clap finds of a line that it takes.
use Rattle.std.proofs.Common.{◌≡◌, ◌&&◌, ℕ, zero, suc, Bool, cond, true, false, List, [], ◌∷◌, length, Option, Some, None, is_some, IfSome}
use Rattle.std.specs.List.{find, fold}
use Rattle.std.specs.Option.{option_map_or}
use Rattle.std.specs.Prelude.{slice_get}
use Rattle.std.specs.Str.{bytes_eq, chars}
use Rattle.clap.specs.Lexer.{long_of, short_of}
use Rattle.clap.specs.Kinds.{Kinds, or_else}
use Rattle.clap.specs.Simple.{Shape}
use Rattle.clap.specs.Faults.{bundle_step_fault, default_fault, defaults_fault, flag_word_fault, flags_fault, level_fault, long_fault, option_fault, other_fault, positional_fault, react_fault, settle_fault, short_fault, step_fault, stray_fault, turn_fault, use_fault, walk_fault, word_fault}
use Rattle.clap.specs.Walk.{Held, Names, Outcome, Row, Rule, Step, Text, Waiting, Walk, after_flag, after_step, arg_by_id, arg_by_index, arg_by_long, arg_by_short, attached_value, bundle_met, bundle_step, done, flag_met, idle, is_pending, long_met, long_or_other, next, nothing_held, option, option_met, option_word, plain, plain_word, positional, pushed, reacted, refused, rows_after, settled, settled_rows, short_met, short_or_plain, subcommand, subcommand_met, subcommand_or_other, takes_several, takes_values, to_positional, trailing, used, used_by_id, value, waits, walk, walk_from, walked, walked_from, with_default, word_met}
use Rattle.clap.specs.declared.error.kind.ErrorKind.{ErrorKind}
use Rattle.clap.specs.declared.error.kind.ErrorKind.TheVariants as kind
use Rattle.std.proofs.Common.{sym, subst, refl}

IsEmpty : Kinds → Type 0
IsEmpty [] = Unit {0}
IsEmpty (k ∷ ks) = ⊥

pub not_empty : (k : ErrorKind) (ks : Kinds) → k ∷ ks ≡ [] → ⊥
unfolding IsEmpty
not_empty k ks e = subst IsEmpty (sym e) tt

pub first_empty : (a b : Kinds) → or_else a b ≡ [] → a ≡ []
first_empty [] b e = refl
first_empty (k ∷ ks) b e = e

pub second_empty : (a b : Kinds) → or_else a b ≡ [] → b ≡ []
second_empty [] b e = e
second_empty (k ∷ ks) b e = absurd (not_empty k ks e)

abbrev pub Each : {X : Type 0} → (X → Type 0) → List X → Type 0
Each P [] = Unit {0}
Each P (x ∷ xs) = P x × Each P xs

pub find_each : {X : Type 0} (P : X → Type 0) (p : X → Bool) (xs : List X) → Each P xs → IfSome (find p xs) P
find_each P p [] each = tt
find_each P p (x ∷ xs) each = go (p x) (find_each P p xs each.1)
  where
    go : (b : Bool) → IfSome (find p xs) P → IfSome (cond b (Some x) (find p xs)) P
    go true rest = each.0
    go false rest = rest

module _ (Good : List Row → Type 0) where
  -- a use of the argument that is let through keeps it
  abbrev pub IsUsedWell : Bool → Rule → Type 0
  IsUsedWell again a = (values : List Text) (rows : List Row) → use_fault again a values rows ≡ [] → Good rows → Good (used a values rows)

  -- and so does its default
  abbrev pub HasGoodDefault : Rule → Type 0
  HasGoodDefault a = (rows : List Row) → default_fault rows a ≡ [] → Good rows → Good (with_default rows a)

  module _ (s : Shape) (uses : Each (IsUsedWell s.args_override_self) s.rules) where
    abbrev again : Bool
    again = s.args_override_self

    used_by_found : (found : Option Rule) → IfSome found (IsUsedWell again) → (values : List Text) (rows : List Row)
        → option_map_or (λ a. use_fault again a values rows) found [] ≡ [] → Good rows → Good (used_by_id found values rows)
    used_by_found None well values rows none good = good
    used_by_found (Some a) well values rows none good = well values rows none good

    settle_pending : (pending : Option (Text × List Text)) (rows : List Row)
        → option_map_or (λ p. option_map_or (λ a. use_fault again a p.1 rows) (arg_by_id s.rules p.0) []) pending [] ≡ []
        → Good rows → Good (settled_rows s.rules pending rows)
    settle_pending None rows none good = good
    settle_pending (Some p) rows none good =
        used_by_found (arg_by_id s.rules p.0) (find_each (IsUsedWell again) _ s.rules uses) p.1 rows none good

    settle_good : (h : Held) → settle_fault s.rules again h ≡ [] → Good h.rows → Good (settled s.rules h).rows
    settle_good h none good = settle_pending h.pending h.rows none good

    react_good : (a : Rule) → IsUsedWell again a → (values : List Text) (h : Held) → react_fault s.rules again a values h ≡ []
        → Good h.rows → Good (reacted s.rules a values h).rows
    react_good a well values h none good =
        well values (settled s.rules h).rows (second_empty (settle_fault s.rules again h) _ none)
        (settle_good h (first_empty (settle_fault s.rules again h) _ none) good)

    option_good : (a : Rule) → IsUsedWell again a → (v : Option Text) (h : Held) → option_fault s.rules again a v h ≡ []
        → Good h.rows → Good (option_met s.rules a v h).0.rows
    option_good a well None h none good = settle_good h none good
    option_good a well (Some v) h none good = react_good a well (v ∷ []) h none good

    long_good : (found : Option Rule) → IfSome found (IsUsedWell again) → (v : Option Text) (h : Held)
        → long_fault s.rules again found v h ≡ [] → Good h.rows → Good (long_met s.rules found v h).0.rows
    long_good None well v h none good = good
    long_good (Some a) well v h none good = go (takes_values a) v none
      where
        go : (b : Bool) (v : Option Text)
            → cond b (option_fault s.rules again a v h) (cond (is_some v) (kind.TooManyValues ∷ []) (react_fault s.rules again a [] h)) ≡ []
            → Good (cond b (option_met s.rules a v h) (flag_met s.rules a v h)).0.rows
        go true v none = option_good a well v h none good
        go false None none = react_good a well [] h none good
        go false (Some v) none = good

    short_good : (found : Option Rule) → IfSome found (IsUsedWell again) → (rest : Text) (h : Held)
        (after : Held → Kinds) (then : Held → Held × Outcome) → ((k : Held) → after k ≡ [] → Good k.rows → Good (then k).0.rows)
        → short_fault s.rules again found rest h after ≡ [] → Good h.rows → Good (short_met s.rules found rest h then).0.rows
    short_good None well rest h after then later none good = good
    short_good (Some a) well rest h after then later none good = go (takes_values a) none
      where
        go : (b : Bool)
            → cond b (option_fault s.rules again a (attached_value rest) h) (or_else (react_fault s.rules again a [] h) (after (reacted s.rules a [] h))) ≡ []
            → Good (cond b (option_met s.rules a (attached_value rest) h) (then (reacted s.rules a [] h))).0.rows
        go true none = option_good a well (attached_value rest) h none good
        go false none =
            later (reacted s.rules a [] h) (second_empty (react_fault s.rules again a [] h) _ none)
            (react_good a well [] h (first_empty (react_fault s.rules again a [] h) _ none) good)

    bundle_step_good : (x : Option ℕ) (flags : Text) (skip : ℕ) (so_far : Outcome) (h : Held)
        (after : Text → ℕ → Held → Kinds) (then : Text → ℕ → Outcome → Held → Held × Outcome)
        → ((rest : Text) (left : ℕ) (o : Outcome) (k : Held) → after rest left k ≡ [] → Good k.rows → Good (then rest left o k).0.rows)
        → bundle_step_fault s.rules again x flags skip h after ≡ [] → Good h.rows → Good (bundle_step s.rules x flags skip so_far h then).0.rows
    bundle_step_good None flags skip so_far h after then later none good = good
    bundle_step_good (Some x) flags zero so_far h after then later none good =
        short_good (arg_by_short s.rules x) (find_each (IsUsedWell again) _ s.rules uses) _ h (after _ 0) (then _ 0 done) (later _ 0 done) none good
    bundle_step_good (Some x) flags (suc skip) so_far h after then later none good = later _ skip so_far h none good

    bundle_good : (k : ℕ) (flags : Text) (skip : ℕ) (so_far : Outcome) (h : Held) → flags_fault s.rules again k flags skip h ≡ []
        → Good h.rows → Good (bundle_met s.rules k flags skip so_far h).0.rows
    unfolding flags_fault bundle_met
    bundle_good zero flags skip so_far h none good = good
    bundle_good (suc k) flags skip so_far h none good =
        bundle_step_good (slice_get (chars flags) 0) flags skip so_far h (flags_fault s.rules again k) (bundle_met s.rules k) (bundle_good k) none good

    option_word_good : (found : Option Rule) (id word : Text) (h : Held) → Good h.rows → Good (option_word found id word h).0.rows
    option_word_good None id word h good = good
    option_word_good (Some a) id word h good = good

    plain_good : (waiting : Waiting) (word : Text) (h : Held) → Good h.rows → Good (plain_word s.rules waiting word h).0.rows
    plain_good idle word h good = good
    plain_good (option id) word h good = option_word_good (arg_by_id s.rules id) id word h good
    plain_good positional word h good = good

    flag_good : (waiting : Waiting) (word : Text) (h : Held) (o : Outcome) → Good h.rows → Good (after_flag s.rules waiting word h o).0.rows
    flag_good waiting word h done good = good
    flag_good waiting word h (waits id) good = good
    flag_good waiting word h plain good = plain_good waiting word h good
    flag_good waiting word h refused good = plain_good waiting word h good

    flags_good : (waiting : Waiting) (word : Text) (flags : Option Text) (h : Held)
        → option_map_or (λ fs. flags_fault s.rules again (length fs) fs h.skip (record h { skip = 0 })) flags [] ≡ []
        → Good h.rows → Good (short_or_plain s.rules waiting word flags h).0.rows
    flags_good waiting word None h none good = plain_good waiting word h good
    flags_good waiting word (Some flags) h none good =
        let met = bundle_met s.rules (length flags) flags h.skip plain (record h { skip = 0 }) in
        flag_good waiting word met.0 met.1 (bundle_good (length flags) flags h.skip plain (record h { skip = 0 }) none good)

    word_good : (waiting : Waiting) (word : Text) (long : Option (Text × Option Text)) (h : Held)
        → flag_word_fault s.rules again long word h ≡ [] → Good h.rows → Good (long_or_other s.rules waiting word long h).0.rows
    word_good waiting word None h none good = flags_good waiting word (short_of word) h none good
    word_good waiting word (Some p) h none good =
        let met = long_met s.rules (arg_by_long s.rules p.0) p.1 h in
        flag_good waiting word met.0 met.1
        (long_good (arg_by_long s.rules p.0) (find_each (IsUsedWell again) _ s.rules uses) p.1 h none good)

    other_good : (name : Option Text) (waiting : Waiting) (position : ℕ) (word : Text) (h : Held) → other_fault s name word h ≡ []
        → Good h.rows → Good (subcommand_or_other s.rules name waiting position word h).0.rows
    other_good (Some name) waiting position word h none good = good
    other_good None waiting position word h none good = go (bytes_eq word (45 ∷ 45 ∷ [])) none
      where
        go : (b : Bool) → cond b [] (flag_word_fault s.rules again (long_of word) word h) ≡ []
            → Good (cond b (h, trailing position) (long_or_other s.rules waiting word (long_of word) h)).0.rows
        go true none = good
        go false none = word_good waiting word (long_of word) h none good

    met_good : (names : Names) (is_trailing : Bool) (waiting : Waiting) (position : ℕ) (word : Text) (h : Held)
        → word_fault s names is_trailing waiting word h ≡ [] → Good h.rows → Good (word_met s.rules names is_trailing waiting position word h).0.rows
    met_good names true waiting position word h none good = good
    met_good names false waiting position word h none good = other_good (subcommand_met names waiting word) waiting position word h none good

    place_good : (found : Option Rule) (word : Text) (w : Walk) (h : Held)
        → option_map_or (λ a. positional_fault s.rules again a h) found (stray_fault s) ≡ []
        → Good h.rows → Good (to_positional s.rules found word w h).held.rows
    place_good None word w h none good = good
    place_good (Some a) word w h none good = go (is_pending a h.pending && takes_several a) none
      where
        go : (b : Bool) → cond b [] (settle_fault s.rules again h) ≡ [] → Good (pushed a.id word (cond b h (settled s.rules h))).rows
        go true none = good
        go false none = settle_good h none good

    step_good : (word : Text) (w : Walk) (h : Held) (step : Step) → step_fault s w.position h step ≡ []
        → Good h.rows → Good (after_step s.rules word w h step).held.rows
    step_good word w h (next waiting) none good = good
    step_good word w h (trailing position) none good = good
    step_good word w h (subcommand name) none good = good
    step_good word w h value none good = place_good (arg_by_index s.rules w.position) word w h none good

    turn_good : (names : Names) (w : Walk) (word : Text) → turn_fault s names w word ≡ [] → Good w.held.rows → Good (walked s.rules names w word).held.rows
    unfolding walked
    turn_good names w word none good = go w.stopped none
      where
        go : (stopped : Option (Text × List Text))
            → (let met = word_met s.rules names w.is_trailing w.waiting w.position word w.held in
            cond (is_some stopped) [] (or_else (word_fault s names w.is_trailing w.waiting word w.held) (step_fault s w.position met.0 met.1))) ≡ []
            → Good (walked_from s.rules names stopped w word).held.rows
        go (Some p) none = good
        go None none =
            let met = word_met s.rules names w.is_trailing w.waiting w.position word w.held in
            let fault = word_fault s names w.is_trailing w.waiting word w.held in
            step_good word w met.0 met.1 (second_empty fault _ none)
            (met_good names w.is_trailing w.waiting w.position word w.held (first_empty fault _ none) good)

    walk_good : (names : Names) (words : List Text) (w : Walk) → walk_fault s names w words ≡ [] → Good w.held.rows
        → Good (fold (walked s.rules names) w words).held.rows
    unfolding walk_fault
    walk_good names [] w none good = good
    walk_good names (word ∷ rest) w none good =
        let fault = turn_fault s names w word in
        walk_good names rest (walked s.rules names w word) (second_empty fault _ none) (turn_good names w word (first_empty fault _ none) good)

    defaults_good : (rules : List Rule) → Each HasGoodDefault rules → (rows : List Row) → defaults_fault rows rules ≡ []
        → Good rows → Good (fold with_default rows rules)
    unfolding defaults_fault
    defaults_good [] well rows none good = good
    defaults_good (a ∷ rest) well rows none good =
        defaults_good rest well.1 (with_default rows a) (second_empty (default_fault rows a) _ none)
        (well.0 rows (first_empty (default_fault rows a) _ none) good)

    pub level_good : Each HasGoodDefault s.rules → (names : Names) (words : List Text) (has : Bool) (below : Kinds)
        → level_fault s names nothing_held words has below ≡ [] → Good [] → Good (rows_after s.rules names words)
    level_good well names words has below none good =
        let end = (walk s.rules names nothing_held words).held in
        let walking = walk_fault s names (walk_from nothing_held) words in
        let after_walk = second_empty walking _ none in
        let after_entry = second_empty below _ after_walk in
        let settling = settle_fault s.rules again end in
        let after_settling = second_empty settling _ after_entry in
        defaults_good s.rules well (settled s.rules end).rows (first_empty (defaults_fault (settled s.rules end).rows s.rules) _ after_settling)
        (settle_good end (first_empty settling _ after_entry) (walk_good names words (walk_from nothing_held) (first_empty walking _ none) good))
