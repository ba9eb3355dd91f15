-- A line without the word `help` is taken, answered with help, or bad: where help is among clap's errors, it is the only one.
use Rattle.std.proofs.Common.{◌≡◌, ◌⊎◌, inl, inr, ⊎_elim, ◌&&◌, ◌||◌, ◌==◌, ℕ, zero, suc, Bool, cond, not, true, false, true≢false, refl, sym, ap, List, [], ◌∷◌, length, codes, Option, Some, None, option_map, is_some, nat_lt}
use Rattle.std.specs.List.{Contains, find, list_any}
use Rattle.std.specs.Option.{option_map_or}
use Rattle.std.specs.Prelude.{slice_get}
use Rattle.std.specs.Str.{bytes_eq, chars}
use Rattle.std.proofs.lemmas.Bool.{or_parts}
use Rattle.std.proofs.lemmas.Map.Views.{Contains-from_any}
use Rattle.std.proofs.lemmas.Slice.Eq.{bytes_eq-Decides}
use Rattle.clap.specs.Lexer.{long_of, short_of}
use Rattle.clap.specs.Values.{refused_kind}
use Rattle.clap.specs.ValueTests.{accepts}
use Rattle.clap.specs.Facts.{parser_of_value, unwrap_or_range}
use Rattle.clap.specs.Kinds.{IsAmong, Kinds, check_kinds, or_else, range_kinds, request_kinds, value_kinds, values_kinds}
use Rattle.clap.specs.Simple.{Shape, argument_words, built, label_of, names_of}
use Rattle.clap.specs.Faults.{action_fault, bundle_step_fault, count_fault, default_fault, defaults_fault, entered_fault, fault_of, flag_word_fault, flags_fault, level_fault, long_fault, option_fault, other_fault, positional_fault, react_fault, repeat_fault, set_fault, settle_fault, short_fault, step_fault, stray_fault, turn_fault, use_fault, values_fault, walk_fault, word_fault}
use Rattle.clap.specs.Walk.{Held, Names, Row, Rule, Step, Text, Waiting, Walk, action_of, answers_to, arg_by_id, arg_by_index, arg_by_long, arg_by_short, attached_value, has_row, idle, is_empty, is_pending, most_values, next, nothing_held, option, positional, reacted, settled, subcommand, takes_several, takes_values, trailing, value, values_or_missing, walk, walk_from, walked, with_default, word_met}
use Rattle.clap.specs.declared.builder.action.ArgAction.{ArgAction}
use Rattle.clap.specs.declared.builder.action.ArgAction.TheVariants as action
use Rattle.clap.specs.declared.error.kind.ErrorKind.{ErrorKind}
use Rattle.clap.specs.declared.error.kind.ErrorKind.TheVariants.{DisplayHelp}
use Rattle.clap.specs.declared.builder.value_parser.ValueParser.{ValueParser}
use Rattle.calvin_command.specs.Line.{calvin, IsSerialLine, IsCheckLine, IsSimLine, IsRunLine, IsHelpLine, IsBadLine, HasHelpWord}
use Rattle.calvin_command.proofs.Rows.{Each}
use Rattle.calvin_command.proofs.Named.{is_taken_line}

-- where help is among the kinds, it is the only one
abbrev Alone : Kinds → Type 0
Alone ks = IsAmong DisplayHelp ks → ks ≡ DisplayHelp ∷ []

none : Alone []
none h = absurd h

one : (k : ErrorKind) → Alone (k ∷ [])
one k h = ⊎_elim (λ e. ap (λ x. x ∷ []) (sym e)) (λ no. absurd no) h

each : (a b : Kinds) → Alone a → Alone b → Alone (or_else a b)
each [] b first second = second
each (k ∷ ks) b first second = first

either_way : (b : Bool) (x y : Kinds) → Alone x → Alone y → Alone (cond b x y)
either_way true x y left right = left
either_way false x y left right = right

where_some : {X : Type 0} (o : Option X) (f : X → Kinds) → ((x : X) → Alone (f x)) → Alone (option_map_or f o [])
where_some None f alone = none
where_some (Some x) f alone = alone x

-- ---- one use of an argument

range_alone : (least most n : ℕ) → Alone (range_kinds least most n)
range_alone least most n = either_way (nat_lt 0 least && n == 0) _ _ (one _)
    (either_way (least == most) _ _ (either_way (least == n) _ _ none (one _))
    (either_way (nat_lt n least) _ _ (one _) (either_way (nat_lt most n) _ _ (one _) none)))

value_alone : (i : Bool) (p : ValueParser) (text : Text) → Alone (value_kinds i p text)
value_alone i p text = either_way (accepts i p text) _ _ none (one (refused_kind p))

values_alone : (i : Bool) (p : ValueParser) (texts : List Text) → Alone (values_kinds i p texts)
values_alone i p [] = none
values_alone i p (v ∷ vs) = each (value_kinds i p v) (values_kinds i p vs) (value_alone i p v) (values_alone i p vs)

set_alone : (again : Bool) (a : Rule) (values : List Text) (rows : List Row) → Alone (set_fault again a values rows)
set_alone again a values rows = each (repeat_fault again a.id rows) (values_fault a values)
    (either_way (has_row a.id rows && not again) _ _ (one _) none) (values_alone a.ignore_case (parser_of_value a.parser) values)

count_alone : (a : Rule) (values : List Text) (rows : List Row) → Alone (count_fault a values rows)
count_alone a [] rows = value_alone a.ignore_case (parser_of_value a.parser) _
count_alone a (v ∷ vs) rows = values_alone a.ignore_case (parser_of_value a.parser) (v ∷ vs)

action_alone : (x : ArgAction) (again : Bool) (a : Rule) (values : List Text) (rows : List Row) → Alone (action_fault x again a values rows)
action_alone action.Set again a values rows = set_alone again a values rows
action_alone action.SetTrue again a values rows = set_alone again a values rows
action_alone action.SetFalse again a values rows = set_alone again a values rows
action_alone action.Append again a values rows = values_alone a.ignore_case (parser_of_value a.parser) values
action_alone action.Count again a values rows = count_alone a values rows
action_alone action.Help again a values rows = one _
action_alone action.HelpShort again a values rows = one _
action_alone action.HelpLong again a values rows = one _
action_alone action.Version again a values rows = one _

use_alone : (again : Bool) (a : Rule) (values : List Text) (rows : List Row) → Alone (use_fault again a values rows)
use_alone again a values rows = each (range_kinds (unwrap_or_range a.range).start_inclusive (most_values a) (length values)) _
    (range_alone (unwrap_or_range a.range).start_inclusive (most_values a) (length values))
    (action_alone (action_of a) again a (values_or_missing a values) rows)

-- ---- one word

module _ (c : List Rule) (again : Bool) where
  settle_alone : (h : Held) → Alone (settle_fault c again h)
  settle_alone h = where_some h.pending _ (λ p. where_some (arg_by_id c p.0) _ (λ a. use_alone again a p.1 h.rows))

  react_alone : (a : Rule) (values : List Text) (h : Held) → Alone (react_fault c again a values h)
  react_alone a values h = each (settle_fault c again h) _ (settle_alone h) (use_alone again a values (settled c h).rows)

  option_alone : (a : Rule) (v : Option Text) (h : Held) → Alone (option_fault c again a v h)
  option_alone a None h = settle_alone h
  option_alone a (Some v) h = react_alone a (v ∷ []) h

  long_alone : (found : Option Rule) (v : Option Text) (h : Held) → Alone (long_fault c again found v h)
  long_alone None v h = one _
  long_alone (Some a) v h = either_way (takes_values a) _ _ (option_alone a v h) (either_way (is_some v) _ _ (one _) (react_alone a [] h))

  short_alone : (found : Option Rule) (rest : Text) (h : Held) (after : Held → Kinds) → ((k : Held) → Alone (after k)) → Alone (short_fault c again found rest h after)
  short_alone None rest h after alone = one _
  short_alone (Some a) rest h after alone = either_way (takes_values a) _ _ (option_alone a (attached_value rest) h)
      (each (react_fault c again a [] h) _ (react_alone a [] h) (alone (reacted c a [] h)))

  step_of_bundle : (x : Option ℕ) (flags : Text) (skip : ℕ) (h : Held) (after : Text → ℕ → Held → Kinds)
      → ((rest : Text) (left : ℕ) (k : Held) → Alone (after rest left k)) → Alone (bundle_step_fault c again x flags skip h after)
  step_of_bundle None flags skip h after alone = none
  step_of_bundle (Some x) flags zero h after alone = short_alone (arg_by_short c x) _ h (after _ 0) (alone _ 0)
  step_of_bundle (Some x) flags (suc skip) h after alone = alone _ skip h

  flags_alone : (k : ℕ) (flags : Text) (skip : ℕ) (h : Held) → Alone (flags_fault c again k flags skip h)
  unfolding flags_fault
  flags_alone zero flags skip h = none
  flags_alone (suc k) flags skip h = step_of_bundle (slice_get (chars flags) 0) flags skip h (flags_fault c again k) (flags_alone k)

  flag_word_alone : (long : Option (Text × Option Text)) (word : Text) (h : Held) → Alone (flag_word_fault c again long word h)
  flag_word_alone (Some p) word h = long_alone (arg_by_long c p.0) p.1 h
  flag_word_alone None word h = where_some (short_of word) _ (λ flags. flags_alone (length flags) flags h.skip (record h { skip = 0 }))

plain_alone : (s : Shape) (word : Text) (h : Held) → Alone (other_fault s None word h)
plain_alone s word h = either_way (bytes_eq word (45 ∷ 45 ∷ [])) _ _ none (flag_word_alone s.rules s.args_override_self (long_of word) word h)

-- ---- a word of the program's own, and of its subcommands

abbrev top : Shape
top = (built calvin).top

abbrev names : Names
names = names_of (built calvin)

met_alone : (word : Text) (h : Held) (is_serial is_check is_sim is_run is_help : Bool) → is_help ≡ false
    → Alone (other_fault top (option_map (λ (s : Text × List Text). s.0) (cond is_serial (Some (codes "serial", [])) (cond is_check (Some (codes "check", [])) (cond is_sim (Some (codes "sim", [])) (cond is_run (Some (codes "run", [])) (cond is_help (Some (codes "help", [])) None)))))) word h)
met_alone word h true is_check is_sim is_run is_help other = none
met_alone word h false true is_sim is_run is_help other = none
met_alone word h false false true is_run is_help other = none
met_alone word h false false false true is_help other = none
met_alone word h false false false false true other = absurd (true≢false other)
met_alone word h false false false false false other = plain_alone top word h

top_word_alone : (is_trailing : Bool) (waiting : Waiting) (word : Text) (h : Held) → bytes_eq (codes "help") word ≡ false → Alone (word_fault top names is_trailing waiting word h)
top_word_alone true waiting word h other = none
top_word_alone false idle word h other =
    met_alone word h (answers_to word (codes "serial", [])) (answers_to word (codes "check", [])) (answers_to word (codes "sim", []))
    (answers_to word (codes "run", [])) (answers_to word (codes "help", []))
    (ap (λ b. b || false) other)
top_word_alone false (option id) word h other = plain_alone top word h
top_word_alone false positional word h other = plain_alone top word h

leaf_word_alone : (s : Shape) (is_trailing : Bool) (waiting : Waiting) (word : Text) (h : Held) → Alone (word_fault s [] is_trailing waiting word h)
leaf_word_alone s true waiting word h = none
leaf_word_alone s false idle word h = plain_alone s word h
leaf_word_alone s false (option id) word h = plain_alone s word h
leaf_word_alone s false positional word h = plain_alone s word h

-- ---- the walk

stray_alone : (s : Shape) → Alone (stray_fault s)
stray_alone s = either_way s.is_leaf _ _ (one _) (⊎_elim (λ e. cc) (⊎_elim (λ e. cc) (λ no. absurd no)))

place_alone : (s : Shape) (a : Option Rule) (h : Held) → Alone (option_map_or (λ a. positional_fault s.rules s.args_override_self a h) a (stray_fault s))
place_alone s None h = stray_alone s
place_alone s (Some a) h = either_way (is_pending a h.pending && takes_several a) _ _ none (settle_alone s.rules s.args_override_self h)

step_alone : (s : Shape) (position : ℕ) (h : Held) (step : Step) → Alone (step_fault s position h step)
step_alone s position h (next waiting) = none
step_alone s position h (trailing place) = none
step_alone s position h (subcommand name) = none
step_alone s position h value = place_alone s (arg_by_index s.rules position) h

module _ (s : Shape) (names : Names) (P : Text → Type 0)
    (word_alone : (is_trailing : Bool) (waiting : Waiting) (word : Text) (h : Held) → P word → Alone (word_fault s names is_trailing waiting word h)) where
  turn_alone : (w : Walk) (word : Text) → P word → Alone (turn_fault s names w word)
  turn_alone w word right =
      let met = word_met s.rules names w.is_trailing w.waiting w.position word w.held in
      either_way (is_some w.stopped) _ _ none
      (each (word_fault s names w.is_trailing w.waiting word w.held) _ (word_alone w.is_trailing w.waiting word w.held right)
      (step_alone s w.position met.0 met.1))

  walk_alone : (words : List Text) (w : Walk) → Each P words → Alone (walk_fault s names w words)
  unfolding walk_fault
  walk_alone [] w right = none
  walk_alone (word ∷ rest) w right = each (turn_fault s names w word) _ (turn_alone w word right.0) (walk_alone rest (walked s.rules names w word) right.1)

-- ---- after the walk

request_alone : (x : ArgAction) → Alone (request_kinds x)
request_alone action.Set = none
request_alone action.SetTrue = none
request_alone action.SetFalse = none
request_alone action.Append = none
request_alone action.Count = none
request_alone action.Help = one _
request_alone action.HelpShort = one _
request_alone action.HelpLong = one _
request_alone action.Version = one _

default_alone : (rows : List Row) (a : Rule) → Alone (default_fault rows a)
default_alone rows a = either_way (has_row a.id rows || is_empty a.defaults) _ _ none
    (each (request_kinds (action_of a)) _ (request_alone (action_of a)) (values_alone a.ignore_case (parser_of_value a.parser) a.defaults))

defaults_alone : (rules : List Rule) (rows : List Row) → Alone (defaults_fault rows rules)
unfolding defaults_fault
defaults_alone [] rows = none
defaults_alone (a ∷ rest) rows = each (default_fault rows a) _ (default_alone rows a) (defaults_alone rest (with_default rows a))

check_alone : (a b c : Bool) → Alone (check_kinds a b c)
check_alone a b c = either_way a _ _ (one _) (either_way b _ _ (one _) (either_way c _ _ (one _) none))

level_alone : (s : Shape) (names : Names) (h : Held) (words : List Text) (has : Bool) (below : Kinds)
    → Alone (walk_fault s names (walk_from h) words) → Alone below → Alone (level_fault s names h words has below)
level_alone s names h words has below walking entering =
    let end = (walk s.rules names h words).held in
    each (walk_fault s names (walk_from h) words) _ walking
    (each below _ entering
    (each (settle_fault s.rules s.args_override_self end) _ (settle_alone s.rules s.args_override_self end)
    (each (defaults_fault (settled s.rules end).rows s.rules) _ (defaults_alone s.rules (settled s.rules end).rows)
    (check_alone _ _ _))))

-- ---- the line

any_words : (words : List Text) → Each (λ word. Unit {0}) words
any_words [] = tt
any_words (word ∷ rest) = (tt, any_words rest)

entered_alone : (stop : Option (Text × List Text)) → Alone (entered_fault (built calvin) stop)
entered_alone stop = where_some stop _ (λ p. where_some (find (λ s. answers_to p.0 (label_of s)) (built calvin).subs) _ (λ s.
    level_alone s [] nothing_held p.1 false [] (walk_alone s [] (λ word. Unit {0}) (λ is_trailing waiting word h right. leaf_word_alone s is_trailing waiting word h)
    p.1 (walk_from nothing_held) (any_words p.1)) none))

no_help : (words : List Text) → list_any (bytes_eq (codes "help")) words ≡ false → Each (λ word. bytes_eq (codes "help") word ≡ false) words
no_help [] e = tt
no_help (word ∷ rest) e =
    let parts = or_parts (bytes_eq (codes "help") word) _ e in
    (parts.0, no_help rest parts.1)

lacks_help : (words : List Text) → ¬ Contains words (codes "help") → list_any (bytes_eq (codes "help")) words ≡ false
lacks_help words lacks = go (list_any (bytes_eq (codes "help")) words) refl
  where
    go : (b : Bool) → list_any (bytes_eq (codes "help")) words ≡ b → b ≡ false
    go true is = absurd (lacks (Contains-from_any (λ x y. (bytes_eq-Decides x y).0) (codes "help") words is))
    go false is = refl

is_alone : (words : List Text) → ¬ HasHelpWord words → Alone (fault_of calvin words)
is_alone words lacks =
    let args = argument_words calvin words in
    level_alone top names nothing_held args _ _
    (walk_alone top names (λ word. bytes_eq (codes "help") word ≡ false) top_word_alone args (walk_from nothing_held) (no_help args (lacks_help args lacks)))
    (entered_alone (walk top.rules names nothing_held args).stopped)

taken_covered : (words : List Text) → ¬ IsSerialLine words → ¬ IsCheckLine words → ¬ IsSimLine words → ¬ IsRunLine words
    → IsSerialLine words ⊎ IsCheckLine words ⊎ IsSimLine words ⊎ IsRunLine words → ⊥
taken_covered words serial check sim run (inl is) = serial is
taken_covered words serial check sim run (inr (inl is)) = check is
taken_covered words serial check sim run (inr (inr (inl is))) = sim is
taken_covered words serial check sim run (inr (inr (inr is))) = run is

pub is_covered : (words : List Text) → ¬ HasHelpWord words → ¬ IsSerialLine words → ¬ IsCheckLine words → ¬ IsSimLine words → ¬ IsRunLine words → ¬ IsHelpLine words
    → IsBadLine words
is_covered words lacks serial check sim run helped =
    (λ taken. taken_covered words serial check sim run (is_taken_line words taken), λ among. helped (is_alone words lacks among))
