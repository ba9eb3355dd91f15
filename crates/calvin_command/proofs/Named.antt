-- A line that clap takes names `serial`, `check`, `sim` or `run`: the other subcommand is `help`, which clap answers itself, and one is required.
use Rattle.std.proofs.Common.{◌≡◌, ◌⊎◌, inl, inr, ℕ, Bool, cond, true, false, refl, sym, subst, List, [], ◌∷◌, codes, Option, Some, None, option_map, is_some}
use Rattle.std.specs.List.{fold}
use Rattle.std.specs.Str.{bytes_eq}
use Rattle.clap.specs.Lexer.{long_of, short_of}
use Rattle.clap.specs.Simple.{Shape, argument_words, built, entered, names_of}
use Rattle.clap.specs.Faults.{check_fault, defaults_fault, entered_fault, fault_of, other_fault, settle_fault, turn_fault, walk_fault, word_fault}
use Rattle.clap.specs.Walk.{Held, Names as SubNames, Outcome, Row, Rule, Step, Text, Waiting, Walk, after_flag, after_step, answers_to, bundle, done, finished, idle, long_met, arg_by_long, long_or_other, next, nothing_held, option, plain, plain_word, positional, refused, settled, short_or_plain, subcommand, subcommand_or_other, to_positional, trailing, value, waits, walk, walk_from, walked, word_met, arg_by_index}
use Rattle.calvin_command.specs.Line.{calvin, IsTaken, Names, IsSerialLine, IsCheckLine, IsSimLine, IsRunLine}
use Rattle.calvin_command.proofs.Rows.{first_empty, second_empty, not_empty}

-- the command as clap builds it
abbrev top : Shape
top = (built calvin).top

abbrev names : SubNames
names = names_of (built calvin)

-- a subcommand of the program's own
abbrev IsOwn : Text → Type 0
IsOwn name = (name ≡ codes "serial") ⊎ (name ≡ codes "check") ⊎ (name ≡ codes "sim") ⊎ (name ≡ codes "run")

-- where a walk stopped, if it did
abbrev IsStop : Option (Text × List Text) → Type 0
IsStop None = Unit {0}
IsStop (Some p) = IsOwn p.0

-- a step enters no subcommand but these
abbrev IsStep : Step → Type 0
IsStep (next waiting) = Unit {0}
IsStep (trailing position) = Unit {0}
IsStep (subcommand name) = IsOwn name
IsStep value = Unit {0}

plain_step : (c : List Rule) (waiting : Waiting) (word : Text) (h : Held) → IsStep (plain_word c waiting word h).1
plain_step c idle word h = tt
plain_step c (option id) word h = tt
plain_step c positional word h = tt

flag_step : (c : List Rule) (waiting : Waiting) (word : Text) (h : Held) (o : Outcome) → IsStep (after_flag c waiting word h o).1
flag_step c waiting word h done = tt
flag_step c waiting word h (waits id) = tt
flag_step c waiting word h plain = plain_step c waiting word h
flag_step c waiting word h refused = plain_step c waiting word h

short_step : (c : List Rule) (waiting : Waiting) (word : Text) (flags : Option Text) (h : Held) → IsStep (short_or_plain c waiting word flags h).1
short_step c waiting word None h = plain_step c waiting word h
short_step c waiting word (Some flags) h = flag_step c waiting word (bundle c flags h).0 (bundle c flags h).1

long_step : (c : List Rule) (waiting : Waiting) (word : Text) (long : Option (Text × Option Text)) (h : Held) → IsStep (long_or_other c waiting word long h).1
long_step c waiting word None h = short_step c waiting word (short_of word) h
long_step c waiting word (Some p) h =
    flag_step c waiting word (long_met c (arg_by_long c p.0) p.1 h).0 (long_met c (arg_by_long c p.0) p.1 h).1

other_step : (c : List Rule) (waiting : Waiting) (position : ℕ) (word : Text) (h : Held) (b : Bool)
    → IsStep (cond b (h, trailing position) (long_or_other c waiting word (long_of word) h)).1
other_step c waiting position word h true = tt
other_step c waiting position word h false = long_step c waiting word (long_of word) h

-- a word that names a subcommand names one of these, unless clap answers it by help
named_step : (waiting : Waiting) (position : ℕ) (word : Text) (h : Held) (is_serial is_check is_sim is_run is_help : Bool)
    → let met = option_map (λ (s : Text × List Text). s.0) (cond is_serial (Some (codes "serial", [])) (cond is_check (Some (codes "check", [])) (cond is_sim (Some (codes "sim", [])) (cond is_run (Some (codes "run", [])) (cond is_help (Some (codes "help", [])) None))))) in
    other_fault top met word h ≡ [] → IsStep (subcommand_or_other top.rules met waiting position word h).1
named_step waiting position word h true is_check is_sim is_run is_help none = inl refl
named_step waiting position word h false true is_sim is_run is_help none = inr (inl refl)
named_step waiting position word h false false true is_run is_help none = inr (inr (inl refl))
named_step waiting position word h false false false true is_help none = inr (inr (inr refl))
named_step waiting position word h false false false false true none = absurd (not_empty _ _ none)
named_step waiting position word h false false false false false none = other_step top.rules waiting position word h (bytes_eq word (45 ∷ 45 ∷ []))

no_name_step : (waiting : Waiting) (position : ℕ) (word : Text) (h : Held) → IsStep (subcommand_or_other top.rules None waiting position word h).1
no_name_step waiting position word h = other_step top.rules waiting position word h (bytes_eq word (45 ∷ 45 ∷ []))

met_step : (is_trailing : Bool) (waiting : Waiting) (position : ℕ) (word : Text) (h : Held)
    → word_fault top names is_trailing waiting word h ≡ [] → IsStep (word_met top.rules names is_trailing waiting position word h).1
met_step true waiting position word h none = tt
met_step false idle position word h none =
    named_step idle position word h (answers_to word (codes "serial", [])) (answers_to word (codes "check", [])) (answers_to word (codes "sim", []))
    (answers_to word (codes "run", [])) (answers_to word (codes "help", [])) none
met_step false (option id) position word h none = no_name_step (option id) position word h
met_step false positional position word h none = no_name_step positional position word h

-- ---- the walk

stop_positional : (c : List Rule) (a : Option Rule) (word : Text) (w : Walk) (h : Held) → IsStop w.stopped → IsStop (to_positional c a word w h).stopped
stop_positional c None word w h stop = stop
stop_positional c (Some a) word w h stop = tt

stop_step : (c : List Rule) (word : Text) (w : Walk) (h : Held) (step : Step) → IsStep step → IsStop w.stopped → IsStop (after_step c word w h step).stopped
stop_step c word w h (next waiting) is stop = stop
stop_step c word w h (trailing position) is stop = stop
stop_step c word w h (subcommand name) is stop = is
stop_step c word w h value is stop = stop_positional c (arg_by_index c w.position) word w h stop

turn_stops : (w : Walk) (word : Text) (stopped : Option (Text × List Text)) → w.stopped ≡ stopped → IsStop stopped
    → turn_fault top names (record w { stopped = stopped }) word ≡ [] → IsStop (walked top.rules names (record w { stopped = stopped }) word).stopped
unfolding walked
turn_stops w word (Some p) same stop none = stop
turn_stops w word None same stop none =
    let met = word_met top.rules names w.is_trailing w.waiting w.position word w.held in
    stop_step top.rules word (record w { stopped = None }) met.0 met.1
    (met_step w.is_trailing w.waiting w.position word w.held (first_empty _ _ none)) tt

walk_stops : (words : List Text) (w : Walk) → IsStop w.stopped → walk_fault top names w words ≡ [] → IsStop (fold (walked top.rules names) w words).stopped
unfolding walk_fault
walk_stops [] w stop none = stop
walk_stops (word ∷ rest) w stop none =
    walk_stops rest (walked top.rules names w word) (turn_stops w word w.stopped refl stop (first_empty _ _ none)) (second_empty _ _ none)

-- ---- the subcommand

abbrev IsNamed : Option Text → Type 0
IsNamed name = (name ≡ Some (codes "serial")) ⊎ (name ≡ Some (codes "check")) ⊎ (name ≡ Some (codes "sim")) ⊎ (name ≡ Some (codes "run"))

abbrev name_entered : Option (Text × List Text) → Option Text
name_entered stop = option_map (λ s. s.0) (entered (built calvin) stop)

entered_named : (stop : Option (Text × List Text)) (rows : List Row) → IsStop stop → check_fault top rows (is_some (entered (built calvin) stop)) ≡ []
    → IsNamed (name_entered stop)
entered_named None rows is none = absurd (not_empty _ _ none)
entered_named (Some p) rows (inl is) none = inl (subst (λ (name : Text). name_entered (Some (name, p.1)) ≡ Some (codes "serial")) (sym is) refl)
entered_named (Some p) rows (inr (inl is)) none = inr (inl (subst (λ (name : Text). name_entered (Some (name, p.1)) ≡ Some (codes "check")) (sym is) refl))
entered_named (Some p) rows (inr (inr (inl is))) none = inr (inr (inl (subst (λ (name : Text). name_entered (Some (name, p.1)) ≡ Some (codes "sim")) (sym is) refl)))
entered_named (Some p) rows (inr (inr (inr is))) none = inr (inr (inr (subst (λ (name : Text). name_entered (Some (name, p.1)) ≡ Some (codes "run")) (sym is) refl)))

is_named_line : (words : List Text) → fault_of calvin words ≡ []
    → Names (codes "serial") words ⊎ Names (codes "check") words ⊎ Names (codes "sim") words ⊎ Names (codes "run") words
is_named_line words none =
    let args = argument_words calvin words in
    let end = walk top.rules names nothing_held args in
    let walked_well = first_empty (walk_fault top names (walk_from nothing_held) args) _ none in
    let after_walk = second_empty (walk_fault top names (walk_from nothing_held) args) _ none in
    let after_entry = second_empty (entered_fault (built calvin) end.stopped) _ after_walk in
    let after_settling = second_empty (settle_fault top.rules top.args_override_self end.held) _ after_entry in
    let checked = second_empty (defaults_fault (settled top.rules end.held).rows top.rules) _ after_settling in
    entered_named end.stopped (finished top.rules end.held) (walk_stops args (walk_from nothing_held) tt walked_well) checked

taken_line : (words : List Text) → IsTaken words → Names (codes "serial") words ⊎ Names (codes "check") words ⊎ Names (codes "sim") words ⊎ Names (codes "run") words
    → IsSerialLine words ⊎ IsCheckLine words ⊎ IsSimLine words ⊎ IsRunLine words
taken_line words taken (inl named) = inl (taken, named)
taken_line words taken (inr (inl named)) = inr (inl (taken, named))
taken_line words taken (inr (inr (inl named))) = inr (inr (inl (taken, named)))
taken_line words taken (inr (inr (inr named))) = inr (inr (inr (taken, named)))

pub is_taken_line : (words : List Text) → IsTaken words → IsSerialLine words ⊎ IsCheckLine words ⊎ IsSimLine words ⊎ IsRunLine words
is_taken_line words taken = taken_line words taken (is_named_line words taken.0)
