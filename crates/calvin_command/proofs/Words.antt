-- Lines of the program, as clap reads them.
use Rattle.std.proofs.Common.{◌≡◌, ℕ, List, [], ◌∷◌, codes, false, true, true≢false, option_map, Option, Some, None, Ok, IfSome, ⊎_elim, refl, ap, sym, subst, arith, ◌∙◌}
use Rattle.std.specs.Prelude.{if◌then◌else◌}
use Rattle.std.specs.Str.{bytes_eq}
use Rattle.std.proofs.lemmas.Slice.Eq.{bytes_eq-Decides}
use Rattle.clap.specs.Words.{subcommand_of, fault_of, Text, Row, is_simple, is_simple_and_free, subcommand_rows_of, subcommand_name_of}
use Rattle.clap.specs.declared.parser.matches.ArgMatches.{ArgMatches}
use Rattle.clap.specs.declared.parser.matches.ArgMatches.TheViews.{out-ArgMatches}
use Rattle.clap.proofs.OnLiterals.{clap_on_literals}
use Rattle.calvin_serial.specs.declared.undeclared.UndeclaredSets.{UndeclaredSets}
use Rattle.calvin_serial.specs.declared.undeclared.UndeclaredSets.TheVariants.{First, Scouted}
use Rattle.calvin_sim_events.specs.declared.schedule.Schedule.{Schedule}
use Rattle.calvin_sim_events.specs.declared.schedule.Restarts.TheVariants.{Never}
use Rattle.calvin_run.specs.declared.team.Team.{Team}
use Rattle.calvin_command.specs.declared.wishes.Wish.{Wish}
use Rattle.calvin_command.specs.declared.wishes.Wish.TheVariants.{Serial, Check, Sim, Run, Help}
use Rattle.calvin_options.specs.Options.{has_flag, number_of, rows_found}
use Rattle.calvin_options.proofs.Subcommands.{same_name}
use Rattle.calvin_command.specs.Line.{calvin, IsTaken, IsFor, IsOf, IsAskedBy, IsScheduleOf, LosesWell, IsSerialLine, IsHelpLine, IsBadLine, IsPlainSerialLine, IsPlainCheckLine, IsPlainSimLine, IsPlainRunLine, IsScoutLine, IsCheckLine, IsSimLine, IsRunLine, IsAsked, IsUsual, IsTeamAsked, IsUsualTeam, restarts_of, sets_of, sets_asked, Names, IsSerial, IsCheck}
use Rattle.calvin_command.proofs.Rows.{not_empty}

-- the words are for `serial`, and ask for these sets
abbrev pub Asks : UndeclaredSets → List (List ℕ) → Type 0
Asks sets words = IsSerialLine words × (sets_asked words ≡ sets)

pub is_serial_line : (program : List ℕ) → Asks First (program ∷ codes "serial" ∷ [])
unfolding clap_on_literals
is_serial_line program = (((refl, λ sim. tt), refl), refl)

pub is_serial_scout_line : (program : List ℕ) → Asks Scouted (program ∷ codes "serial" ∷ codes "--scout" ∷ [])
unfolding clap_on_literals
is_serial_scout_line program = (((refl, λ sim. tt), refl), refl)

pub is_plain_line : (words : List (List ℕ)) → IsPlainSerialLine words → IsSerialLine words × (sets_asked words ≡ First)
is_plain_line words plain = subst (Asks First) (sym plain.1) (is_serial_line plain.0)

pub is_scout_line : (words : List (List ℕ)) → IsScoutLine words → IsSerialLine words × (sets_asked words ≡ Scouted)
is_scout_line words scout = subst (Asks Scouted) (sym scout.1) (is_serial_scout_line scout.0)

check_written : (program : List ℕ) → IsCheckLine (program ∷ codes "check" ∷ [])
unfolding clap_on_literals
check_written program = ((refl, λ sim. tt), refl)

pub is_check_line : (words : List (List ℕ)) → IsPlainCheckLine words → IsCheckLine words
is_check_line words plain = subst IsCheckLine (sym plain.1) (check_written plain.0)

sim_written : (program : List ℕ) → IsSimLine (program ∷ codes "sim" ∷ [])
unfolding clap_on_literals
sim_written program = ((refl, λ sim. tt), refl)

-- the numbers that `calvin sim` asks for
abbrev pub AsksUsual : List (List ℕ) → Type 0
AsksUsual words = let rows = rows_found (subcommand_of calvin words) in
    (number_of (codes "start") rows ≡ Some 1) × (number_of (codes "steps") rows ≡ Some 1000) × (number_of (codes "replicas") rows ≡ Some 3)
    × (restarts_of rows ≡ Never) × (has_flag (codes "repeat") rows ≡ false) × (number_of (codes "lose") rows ≡ None)

sim_usual : (program : List ℕ) → AsksUsual (program ∷ codes "sim" ∷ [])
unfolding clap_on_literals
sim_usual program = (refl, refl, refl, refl, refl, refl)

some_same : {X : Type 0} (m n : X) → Some m ≡ Some n → m ≡ n
some_same m n e = cc

usual_schedule : (words : List (List ℕ)) → AsksUsual words → (schedule : Schedule) → IsAsked words schedule → IsUsual schedule
usual_schedule words usual schedule asked = (
  some_same _ _ (sym asked.start ∙ usual.0),
  some_same _ _ (sym asked.steps ∙ usual.1),
  some_same _ _ (sym asked.replicas ∙ usual.2),
  asked.restarts ∙ usual.3,
  asked.repeats ∙ usual.4,
  asked.lost ∙ usual.5,
)

pub is_sim_line : (words : List (List ℕ)) → IsPlainSimLine words → IsSimLine words × ((schedule : Schedule) → IsAsked words schedule → IsUsual schedule)
is_sim_line words plain = (
  subst IsSimLine (sym plain.1) (sim_written plain.0),
  usual_schedule words (subst AsksUsual (sym plain.1) (sim_usual plain.0)),
)

run_written : (program : List ℕ) → IsRunLine (program ∷ codes "run" ∷ [])
unfolding clap_on_literals
run_written program = ((refl, λ sim. tt), refl)

-- the numbers that `calvin run` asks for
abbrev pub AsksUsualTeam : List (List ℕ) → Type 0
AsksUsualTeam words = let rows = rows_found (subcommand_of calvin words) in
    (number_of (codes "replicas") rows ≡ Some 3) × (number_of (codes "workers") rows ≡ Some 4) × (has_flag (codes "wide") rows ≡ false)

run_usual : (program : List ℕ) → AsksUsualTeam (program ∷ codes "run" ∷ [])
unfolding clap_on_literals
run_usual program = (refl, refl, refl)

usual_team : (words : List (List ℕ)) → AsksUsualTeam words → (team : Team) → IsTeamAsked words team → IsUsualTeam team
usual_team words usual team asked = (some_same _ _ (sym asked.replicas ∙ usual.0), some_same _ _ (sym asked.workers ∙ usual.1), asked.wide ∙ usual.2)

pub is_run_line : (words : List (List ℕ)) → IsPlainRunLine words → IsRunLine words × ((team : Team) → IsTeamAsked words team → IsUsualTeam team)
is_run_line words plain = (
  subst IsRunLine (sym plain.1) (run_written plain.0),
  usual_team words (subst AsksUsualTeam (sym plain.1) (run_usual plain.0)),
)

-- lines that are written out: calls for help, no word at all, and a flag that is given twice
pub is_help_line : (program : List ℕ) → IsHelpLine (program ∷ codes "--help" ∷ [])
unfolding clap_on_literals
is_help_line program = refl

pub is_serial_help_line : (program : List ℕ) → IsHelpLine (program ∷ codes "serial" ∷ codes "--help" ∷ [])
unfolding clap_on_literals
is_serial_help_line program = refl

pub is_check_help_line : (program : List ℕ) → IsHelpLine (program ∷ codes "check" ∷ codes "--help" ∷ [])
unfolding clap_on_literals
is_check_help_line program = refl

pub is_run_help_line : (program : List ℕ) → IsHelpLine (program ∷ codes "run" ∷ codes "--help" ∷ [])
unfolding clap_on_literals
is_run_help_line program = refl

pub is_bare_line_bad : (program : List ℕ) → IsBadLine (program ∷ [])
unfolding clap_on_literals
is_bare_line_bad program = (λ taken. not_empty _ _ taken.0, λ among. ⊎_elim (λ e. cc) (λ other. absurd other) among)

pub is_scout_twice_bad : (program : List ℕ) → IsBadLine (program ∷ codes "serial" ∷ codes "--scout" ∷ codes "--scout" ∷ [])
unfolding clap_on_literals
is_scout_twice_bad program = (λ taken. not_empty _ _ taken.0, λ among. ⊎_elim (λ e. cc) (λ other. absurd other) among)

-- of three replicas the last one may be lost, and no other beyond it, which clap doesn't refuse
pub is_lose_two_line : (program : List ℕ) → IsSimLine (program ∷ codes "sim" ∷ codes "--lose" ∷ codes "2" ∷ [])
unfolding clap_on_literals
is_lose_two_line program = ((refl, λ sim. (omega arith, omega arith)), refl)

pub is_lose_three_bad : (program : List ℕ) → IsBadLine (program ∷ codes "sim" ∷ codes "--lose" ∷ codes "3" ∷ [])
unfolding clap_on_literals
is_lose_three_bad program = (λ taken. omega (arith, (taken.1 refl).1), λ among. absurd among)

pub is_lose_zero_bad : (program : List ℕ) → IsBadLine (program ∷ codes "sim" ∷ codes "--lose" ∷ codes "0" ∷ [])
unfolding clap_on_literals
is_lose_zero_bad program = (λ taken. not_empty _ _ taken.0, λ among. ⊎_elim (λ e. cc) (λ other. absurd other) among)

pub is_simple_line : is_simple calvin ≡ true
is_simple_line = refl

pub is_free_line : is_simple_and_free calvin ≡ true
is_free_line = refl

-- the matches of words that name a subcommand name it
pub name_is : (name : List ℕ) (m : ArgMatches) (words : List (List ℕ)) → subcommand_rows_of m ≡ subcommand_of calvin words → Names name words → subcommand_name_of m ≡ Some name
name_is name m words e named = same_name (out-ArgMatches m).subcommand ∙ ap (option_map (λ p. p.0)) e ∙ named

-- and what they name the words name
pub is_name : (name : List ℕ) (m : ArgMatches) (words : List (List ℕ)) → subcommand_rows_of m ≡ subcommand_of calvin words → subcommand_name_of m ≡ Some name → Names name words
is_name name m words e named = ap (option_map (λ p. p.0)) (sym e) ∙ sym (same_name (out-ArgMatches m).subcommand) ∙ named

-- words for which clap has no error are taken where they name another subcommand than `sim`
taken_other : (name : Text) (words : List (List ℕ)) → bytes_eq name (codes "sim") ≡ false → fault_of calvin words ≡ [] → Names name words → IsTaken words
taken_other name words differs none named = (
  none,
  λ sim.
      let same : name ≡ codes "sim" = some_same name (codes "sim") (sym named ∙ sim) in
      absurd (true≢false (sym ((bytes_eq-Decides name (codes "sim")).1 same) ∙ differs)),
)

-- and where what clap found asks for a schedule
taken_sim : (words : List (List ℕ)) (rows : List Row) (schedule : Schedule) → rows ≡ rows_found (subcommand_of calvin words)
    → fault_of calvin words ≡ [] → IsScheduleOf rows schedule → IsTaken words
taken_sim words rows schedule same none asked =
    let well = subst (λ (o : Option ℕ). IfSome o (λ replicas. LosesWell replicas rows)) (sym asked.replicas) asked.loses_well in
    (none, λ sim. subst (λ (rs : List Row). IfSome (number_of (codes "replicas") rs) (λ replicas. LosesWell replicas rs)) same well)

-- a wish for what they name is one for what the words name
pub is_for : (words : List (List ℕ)) (m : ArgMatches) (wish : Wish) → subcommand_rows_of m ≡ subcommand_of calvin words → fault_of calvin words ≡ []
    → IsOf (subcommand_name_of m) wish → IsAskedBy (rows_found (subcommand_rows_of m)) wish → IsFor words (Ok wish)
is_for words m (Serial sets) same none named asked =
    let named_so = is_name (codes "serial") m words same named in
    (taken_other (codes "serial") words refl none named_so, named_so)
is_for words m Check same none named asked =
    let named_so = is_name (codes "check") m words same named in
    (taken_other (codes "check") words refl none named_so, named_so)
is_for words m (Sim schedule) same none named asked =
    (taken_sim words (rows_found (subcommand_rows_of m)) schedule (ap rows_found same) none asked, is_name (codes "sim") m words same named)
is_for words m (Run team) same none named asked =
    let named_so = is_name (codes "run") m words same named in
    (taken_other (codes "run") words refl none named_so, named_so)
is_for words m (Help e) same none named asked = tt

-- so the words are taken
pub is_taken_for : (words : List (List ℕ)) (m : ArgMatches) (wish : Wish) → subcommand_rows_of m ≡ subcommand_of calvin words → fault_of calvin words ≡ []
    → IsOf (subcommand_name_of m) wish → IsAskedBy (rows_found (subcommand_rows_of m)) wish → IsTaken words
is_taken_for words m (Serial sets) same none named asked = (is_for words m (Serial sets) same none named asked).0
is_taken_for words m Check same none named asked = (is_for words m Check same none named asked).0
is_taken_for words m (Sim schedule) same none named asked = (is_for words m (Sim schedule) same none named asked).0
is_taken_for words m (Run team) same none named asked = (is_for words m (Run team) same none named asked).0
is_taken_for words m (Help e) same none named asked = absurd named

-- the wish for what the words name
pub is_serial : (words : List (List ℕ)) (m : ArgMatches) (wish : Wish) → subcommand_rows_of m ≡ subcommand_of calvin words
    → (subcommand_name_of m ≡ Some (codes "serial") → Some wish ≡ Some (Serial (sets_of (subcommand_rows_of m))))
    → IsSerialLine words → IsSerial (sets_asked words) (Ok wish)
is_serial words m wish same given line =
    let is = some_same wish _ (given (name_is (codes "serial") m words same line.1)) in
    subst (λ (w : Wish). IsSerial (sets_asked words) (Ok w)) (sym is) (ap sets_of same)

pub is_check : (words : List (List ℕ)) (m : ArgMatches) (wish : Wish) → subcommand_rows_of m ≡ subcommand_of calvin words
    → (subcommand_name_of m ≡ Some (codes "check") → Some wish ≡ Some Check) → IsCheckLine words → IsCheck (Ok wish)
is_check words m wish same given line =
    let is = some_same wish _ (given (name_is (codes "check") m words same line.1)) in
    subst (λ (w : Wish). IsCheck (Ok w)) (sym is) tt

-- what clap found of `serial` tells which sets are asked for
pub sets_found : (s : Option (Text × List Row)) (rows : List Row) → option_map (λ p. p.1) s ≡ Some rows → sets_of s ≡ (if has_flag (codes "scout") rows then Scouted else First)
sets_found None rows e = absurd (cc)
sets_found (Some p) rows e = let same : p.1 ≡ rows = cc in ap (λ rs. if has_flag (codes "scout") rs then Scouted else First) same
