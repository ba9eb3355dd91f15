-- For private clauses: what is made of a line's words.
--     HasSets rows sets      the sets of requests that declare none, by what clap found
--     IsFor words wish      where a service is asked for, the words ask for it
--     IsServe wish, IsHelp wish      a service is asked for; help is; unless memory ran out
--     IsRefused wish      nothing is asked for
use Rattle.std.specs.Prelude.{◌≡◌, ℕ, List, if◌then◌else◌, Result, Ok, Err, codes}
use Rattle.clap.specs.Words.{Row}
use Rattle.calvin_options.specs.Options.{has_flag}
use Rattle.calvin_serial.specs.declared.undeclared.UndeclaredSets.{UndeclaredSets}
use Rattle.calvin_serial.specs.declared.undeclared.UndeclaredSets.TheVariants.{First, Scouted}
use Rattle.calvin_serve_command.specs.declared.wishes.Wish.{Wish}
use Rattle.calvin_serve_command.specs.declared.wishes.Wish.TheVariants.{Serve, Help}
use Rattle.calvin_serve_command.specs.declared.wishes.Refusal.{Refusal}
use Rattle.calvin_serve_command.specs.declared.wishes.Refusal.TheVariants.{BadLine, OutOfMemory}
use Rattle.calvin_serve_command.specs.Line.{IsTaken, IsAsked}

abbrev pub HasSets : List Row → UndeclaredSets → Type 0
HasSets rows sets = sets ≡ (if has_flag (codes "scout") rows then Scouted else First)

abbrev pub IsFor : List (List ℕ) → Result Wish Refusal → Type 0
IsFor words (Ok (Serve order)) = IsTaken words × IsAsked words order
IsFor words (Ok (Help e)) = Unit {0}
IsFor words (Err refusal) = Unit {0}

abbrev pub IsServe : Result Wish Refusal → Type 0
IsServe (Ok (Serve order)) = Unit {0}
IsServe (Ok (Help e)) = ⊥
IsServe (Err BadLine) = ⊥
IsServe (Err OutOfMemory) = Unit {0}

abbrev pub IsHelp : Result Wish Refusal → Type 0
IsHelp (Ok (Serve order)) = ⊥
IsHelp (Ok (Help e)) = Unit {0}
IsHelp (Err BadLine) = ⊥
IsHelp (Err OutOfMemory) = Unit {0}

abbrev pub IsRefused : Result Wish Refusal → Type 0
IsRefused (Ok wish) = ⊥
IsRefused (Err refusal) = Unit {0}
