-- What the engine `check` writes. The text is of this project; what it tells is what events make of a world.
--     first_world script      the world of the script before its events
--     ended m script      how the events end, and the world that they lead to
--     answer_lines show w      the lines of the answers: one for each place at which something was replied, and the last line
--     are_lines texts lines, are_expected expect lines      the texts are the lines, each without its line feed;  where any are expected
--     told_behind show text w      a text, and behind it each node and the answers
--     report show m script      the text: how each event ended, each node, and the answers
--     is_as_expected show m script      the lines of the answers are the texts that are expected, where any are
--     report_of bytes      the text for the bytes of a script, and whether its answers are as expected; or why there is none
--     check_text bytes, IsExpected b bytes      the text alone;  whether the answers are as expected
--     IsCheckFault fault      a fault that the engine may end with, whatever its source and its sink are
use Rattle.std.specs.Prelude.{◌≡◌, ℕ, List, [], ◌∷◌, ◌++◌, map, Bool, true, false, length, codes, if◌then◌else◌, nat_lt, Option, Some, None, Result, Ok, Err}
use Rattle.std.specs.Cmp.Lexicographic.{pointwise}
use Rattle.std.specs.Str.{bytes_eq}
use Rattle.std.specs.FinMap.{entries}
use Rattle.calvin_types.specs.declared.fault.Fault.{Fault}
use Rattle.calvin_types.specs.declared.fault.Fault.TheVariants.{OutOfMemory, BadJson, BadScript, ScriptTooLong, ReadFailed, WriteFailed, NotExpected}
use Rattle.calvin_edge.specs.declared.reading.TheConstants.{MOST_BYTES}
use Rattle.calvin_app.specs.Meaning.{Meaning}
use Rattle.calvin_app.specs.Kv.{kv}
use Rattle.calvin_stock.specs.Stock.{stock}
use Rattle.calvin_world.specs.declared.event.Outcome.{Outcome}
use Rattle.calvin_world.specs.Worlds.{WorldState, opening}
use Rattle.calvin_world.specs.Through.{through}
use Rattle.calvin_script.specs.declared.reading.AppName.{AppName}
use Rattle.calvin_script.specs.declared.reading.AppName.TheVariants.{Kv, Stock, Once}
use Rattle.calvin_script.specs.Documents.{Json, app_of}
use Rattle.calvin_script.specs.Grammar.{Grammar}
use Rattle.calvin_script.specs.Reading.{and_then, json}
use Rattle.calvin_script.specs.KvOperations.{kv_grammar}
use Rattle.calvin_script.specs.StockOperations.{stock_grammar}
use Rattle.calvin_script.specs.OnceOperations.{once_stock, once_grammar}
use Rattle.calvin_text.specs.Texts.{kv_text, stock_text, finished_at, line}
use Rattle.calvin_script_events.specs.EventScripts.{WorldContents, world_script_in}
use Rattle.calvin_report.specs.declared.replies.Epochs.TheVariants.{All}
use Rattle.calvin_report.specs.Replies.{replied, of_epochs, reply_lines}
use Rattle.calvin_report.specs.Reports.{outcome_lines, node_lines, least_standing}

abbrev pub are_lines : List (List ℕ) → List (List ℕ) → Bool
are_lines texts lines = pointwise bytes_eq (map (λ text. text ++ codes "\n") texts) lines

abbrev pub are_expected : Option (List (List ℕ)) → List (List ℕ) → Bool
are_expected None lines = true
are_expected (Some texts) lines = are_lines texts lines

module _ {Args Row Reply : Type 0} where
  abbrev pub first_world : WorldContents Args → WorldState Args Row Reply
  first_world script = opening script.config

  abbrev pub ended : Meaning Args Row Reply → WorldContents Args → List Outcome × WorldState Args Row Reply
  ended m script = through m (first_world script) script.events

  module _ (show : Reply → List ℕ) where
    abbrev pub answer_lines : WorldState Args Row Reply → List (List ℕ)
    answer_lines w = map (λ e. line show e.0 e.1.0 e.1.1) (entries (replied w.packets)) ++ finished_at (least_standing w) ∷ []

    -- a text, and behind it each node and the answers
    abbrev pub told_behind : List ℕ → WorldState Args Row Reply → List ℕ
    told_behind text w = text ++ node_lines w ++ reply_lines show (of_epochs All (entries (replied w.packets))) ++ finished_at (least_standing w)

    -- how each event ended, each node, and the answers
    abbrev pub told : List Outcome × WorldState Args Row Reply → List ℕ
    told end = told_behind (outcome_lines 0 end.0) end.1

    abbrev pub report : Meaning Args Row Reply → WorldContents Args → List ℕ
    report m script = told (ended m script)

    abbrev pub is_as_expected : Meaning Args Row Reply → WorldContents Args → Bool
    is_as_expected m script = are_expected script.expect (answer_lines (ended m script).1)

    -- the text for the JSON of a script for an application, and whether its answers are as expected; or why there is none
    abbrev pub report_for : Meaning Args Row Reply → Grammar Args → Json → Result (List ℕ × Bool) Fault
    report_for m grammar d = and_then (world_script_in grammar d) (λ script. Ok (report m script, is_as_expected m script))

-- by the application that is named
abbrev pub report_by : Json → Option AppName → Result (List ℕ × Bool) Fault
report_by d None = Err BadScript
report_by d (Some Kv) = report_for kv_text kv kv_grammar d
report_by d (Some Stock) = report_for stock_text stock stock_grammar d
report_by d (Some Once) = report_for stock_text once_stock once_grammar d

abbrev pub report_in : Json → Result (List ℕ × Bool) Fault
report_in d = report_by d (app_of d)

abbrev pub report_of : List ℕ → Result (List ℕ × Bool) Fault
report_of bytes = if nat_lt MOST_BYTES (length bytes) then Err ScriptTooLong else and_then (json bytes) report_in

abbrev pub check_text : List ℕ → Result (List ℕ) Fault
check_text bytes = and_then (report_of bytes) (λ report. Ok report.0)

abbrev pub IsExpected : Bool → List ℕ → Type 0
IsExpected b bytes = and_then (report_of bytes) (λ report. Ok report.1) ≡ Ok b

-- want of memory, a script that is refused, answers that aren't the expected ones, or a device that failed
abbrev pub IsCheckFault : Fault → Type 0
IsCheckFault OutOfMemory = Unit {0}
IsCheckFault BadJson = Unit {0}
IsCheckFault BadScript = Unit {0}
IsCheckFault ScriptTooLong = Unit {0}
IsCheckFault ReadFailed = Unit {0}
IsCheckFault WriteFailed = Unit {0}
IsCheckFault NotExpected = Unit {0}
IsCheckFault _ = ⊥
