-- What is told of a script of events for the application that it names is told of its bytes.
use Rattle.std.proofs.Common.{◌≡◌, ℕ, List, Bool, Option, Some, None, Result, Ok, Err, refl, sym, ap, subst, ◌∙◌}
use Rattle.std.specs.Prelude.{IfOk, IsOkUnless}
use Rattle.calvin_types.specs.declared.fault.Fault.{Fault}
use Rattle.calvin_types.specs.declared.fault.Fault.TheVariants.{OutOfMemory, BadJson, BadScript}
use Rattle.calvin_app.specs.Kv.{kv}
use Rattle.calvin_stock.specs.Stock.{stock}
use Rattle.calvin_script.specs.declared.reading.AppName.{AppName}
use Rattle.calvin_script.specs.declared.reading.AppName.TheVariants.{Kv, Stock, Once}
use Rattle.calvin_script.specs.Documents.{Json, app_of}
use Rattle.calvin_script.specs.Reading.{and_then, json, IsFault, Reads}
use Rattle.calvin_script.specs.KvOperations.{kv_grammar}
use Rattle.calvin_script.specs.StockOperations.{stock_grammar}
use Rattle.calvin_script.specs.OnceOperations.{once_stock, once_grammar}
use Rattle.calvin_script_events.specs.EventScripts.{world_script_in}
use Rattle.calvin_event_tokens.specs.EventReading.{AppEvents, OfKv, OfStock, OfOnce, events_by, app_events, event_script_from}
use Rattle.calvin_text.specs.Texts.{kv_text, stock_text}
use Rattle.calvin_check.specs.Checks.{report, is_as_expected, report_by, report_in}

abbrev pub Told : Type 0
Told = List ℕ × Bool

-- the text of a script for the application that it names, and whether its answers are as expected
abbrev pub told_of : AppEvents → Told
told_of (OfKv s) = (report kv_text kv s, is_as_expected kv_text kv s)
told_of (OfStock s) = (report stock_text stock s, is_as_expected stock_text stock s)
told_of (OfOnce s) = (report stock_text once_stock s, is_as_expected stock_text once_stock s)

twice : {A B C : Type 0} (read : Result A Fault) (f : A → Result B Fault) (g : B → Result C Fault) → and_then read (λ x. and_then (f x) g) ≡ and_then (and_then read f) g
twice (Ok x) f g = refl
twice (Err fault) f g = refl

by_name : (d : Json) (name : Option AppName) → report_by d name ≡ and_then (events_by d name) (λ s. Ok (told_of s))
by_name d None = refl
by_name d (Some Kv) = twice (world_script_in kv_grammar d) (λ s. Ok (OfKv s)) (λ s. Ok (told_of s))
by_name d (Some Stock) = twice (world_script_in stock_grammar d) (λ s. Ok (OfStock s)) (λ s. Ok (told_of s))
by_name d (Some Once) = twice (world_script_in once_grammar d) (λ s. Ok (OfOnce s)) (λ s. Ok (told_of s))

at_json : (read : Result Json Fault) → and_then read report_in ≡ and_then (and_then read app_events) (λ s. Ok (told_of s))
at_json (Ok d) = by_name d (app_of d)
at_json (Err fault) = refl

told : (bytes : List ℕ) → and_then (json bytes) report_in ≡ and_then (event_script_from bytes) (λ s. Ok (told_of s))
unfolding event_script_from
told bytes = at_json (json bytes)

read_told : (bytes : List ℕ) (s : AppEvents) (text : List ℕ) (b : Bool) → event_script_from bytes ≡ Ok s → (text, b) ≡ told_of s → and_then (json bytes) report_in ≡ Ok (text, b)
read_told bytes s text b is e = told bytes ∙ ap (λ r. and_then r (λ s. Ok (told_of s))) is ∙ ap Ok (sym e)

-- what is told of the script that was read is told of the bytes, unless memory runs out
pub told_read : {X : Type 0} (text : X → List ℕ) (flag : X → Bool) (bytes : List ℕ) (s : AppEvents) (result : Result X Fault) → event_script_from bytes ≡ Ok s
    → IfOk result (λ r. (text r ≡ (told_of s).0) × (flag r ≡ (told_of s).1)) → IsOkUnless result OutOfMemory → Reads (λ r. (text r, flag r)) result (and_then (json bytes) report_in)
told_read text flag bytes s (Ok r) is same only = read_told bytes s (text r) (flag r) is (λ i. (same.0 i, same.1 i))
told_read text flag bytes s (Err fault) is same only = subst (λ f. IsFault f (and_then (json bytes) report_in)) (sym only) tt

pub refused : (bytes : List ℕ) (fault : Fault) → IsFault fault (event_script_from bytes) → IsFault fault (and_then (json bytes) report_in)
refused bytes OutOfMemory h = tt
refused bytes BadJson h = told bytes ∙ ap (λ r. and_then r (λ s. Ok (told_of s))) h
refused bytes BadScript h = told bytes ∙ ap (λ r. and_then r (λ s. Ok (told_of s))) h
refused bytes _ h = absurd h
