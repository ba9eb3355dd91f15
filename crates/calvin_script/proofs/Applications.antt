-- Bytes that are a script for an application are that script for the application that they name, and the other way round.
use Rattle.std.proofs.Common.{◌≡◌, ℕ, List, Option, Some, None, Result, Ok, Err, ap, subst, refl, ◌∙◌}
use Rattle.std.specs.Prelude.{ok_or}
use Rattle.calvin_types.specs.declared.fault.Fault.{Fault}
use Rattle.calvin_types.specs.declared.fault.Fault.TheVariants.{BadScript}
use Rattle.calvin_app.specs.declared.kv.KvRequest.{KvRequest}
use Rattle.calvin_once.specs.declared.kept.Named.{Named}
use Rattle.calvin_stock.specs.declared.request.StockRequest.{StockRequest}
use Rattle.calvin_script.specs.declared.reading.AppName.{AppName}
use Rattle.calvin_script.specs.declared.reading.AppName.TheVariants as app
use Rattle.calvin_script.specs.Applications.{AppContents, OfKv, OfStock, OfOnce, script_for, script_by, app_script, app_script_from, IsReadAs}
use Rattle.calvin_script.specs.Documents.{Json, app_of, script_in}
use Rattle.calvin_script.specs.Grammar.{Grammar}
use Rattle.calvin_script.specs.Reading.{and_then, json, script_from}
use Rattle.calvin_script.specs.Scripts.{Contents, script}
use Rattle.calvin_script.specs.KvOperations.{kv_grammar}
use Rattle.calvin_script.specs.StockOperations.{stock_grammar}
use Rattle.calvin_script.specs.OnceOperations.{once_grammar}
use Rattle.calvin_script.proofs.Apps.{kv_named, stock_named, once_named}

abbrev pick : {A : Type 0} → A → Result A Fault → A
pick x (Ok y) = y
pick x (Err fault) = x

spelled : {Args : Type 0} (o : Option (Contents Args)) (c : Contents Args) → ok_or o BadScript ≡ Ok c → o ≡ Some c
spelled None c e = absurd (cc)
spelled (Some x) c e = ap (λ r. Some (pick x r)) e

-- ---- for an application, then for that which is named

module _ {Args : Type 0} (grammar : Grammar Args) (of : Contents Args → AppContents) (name : AppName) (by : (d : Json) → script_by d (Some name) ≡ script_for of (script_in grammar d)) (named : (d : Json) (c : Contents Args) → script grammar d ≡ Some c → app_of d ≡ Some name) where
  named_at : (read : Result Json Fault) (c : Contents Args) → and_then read (λ d. ok_or (script grammar d) BadScript) ≡ Ok c → and_then read app_script ≡ Ok (of c)
  named_at (Err fault) c e = absurd (cc)
  named_at (Ok d) c e =
      let is = spelled (script grammar d) c e in
      ap (script_by d) (named d c is) ∙ by d ∙ ap (λ o. script_for of (ok_or o BadScript)) is

  as_named : (bytes : List ℕ) (c : Contents Args) → script_from grammar bytes ≡ Ok c → app_script_from bytes ≡ Ok (of c)
  unfolding script_from app_script_from
  as_named bytes c e = named_at (json bytes) c e

pub kv_read : (bytes : List ℕ) (c : Contents KvRequest) → script_from kv_grammar bytes ≡ Ok c → app_script_from bytes ≡ Ok (OfKv c)
kv_read = as_named kv_grammar OfKv app.Kv (λ d. refl) kv_named

pub stock_read : (bytes : List ℕ) (c : Contents StockRequest) → script_from stock_grammar bytes ≡ Ok c → app_script_from bytes ≡ Ok (OfStock c)
stock_read = as_named stock_grammar OfStock app.Stock (λ d. refl) stock_named

pub once_read : (bytes : List ℕ) (c : Contents (Named StockRequest)) → script_from once_grammar bytes ≡ Ok c → app_script_from bytes ≡ Ok (OfOnce c)
once_read = as_named once_grammar OfOnce app.Once (λ d. refl) once_named

-- ---- for that which is named, then for the application

abbrev IsIn : AppContents → Json → Type 0
IsIn (OfKv c) d = script_in kv_grammar d ≡ Ok c
IsIn (OfStock c) d = script_in stock_grammar d ≡ Ok c
IsIn (OfOnce c) d = script_in once_grammar d ≡ Ok c

abbrev pick_app : AppContents → Result AppContents Fault → AppContents
pick_app s (Ok t) = t
pick_app s (Err fault) = s

in_for : {Args : Type 0} (d : Json) (of : Contents Args → AppContents) (read : Result (Contents Args) Fault) (is : (c : Contents Args) → read ≡ Ok c → IsIn (of c) d) (s : AppContents) → script_for of read ≡ Ok s → IsIn s d
in_for d of (Ok c) is s e = subst (λ r. IsIn (pick_app s r) d) e (is c refl)
in_for d of (Err fault) is s e = absurd (cc)

in_by : (d : Json) (name : Option AppName) (s : AppContents) → script_by d name ≡ Ok s → IsIn s d
in_by d None s e = absurd (cc)
in_by d (Some app.Kv) s e = in_for d OfKv (script_in kv_grammar d) (λ c is. is) s e
in_by d (Some app.Stock) s e = in_for d OfStock (script_in stock_grammar d) (λ c is. is) s e
in_by d (Some app.Once) s e = in_for d OfOnce (script_in once_grammar d) (λ c is. is) s e

abbrev IsAt : AppContents → Result Json Fault → Type 0
IsAt (OfKv c) read = and_then read (script_in kv_grammar) ≡ Ok c
IsAt (OfStock c) read = and_then read (script_in stock_grammar) ≡ Ok c
IsAt (OfOnce c) read = and_then read (script_in once_grammar) ≡ Ok c

at_in : (d : Json) (s : AppContents) → IsIn s d → IsAt s (Ok d)
at_in d (OfKv c) is = is
at_in d (OfStock c) is = is
at_in d (OfOnce c) is = is

at_read : (read : Result Json Fault) (s : AppContents) → and_then read app_script ≡ Ok s → IsAt s read
at_read (Err fault) s e = absurd (cc)
at_read (Ok d) s e = at_in d s (in_by d (app_of d) s e)

as_read : (s : AppContents) (bytes : List ℕ) → IsAt s (json bytes) → IsReadAs s bytes
unfolding script_from
as_read (OfKv c) bytes is = is
as_read (OfStock c) bytes is = is
as_read (OfOnce c) bytes is = is

pub read_as : (bytes : List ℕ) (s : AppContents) → app_script_from bytes ≡ Ok s → IsReadAs s bytes
unfolding app_script_from
read_as bytes s e = as_read s bytes (at_read (json bytes) s e)
