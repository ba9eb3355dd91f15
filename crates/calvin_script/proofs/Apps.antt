-- A script for an application names it.
use Rattle.std.proofs.Common.{◌≡◌, ◌^◌, ℕ, List, Bool, true, false, Option, Some, None, option_and_then, codes, bytes_eq, refl}
use Rattle.std.proofs.lemmas.Slice.Eq.{bytes_eq-Decides}
use Rattle.serde_json.specs.Find.{get, as_str}
use Rattle.calvin_app.specs.declared.kv.KvRequest.{KvRequest}
use Rattle.calvin_once.specs.declared.kept.Named.{Named}
use Rattle.calvin_stock.specs.declared.request.StockRequest.{StockRequest}
use Rattle.calvin_script.specs.declared.reading.AppName.TheVariants.{Kv, Stock, Once}
use Rattle.calvin_script.specs.Spelling.{◌>>=◌, only_if, has_only, below, between, list, where_given}
use Rattle.calvin_script.specs.Grammar.{Grammar}
use Rattle.calvin_script.specs.Scripts.{Contents, Listed, batch, script, script_of, script_names}
use Rattle.calvin_script.specs.Documents.{Json, app_of}
use Rattle.calvin_script.specs.KvOperations.{kv_grammar}
use Rattle.calvin_script.specs.StockOperations.{stock_grammar}
use Rattle.calvin_script.specs.OnceOperations.{once_grammar}

tested : {A : Type 0} (test : Bool) (x : Option A) (c : A) → only_if test x ≡ Some c → test ≡ true
tested true x c e = refl
tested false x c e = absurd (cc)

named_at : {Args : Type 0} (wanted : List ℕ) (test : Bool) (partitions : Option ℕ) (name : Option (List ℕ)) (woven_from : Option (Option ℕ)) (epochs : Option (List (List (Listed Args)))) (c : Contents Args)
    → only_if test (do
      p ← partitions
      a ← name
      w ← woven_from
      e ← epochs
      only_if (bytes_eq a wanted) (script_of p w e)) ≡ Some c
    → (a : List ℕ) × (name ≡ Some a) × (bytes_eq a wanted ≡ true)
named_at wanted false partitions name woven_from epochs c e = absurd (cc)
named_at wanted true None name woven_from epochs c e = absurd (cc)
named_at wanted true (Some p) None woven_from epochs c e = absurd (cc)
named_at wanted true (Some p) (Some a) None epochs c e = absurd (cc)
named_at wanted true (Some p) (Some a) (Some w) None c e = absurd (cc)
named_at wanted true (Some p) (Some a) (Some w) (Some l) c e = (a, refl, tested (bytes_eq a wanted) (script_of p w l) c e)

pub app_named : {Args : Type 0} (grammar : Grammar Args) (d : Json) (c : Contents Args) → script grammar d ≡ Some c
    → (a : List ℕ) × (option_and_then as_str (get (codes "app") d) ≡ Some a) × (bytes_eq a grammar.app_name ≡ true)
unfolding script
app_named grammar d c e =
    named_at grammar.app_name (has_only script_names d) (option_and_then (between 1 16) (get (codes "partitions") d)) (option_and_then as_str (get (codes "app") d)) (where_given (below (2 ^ 48)) (get (codes "woven_from") d)) (option_and_then (list (list (batch grammar))) (get (codes "epochs") d)) c e

pub kv_named : (d : Json) (c : Contents KvRequest) → script kv_grammar d ≡ Some c → app_of d ≡ Some Kv
kv_named d c e = let n = app_named kv_grammar d c e in rw (n.1, n.2) refl

pub stock_named : (d : Json) (c : Contents StockRequest) → script stock_grammar d ≡ Some c → app_of d ≡ Some Stock
stock_named d c e =
    let n = app_named stock_grammar d c e in
    let is : n.0 ≡ stock_grammar.app_name = (bytes_eq-Decides n.0 stock_grammar.app_name).0 n.2 in
    rw (n.1, is) refl

pub once_named : (d : Json) (c : Contents (Named StockRequest)) → script once_grammar d ≡ Some c → app_of d ≡ Some Once
once_named d c e =
    let n = app_named once_grammar d c e in
    let is : n.0 ≡ once_grammar.app_name = (bytes_eq-Decides n.0 once_grammar.app_name).0 n.2 in
    rw (n.1, is) refl
