-- A sequencer takes each request of a script that is read.
use Rattle.std.proofs.Common.{◌≡◌, ◌^◌, ℕ, ◌&&◌, Bool, true, false, List, ◌∷◌, length, Option, Some, None, option_and_then, refl, sym, ap, ◌∙◌}
use Rattle.std.specs.Prelude.{nat_le, codes, bytes_eq, Result, Ok, Err, ok_or}
use Rattle.std.specs.List.{list_all}
use Rattle.serde_json.specs.Data.{Data, Items, no_items, item}
use Rattle.serde_json.specs.Find.{get, as_str, as_array}
use Rattle.calvin_types.specs.declared.limits.TheConstants.{MOST_REQUESTS}
use Rattle.calvin_types.specs.declared.fault.Fault.{Fault}
use Rattle.calvin_types.specs.declared.fault.Fault.TheVariants.{BadScript}
use Rattle.calvin_script.specs.declared.contents.Request.{Request}
use Rattle.calvin_script.specs.Documents.{Json}
use Rattle.calvin_script.specs.Grammar.{Grammar}
use Rattle.calvin_script.specs.Reading.{and_then, json, script_from}
use Rattle.calvin_script.specs.Requests.{request}
use Rattle.calvin_script.specs.Scripts.{Contents, Listed, are_taken, batch_of, batch, batch_names, groups_fit, script, script_of, script_names}
use Rattle.calvin_script.specs.Spelling.{◌>>=◌, only_if, has_only, between, below, each, list, where_given}
use Rattle.calvin_sim.specs.Simulations.{AllTaken}

module _ {A : Type 0} (f : Data → Option A) (P : A → Bool) (h : (d : Data) (x : A) → f d ≡ Some x → P x ≡ true) where
  each_all : (ds : Items) (xs : List A) → each f ds ≡ Some xs → list_all P xs ≡ true
  each_all no_items xs e = ap (λ o. all_in o) (sym e)
    where
      all_in : Option (List A) → Bool
      all_in None = true
      all_in (Some l) = list_all P l
  each_all (item d ds) xs e = go (f d) refl (each f ds) (λ l rest. each_all ds l rest) e
    where
      all_in : Option (List A) → Bool
      all_in None = true
      all_in (Some l) = list_all P l

      go : (o : Option A) → f d ≡ o → (r : Option (List A)) → ((l : List A) → r ≡ Some l → list_all P l ≡ true) → option_and_then (λ x. option_and_then (λ l. Some (x ∷ l)) r) o ≡ Some xs → list_all P xs ≡ true
      go None is r all e = absurd (cc)
      go (Some x) is None all e = absurd (cc)
      go (Some x) is (Some l) all e = ap all_in (sym e) ∙ (λ j. h d x is j && all l refl j)

  list_all_of : (d : Data) (xs : List A) → list f d ≡ Some xs → list_all P xs ≡ true
  list_all_of d xs e = go (as_array d) e
    where
      go : (o : Option Items) → option_and_then (each f) o ≡ Some xs → list_all P xs ≡ true
      go None e = absurd (cc)
      go (Some ds) e = each_all ds xs e

module _ {Args : Type 0} where
  abbrev taken_in : Option (Listed Args) → Bool
  taken_in None = true
  taken_in (Some b) = are_taken b.requests

  batch_taken : (grammar : Grammar Args) (d : Data) (b : Listed Args) → batch grammar d ≡ Some b → are_taken b.requests ≡ true
  unfolding batch
  batch_taken grammar d b e = go (has_only batch_names d) (option_and_then (below 256) (get (codes "group") d)) (option_and_then (list (request grammar)) (get (codes "txns") d)) e
    where
      end : (group : ℕ) (requests : List (Request Args)) (n t : Bool) → t ≡ are_taken requests → only_if (n && t) (Some (record { group = group; requests = requests })) ≡ Some b → are_taken b.requests ≡ true
      end group requests true true is e = ap taken_in (sym e) ∙ sym is
      end group requests true false is e = absurd (cc)
      end group requests false t is e = absurd (cc)

      go : (test : Bool) (group : Option ℕ) (requests : Option (List (Request Args))) → only_if test (do
        g ← group
        rs ← requests
        batch_of g rs) ≡ Some b → are_taken b.requests ≡ true
      go false group requests e = absurd (cc)
      go true None requests e = absurd (cc)
      go true (Some g) None e = absurd (cc)
      go true (Some g) (Some rs) e = end g rs (nat_le (length rs) MOST_REQUESTS) (are_taken rs) refl e

  abbrev all_in : Option (Contents Args) → Bool
  all_in None = true
  all_in (Some c) = list_all (λ epoch. list_all (λ (b : Listed Args). are_taken b.requests) epoch) c.epochs

  pub script_taken : (grammar : Grammar Args) (d : Data) (c : Contents Args) → script grammar d ≡ Some c → AllTaken c
  unfolding script
  script_taken grammar d c e =
      go (has_only script_names d) (option_and_then (between 1 16) (get (codes "partitions") d)) (option_and_then as_str (get (codes "app") d)) (where_given (below (2 ^ 48)) (get (codes "woven_from") d)) (get (codes "epochs") d) e
    where
      all : List (List (Listed Args)) → Bool
      all epochs = list_all (λ epoch. list_all (λ (b : Listed Args). are_taken b.requests) epoch) epochs

      end : (p : ℕ) (w : Option ℕ) (l : List (List (Listed Args))) (named fit : Bool) → list_all (λ epoch. list_all (λ (b : Listed Args). are_taken b.requests) epoch) l ≡ true → only_if named (only_if fit (Some (record { partitions = p; woven_from = w; epochs = l }))) ≡ Some c → AllTaken c
      end p w l true true taken e = ap all_in (sym e) ∙ taken
      end p w l true false taken e = absurd (cc)
      end p w l false fit taken e = absurd (cc)

      listed : (p : ℕ) (a : List ℕ) (w : Option ℕ) (o : Option (List (List (Listed Args)))) → ((l : List (List (Listed Args))) → o ≡ Some l → list_all (λ epoch. list_all (λ (b : Listed Args). are_taken b.requests) epoch) l ≡ true)
          → option_and_then (λ l. only_if (bytes_eq a grammar.app_name) (script_of p w l)) o ≡ Some c → AllTaken c
      listed p a w None taken e = absurd (cc)
      listed p a w (Some l) taken e = end p w l (bytes_eq a grammar.app_name) (list_all (groups_fit p) l) (taken l refl) e

      spelled : (o : Option Data) (l : List (List (Listed Args))) → option_and_then (list (list (batch grammar))) o ≡ Some l → list_all (λ epoch. list_all (λ (b : Listed Args). are_taken b.requests) epoch) l ≡ true
      spelled None l e = absurd (cc)
      spelled (Some x) l e =
          list_all_of (list (batch grammar)) (λ epoch. list_all (λ (b : Listed Args). are_taken b.requests) epoch)
          (λ y epoch is. list_all_of (batch grammar) (λ (b : Listed Args). are_taken b.requests) (λ z b has. batch_taken grammar z b has) y epoch is) x l e

      go : (test : Bool) (partitions : Option ℕ) (name : Option (List ℕ)) (woven_from : Option (Option ℕ)) (epochs : Option Data) → only_if test (do
        p ← partitions
        a ← name
        w ← woven_from
        l ← option_and_then (list (list (batch grammar))) epochs
        only_if (bytes_eq a grammar.app_name) (script_of p w l)) ≡ Some c → AllTaken c
      go false partitions name woven_from epochs e = absurd (cc)
      go true None name woven_from epochs e = absurd (cc)
      go true (Some p) None woven_from epochs e = absurd (cc)
      go true (Some p) (Some a) None epochs e = absurd (cc)
      go true (Some p) (Some a) (Some w) epochs e = listed p a w (option_and_then (list (list (batch grammar))) epochs) (λ l is. spelled epochs l is) e

  abbrev pick : Contents Args → Result (Contents Args) Fault → Contents Args
  pick x (Ok y) = y
  pick x (Err fault) = x

  read_taken : (grammar : Grammar Args) (d : Data) (c : Contents Args) (o : Option (Contents Args)) → script grammar d ≡ o → ok_or o BadScript ≡ Ok c → AllTaken c
  read_taken grammar d c None is e = absurd (cc)
  read_taken grammar d c (Some x) is e = script_taken grammar d c (is ∙ ap (λ r. Some (pick x r)) e)

  from_json : (grammar : Grammar Args) (c : Contents Args) (r : Result Json Fault) → and_then r (λ d. ok_or (script grammar d) BadScript) ≡ Ok c → AllTaken c
  from_json grammar c (Err fault) e = absurd (cc)
  from_json grammar c (Ok d) e = read_taken grammar d c (script grammar d) refl e

  pub from_taken : (grammar : Grammar Args) (bytes : List ℕ) (c : Contents Args) → script_from grammar bytes ≡ Ok c → AllTaken c
  unfolding script_from
  from_taken grammar bytes c e = from_json grammar c (json bytes) e
