-- What a line asks, step by step.
use Rattle.std.proofs.Common.{◌≡◌, ◌≤◌, ◌<◌, ℕ, List, length, Bool, true, false, if◌then◌else◌, codes, Option, Some, None, Result, Ok, Err, refl, sym, ap, ◌∙◌, subst, nat_le, ◌&&◌}
use Rattle.std.specs.Prelude.{ok_or}
use Rattle.std.proofs.lemmas.Bool.{le-leb, lt-leb, and_parts}
use Rattle.serde_json.specs.Data.{Data}
use Rattle.serde_json.specs.Find.{get}
use Rattle.calvin_types.specs.declared.fault.Fault.{Fault}
use Rattle.calvin_types.specs.declared.fault.Fault.TheVariants.{OutOfMemory, BadJson, BadScript, EmptySets, TooManyAttempts}
use Rattle.calvin_types.specs.Submitting.{has_key, is_attempt, is_taken}
use Rattle.calvin_script.specs.declared.contents.Request.{Request}
use Rattle.calvin_script.specs.Grammar.{Grammar}
use Rattle.calvin_script.specs.Gives.{Fails}
use Rattle.calvin_script.specs.Reading.{IsFault, and_then, json}
use Rattle.calvin_script.specs.Spelling.{◌>>=◌}
use Rattle.calvin_serve_lines.specs.declared.limits.TheConstants.{MOST_LINE_BYTES}
use Rattle.calvin_serve_lines.specs.Asking.{Asked, without, group_of, spelled, asked_in, asked_or, if_taken, request_line, IsRefusal, ReadsLine}

not_read : {A B : Type 0} (fault : Fault) (r : Result A Fault) (f : A → Result B Fault) → IsFault fault r → IsRefusal fault (and_then r f)
not_read OutOfMemory r f h = tt
not_read BadJson r f h = ap (λ x. and_then x f) h
not_read BadScript r f h = ap (λ x. and_then x f) h
not_read _ r f h = absurd h

not_given : {A B : Type 0} (fault : Fault) (o : Option A) (f : A → Result B Fault) → Fails fault o → IsRefusal fault (and_then (ok_or o BadScript) f)
not_given OutOfMemory o f h = tt
not_given BadScript o f h = ap (λ x. and_then (ok_or x BadScript) f) h
not_given _ o f h = absurd h

bound_fails : {A B : Type 0} (fault : Fault) (o : Option A) (f : A → Option B) → Fails fault o → Fails fault (o >>= f)
bound_fails OutOfMemory o f h = tt
bound_fails BadScript o f h = ap (λ x. x >>= f) h
bound_fails _ o f h = absurd h

module _ {Args : Type 0} (grammar : Grammar Args) (partitions : ℕ) where
  -- ---- the line

  pub too_long : (line : List ℕ) → MOST_LINE_BYTES < length line → request_line grammar partitions line ≡ Err BadJson
  unfolding request_line
  too_long line long = rw (lt-leb (length line) 65536 long) refl

  pub no_json : (line : List ℕ) (fault : Fault) → length line ≤ MOST_LINE_BYTES → IsFault fault (json line) → IsRefusal fault (request_line grammar partitions line)
  unfolding request_line
  no_json line fault short h = rw (le-leb (length line) 65536 short) (not_read fault (json line) (asked_or grammar partitions) h)

  pub line_asks : (line : List ℕ) (d : Data) (result : Result (Asked Args) Fault) → length line ≤ MOST_LINE_BYTES → json line ≡ Ok d → ReadsLine result (asked_or grammar partitions d) → ReadsLine result (request_line grammar partitions line)
  unfolding request_line
  line_asks line d result short is h = rw (le-leb (length line) 65536 short, is) h

  -- ---- its JSON

  module _ (d rest : Data) (kept : rest ≡ without (codes "group") d) where
    pub not_spelled : (fault : Fault) → Fails fault (spelled grammar rest) → IsRefusal fault (asked_or grammar partitions d)
    unfolding asked_in
    not_spelled fault h = not_given fault (asked_in grammar partitions d) if_taken (bound_fails fault (spelled grammar (without (codes "group") d)) _ (subst (λ x. Fails fault (spelled grammar x)) kept h))

    module _ (r : Request Args) (is : spelled grammar rest ≡ Some r) (given : Option Data) (out : given ≡ get (codes "group") d) where
      spells : spelled grammar (without (codes "group") d) ≡ Some r
      spells = subst (λ x. spelled grammar x ≡ Some r) kept is

      pub no_group : group_of partitions r.txn.id.client given ≡ None → asked_or grammar partitions d ≡ Err BadScript
      unfolding asked_in
      no_group none = rw (spells, sym out, none) refl

      found : (group : ℕ) → group_of partitions r.txn.id.client given ≡ Some group → asked_or grammar partitions d ≡ if_taken (record { group = group; request = r })
      unfolding asked_in
      found group some = rw (spells, sym out, some) refl

      pub asks : (group : ℕ) → group_of partitions r.txn.id.client given ≡ Some group → is_taken r.txn ≡ true → asked_or grammar partitions d ≡ Ok (record { group = group; request = r })
      asks group some taken = let p = and_parts (has_key r.txn.sets) (is_attempt r.txn.attempt) taken in found group some ∙ rw (p.0, p.1) refl

      why : (fault : Fault) (k a : Bool) (asked : Asked Args) → fault ≡ (if k then TooManyAttempts else EmptySets) → (k && a) ≡ false → IsRefusal fault (if k then (if a then Ok asked else Err TooManyAttempts) else Err EmptySets)
      why fault true true asked e h = absurd (cc)
      why fault true false asked e h = rw e refl
      why fault false a asked e h = rw e refl

      pub not_taken : (group : ℕ) (fault : Fault) → group_of partitions r.txn.id.client given ≡ Some group → is_taken r.txn ≡ false → fault ≡ (if has_key r.txn.sets then TooManyAttempts else EmptySets) → IsRefusal fault (asked_or grammar partitions d)
      not_taken group fault some refused e =
          subst (IsRefusal fault) (sym (found group some)) (why fault (has_key r.txn.sets) (is_attempt r.txn.attempt) (record { group = group; request = r }) e refused)
