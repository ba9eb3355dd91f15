-- What a line was read as.
use Rattle.std.proofs.Common.{arith, ℕ, zero, suc, ◌<◌, ◌≡◌, List, [], ◌∷◌, Bool, true, false, refl, ap, subst, map, length, get_or, nat_lt, nat_le, if◌then◌else◌, codes, option_and_then, Option, Some, None, Result, Ok, Err, ok_or}
use Rattle.std.specs.List.{range_with_len}
use Rattle.std.proofs.lemmas.List.FromFn.{length-map-range_with_len}
use Rattle.std.proofs.lemmas.Bool.Decides.{nat_tests}
use Rattle.calvin_types.specs.declared.fault.Fault.{Fault}
use Rattle.calvin_types.specs.declared.fault.Fault.TheVariants.{OutOfMemory, BadJson, BadScript, EmptySets, TooManyAttempts}
use Rattle.calvin_types.specs.Submitting.{has_key, is_attempt}
use Rattle.serde_json.specs.Data.{Data}
use Rattle.serde_json.specs.Find.{get, as_number, as_u64}
use Rattle.calvin_script.specs.Grammar.{Grammar}
use Rattle.calvin_script.specs.Reading.{and_then, json}
use Rattle.calvin_script.specs.Spelling.{only_if, below}
use Rattle.calvin_script.specs.declared.contents.Request.{Request}
use Rattle.calvin_serve_lines.specs.Asking.{Asked, IsRefusal, without, group_of, spelled, asked_in, if_taken, asked_or, request_line}
use Rattle.calvin_serve_lines.specs.declared.limits.TheConstants.{MOST_LINE_BYTES}
use Rattle.calvin_serve_lines.specs.Gathered.{waiting_for, gathered, has_room}

module _ (Args : Type 0) where
  none_waits : (groups : List ℕ) (i : ℕ) → get_or (map (λ group. waiting_for {Args = Args} group []) groups) i [] ≡ []
  none_waits [] i = refl
  none_waits (g ∷ groups) zero = refl
  none_waits (g ∷ groups) (suc i) = none_waits groups i

  fits : (n size : ℕ) (waiting : List (Request Args)) (group : ℕ) (all : List (List (Request Args))) → length all ≡ size → group < size → get_or all group [] ≡ [] → has_room all group ≡ true
  fits n size waiting group all long below none =
      let few : length (get_or all group []) ≡ 0 = ap length none in
      let here : group < length all = omega (arith, long, below) in
      grind (arith, nat_tests)

  -- where none waits there is room
  pub room_for : (partitions group : ℕ) → group < partitions → has_room (gathered {Args = Args} partitions []) group ≡ true
  room_for partitions group below =
      fits 0 partitions [] group (gathered partitions []) (length-map-range_with_len (λ g. waiting_for {Args = Args} g []) 0 partitions) below (none_waits (range_with_len 0 partitions) group)

-- a line that is refused was read as its fault
pub refused_as : {Y : Type 0} (fault : Fault) (read : Result Y Fault) → (fault ≡ OutOfMemory → ⊥) → IsRefusal fault read → read ≡ Err fault
refused_as OutOfMemory read not is = absurd (not refl)
refused_as fault read not is = is

-- ---- the group of a request is one of the partitions

number_below : (partitions : ℕ) (number : Option ℕ) (g : ℕ) → option_and_then (λ n. only_if (nat_lt n partitions) (Some n)) number ≡ Some g → g < partitions
number_below partitions None g is = absurd (cc is)
number_below partitions (Some n) g is = grind (arith, nat_tests)

group_below : (partitions client : ℕ) (given : Option Data) (g : ℕ) → 0 < partitions → group_of partitions client given ≡ Some g → g < partitions
group_below partitions client None g some is = grind (arith, nat_tests)
group_below partitions client (Some d) g some is = number_below partitions (option_and_then as_u64 (as_number d)) g is

module _ {Args : Type 0} (grammar : Grammar Args) (partitions : ℕ) (some : 0 < partitions) where
  with_group : (r : Request Args) (o : Option ℕ) → ((g : ℕ) → o ≡ Some g → g < partitions) → (a : Asked Args) → option_and_then (λ group. Some (record { group = group; request = r })) o ≡ Some a → a.group < partitions
  with_group r None h a is = absurd (cc is)
  with_group r (Some g) h a is = subst (λ n. n < partitions) (ap (λ (o : Option (Asked Args)). group_or o) is) (h g refl)
    where
      group_or : Option (Asked Args) → ℕ
      group_or None = 0
      group_or (Some b) = b.group

  with_request : (client_group : Request Args → Option ℕ) → ((r : Request Args) (g : ℕ) → client_group r ≡ Some g → g < partitions) → (o : Option (Request Args)) (a : Asked Args)
      → option_and_then (λ r. option_and_then (λ group. Some (record { group = group; request = r })) (client_group r)) o ≡ Some a → a.group < partitions
  with_request client_group h None a is = absurd (cc is)
  with_request client_group h (Some r) a is = with_group r (client_group r) (h r) a is

  asked_below : (d : Data) (a : Asked Args) → asked_in grammar partitions d ≡ Some a → a.group < partitions
  unfolding asked_in
  asked_below d a is =
      with_request (λ r. group_of partitions r.txn.id.client (get (codes "group") d)) (λ r g here. group_below partitions r.txn.id.client (get (codes "group") d) g some here) (spelled grammar (without (codes "group") d)) a is

  abbrev asked_or_else : Asked Args → Result (Asked Args) Fault → Asked Args
  asked_or_else b (Ok x) = x
  asked_or_else b (Err fault) = b

  same_taken : (key attempt : Bool) (b a : Asked Args) → (if key then (if attempt then Ok b else Err TooManyAttempts) else Err EmptySets) ≡ Ok a → b ≡ a
  same_taken true true b a is = ap (asked_or_else b) is
  same_taken true false b a is = absurd (cc is)
  same_taken false attempt b a is = absurd (cc is)

  taken_below : (o : Option (Asked Args)) → ((a : Asked Args) → o ≡ Some a → a.group < partitions) → (a : Asked Args) → and_then (ok_or o BadScript) if_taken ≡ Ok a → a.group < partitions
  taken_below None h a is = absurd (cc is)
  taken_below (Some b) h a is = subst (λ (x : Asked Args). x.group < partitions) (same_taken (has_key b.request.txn.sets) (is_attempt b.request.txn.attempt) b a is) (h b refl)

  json_below : (r : Result Data Fault) (a : Asked Args) → and_then r (asked_or grammar partitions) ≡ Ok a → a.group < partitions
  json_below (Err fault) a is = absurd (cc is)
  json_below (Ok d) a is = taken_below (asked_in grammar partitions d) (asked_below d) a is

  short_below : (short : Bool) (r : Result Data Fault) (a : Asked Args) → (if short then and_then r (asked_or grammar partitions) else Err BadJson) ≡ Ok a → a.group < partitions
  short_below true r a is = json_below r a is
  short_below false r a is = absurd (cc is)

  pub line_below : (line : List ℕ) (a : Asked Args) → request_line grammar partitions line ≡ Ok a → a.group < partitions
  unfolding request_line
  line_below line a is = short_below (nat_le (length line) MOST_LINE_BYTES) (json line) a is
