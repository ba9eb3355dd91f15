-- Items of JSON that spell requests and batches.
use Rattle.std.proofs.Common.{◌≡◌, ◌≤◌, ◌<◌, ◌+◌, ◌^◌, ℕ, suc, max, List, [], ◌∷◌, ◌++◌, Bool, true, length, map, nat_lt, nat_le, Option, Some, None, Ok, option_map, option_and_then, IsUtf8, refl, sym, ap, ap₂, ◌∙◌, arith}
use Rattle.std.specs.Prelude.{ok_or}
use Rattle.std.proofs.lemmas.Bool.{and_parts, lt-ltb, le-leb}
use Rattle.serde_json.specs.Data.{Data, array, Items, no_items, item, depth, items_depth}
use Rattle.serde_json.specs.Read.{read, max_depth}
use Rattle.serde_json.specs.View.{view, items_view}
use Rattle.serde_json.specs.declared.value.Value.{Value}
use Rattle.calvin_types.specs.declared.fault.Fault.TheVariants.{BadScript}
use Rattle.calvin_types.specs.declared.limits.TheConstants.{MOST_REQUESTS}
use Rattle.calvin_types.specs.Submitting.{is_taken}
use Rattle.calvin_script.specs.declared.contents.Request.{Request}
use Rattle.calvin_script.specs.Spelling.{◌>>=◌, each, only_if}
use Rattle.calvin_script.specs.Grammar.{Grammar}
use Rattle.calvin_script.specs.Requests.{request}
use Rattle.calvin_script.specs.Scripts.{Listed, batch, are_taken, groups_fit}
use Rattle.calvin_script.specs.Reading.{json, and_then}
use Rattle.calvin_script.proofs.Json.{json_read}
use Rattle.calvin_serve_lines.specs.declared.limits.TheConstants.{MOST_LEVELS}
use Rattle.calvin_serve_lines.specs.Epochs.{fitting, epoch_of, epoch_in}
use Rattle.calvin_serve_lines.specs.BatchJson.{batch_data, IsSpelled}

-- ---- one item more

abbrev with_last : {A : Type 0} → Option (List A) → Option A → Option (List A)
with_last xs x = option_and_then (λ front. option_map (λ last. front ++ last ∷ []) x) xs

step : {A : Type 0} (first : Option A) (some more : Option (List A)) (last : Option A) → some ≡ with_last more last
    → (do
      x ← first
      xs ← some
      Some (x ∷ xs)) ≡ with_last (do
        x ← first
        xs ← more
        Some (x ∷ xs)) last
step None some more last is = refl
step (Some x) some None last is = rw is refl
step (Some x) some (Some xs) None is = rw is refl
step (Some x) some (Some xs) (Some y) is = rw is refl

each_more : {A : Type 0} (f : Data → Option A) (vs : List Value) (v : Value) → each f (items_view (vs ++ v ∷ [])) ≡ with_last (each f (items_view vs)) (f (view v))
each_more f [] v = one (f (view v))
  where
    one : {A : Type 0} (o : Option A) → (do
      x ← o
      xs ← Some []
      Some (x ∷ xs)) ≡ option_map (λ x. x ∷ []) o
    one None = refl
    one (Some x) = refl
each_more f (u ∷ us) v = step (f (view u)) _ (each f (items_view us)) (f (view v)) (each_more f us v)

pub each_with : {A : Type 0} (f : Data → Option A) (vs : List Value) (v : Value) (xs : List A) (x : A) → each f (items_view vs) ≡ Some xs → f (view v) ≡ Some x
    → each f (items_view (vs ++ v ∷ [])) ≡ Some (xs ++ x ∷ [])
each_with f vs v xs x many one = each_more f vs v ∙ ap₂ with_last many one

pub depth_with : (vs : List Value) (v : Value) (n : ℕ) → items_depth (items_view vs) ≤ n → depth (view v) ≤ n → items_depth (items_view (vs ++ v ∷ [])) ≤ n
depth_with [] v n many one = omega (arith, one)
depth_with (u ∷ us) v n many one =
    let rest = depth_with us v n (omega (arith, many)) one in
    omega (arith, many, rest)

-- ---- a batch

pub batch_depth : (group : ℕ) (ds : Items) → items_depth ds ≤ MOST_LEVELS → depth (batch_data group ds) ≤ MOST_LEVELS + 2
batch_depth group ds shallow = omega (arith, shallow)

module _ {Args : Type 0} (grammar : Grammar Args) where
  pub batch_spelled : (group : ℕ) (ds : Items) (rs : List (Request Args)) → group < 2 ^ 8 → each (request grammar) ds ≡ Some rs → length rs ≤ MOST_REQUESTS → are_taken rs ≡ true
      → batch grammar (batch_data group ds) ≡ Some (record { group = group; requests = rs })
  unfolding batch
  batch_spelled group ds rs narrow spelled few taken =
      let small : nat_lt group 256 ≡ true = lt-ltb group 256 (omega (arith, narrow)) in
      let fits : nat_le (length rs) 256 ≡ true = le-leb (length rs) 256 few in
      rw (small, spelled, fits, taken) refl

  -- the line is read as the batches that its JSON spells
  pub line_read : (line : List ℕ) (ds : Items) (batches : List (Listed Args)) (partitions : ℕ) → IsUtf8 line → (depth (array ds) ≤ max_depth → read line ≡ Some (array ds))
      → IsSpelled grammar ds batches → groups_fit partitions batches ≡ true → epoch_in grammar partitions line ≡ Ok batches
  unfolding epoch_in
  line_read line ds batches partitions utf8 reads spelled fit =
      let is = json_read line (array ds) utf8 (reads (omega (arith, spelled.1))) in
      ap (λ r. and_then r (λ d. ok_or (epoch_of grammar partitions d) BadScript)) is
      ∙ ap (λ o. ok_or (option_and_then (fitting partitions) o) BadScript) spelled.0
      ∙ rw fit refl

pub taken_with : {Args : Type 0} (rs : List (Request Args)) (r : Request Args) → are_taken rs ≡ true → is_taken r.txn ≡ true → are_taken (rs ++ r ∷ []) ≡ true
taken_with [] r many one = rw one refl
taken_with (q ∷ qs) r many one = let p = and_parts (is_taken q.txn) (are_taken qs) many in rw (p.0) (taken_with qs r p.1 one)
