-- What a piece of JSON spells: members, numbers and lists.
--     only_if test x      x, where the test holds
--     has_only names d      d is an object that has no other members than these
--     below limit d      the whole number d, which is below the limit
--     between least most d      the whole number d, which is from the least to the most
--     list f d      what f gives of each item of the list d
--     then_one xs spelled      the list xs, and then what is spelled
--     optional default f member      what f gives of a member, and the default where the member is left out
--     where_given f member      what f gives of a member, and none where the member is left out
use Rattle.std.specs.Prelude.{ℕ, ◌&&◌, List, [], ◌∷◌, ◌++◌, Bool, true, false, nat_lt, nat_le, if◌then◌else◌, Option, Some, None, option_and_then, option_map, bytes_eq}
use Rattle.std.specs.List.{list_any}
use Rattle.serde_json.specs.Data.{Data, null, boolean, number, string, array, object, Items, no_items, item, Members, no_members, member}
use Rattle.serde_json.specs.Find.{as_number, as_u64, as_array}

infixl 10 ◌>>=◌
abbrev pub ◌>>=◌ : {A B : Type 0} → Option A → (A → Option B) → Option B
x >>= f = option_and_then f x

abbrev pub only_if : {A : Type 0} → Bool → Option A → Option A
only_if test x = if test then x else None

-- the names of the members are among these
abbrev pub are_named : List (List ℕ) → Members → Bool
are_named names no_members = true
are_named names (member name d ms) = list_any (bytes_eq name) names && are_named names ms

abbrev pub has_only : List (List ℕ) → Data → Bool
has_only names null = false
has_only names (boolean b) = false
has_only names (number n) = false
has_only names (string s) = false
has_only names (array ds) = false
has_only names (object ms) = are_named names ms

abbrev pub below : ℕ → Data → Option ℕ
below limit d = do
  n ← option_and_then as_u64 (as_number d)
  only_if (nat_lt n limit) (Some n)

abbrev pub between : ℕ → ℕ → Data → Option ℕ
between least most d = do
  n ← option_and_then as_u64 (as_number d)
  only_if (nat_le least n && nat_le n most) (Some n)

-- what each item of a list spells
abbrev pub each : {A : Type 0} → (Data → Option A) → Items → Option (List A)
each f no_items = Some []
each f (item d ds) = do
  x ← f d
  xs ← each f ds
  Some (x ∷ xs)

abbrev pub then_one : {A : Type 0} → List A → Option A → Option (List A)
then_one xs spelled = option_map (λ x. xs ++ x ∷ []) spelled

abbrev pub list : {A : Type 0} → (Data → Option A) → Data → Option (List A)
list f d = option_and_then (each f) (as_array d)

-- a member that may be left out
abbrev pub optional : {A : Type 0} → A → (Data → Option A) → Option Data → Option A
optional default f None = Some default
optional default f (Some d) = f d

abbrev pub where_given : {A : Type 0} → (Data → Option A) → Option Data → Option (Option A)
where_given f given = optional None (λ d. option_map Some (f d)) given
