-- How at most sixteen keys stand in sixteen places of tables and of numbers: zero after the last one.
--     paired tables ids      tables and numbers in pairs
--     keys_of tables ids size      the keys that stand in the first places
--     tables_of keys, ids_of keys      their tables and their numbers, and zero up to sixteen
--     IsKeyList tables ids size      the places are those of at most sixteen keys
use Rattle.std.specs.Prelude.{◌≡◌, ℕ, ◌-◌, ◌≤◌, List, [], ◌∷◌, ◌++◌, length, map, replicate, take}
use Rattle.calvin_types.specs.declared.key.Key.{Key}
use Rattle.calvin_types.specs.declared.limits.TheConstants.{MOST_KEYS}

abbrev pub paired : List ℕ → List ℕ → List Key
paired [] ids = []
paired (t ∷ ts) [] = []
paired (t ∷ ts) (i ∷ is) = record { table = t; id = i } ∷ paired ts is

abbrev pub keys_of : List ℕ → List ℕ → ℕ → List Key
keys_of tables ids size = take size (paired tables ids)

abbrev pub tables_of : List Key → List ℕ
tables_of ks = map (λ k. k.table) ks ++ replicate (MOST_KEYS - length ks) 0

abbrev pub ids_of : List Key → List ℕ
ids_of ks = map (λ k. k.id) ks ++ replicate (MOST_KEYS - length ks) 0

pub record IsKeyList (tables ids : List ℕ) (size : ℕ) : Type 0 where
  pub at_most : size ≤ MOST_KEYS
  pub size_is : length (keys_of tables ids size) ≡ size
  pub tables_are : tables_of (keys_of tables ids size) ≡ tables
  pub ids_are : ids_of (keys_of tables ids size) ≡ ids
