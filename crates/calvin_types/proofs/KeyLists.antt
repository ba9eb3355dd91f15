-- Keys in places of tables and of numbers.
use Rattle.std.proofs.Common.{◌≡◌, ℕ, zero, suc, ◌+◌, ◌-◌, ◌<◌, ◌≤◌, List, [], ◌∷◌, ◌++◌, length, Some, take, refl, sym, ◌∙◌, ap, arith, length-append, slice_get, get_or}
use Rattle.std.specs.Prelude.{map, replicate}
use Rattle.std.proofs.lemmas.List.{length-map, length-set, set-append_left}
use Rattle.std.proofs.Math.ListN.{set}
use Rattle.calvin_types.specs.declared.key.Key.{Key}
use Rattle.calvin_types.specs.KeyList.{paired, keys_of, tables_of, ids_of, IsKeyList}

-- sixteen places that are those of some keys
paired-places : (ks : List Key) (n : ℕ) → take (length ks) (paired (map (λ k. k.table) ks ++ replicate n 0) (map (λ k. k.id) ks ++ replicate n 0)) ≡ ks
paired-places [] n = refl
paired-places (k ∷ ks) n = ap (λ xs. k ∷ xs) (paired-places ks n)

pub keys_of-places : (ks : List Key) → keys_of (tables_of ks) (ids_of ks) (length ks) ≡ ks
keys_of-places ks = paired-places ks _

module _ (tables ids : List ℕ) (size : ℕ) (ks : List Key) (t : tables ≡ tables_of ks) (i : ids ≡ ids_of ks) (n : size ≡ length ks) where
  pub keys_are : keys_of tables ids size ≡ ks
  keys_are = (λ j. keys_of (t j) (i j) (n j)) ∙ keys_of-places ks

  pub are_keys : length ks ≤ 16 → IsKeyList tables ids size
  are_keys h = record {
    at_most = omega arith;
    size_is = ap length keys_are ∙ sym n;
    tables_are = ap tables_of keys_are ∙ sym t;
    ids_are = ap ids_of keys_are ∙ sym i;
  }

-- one more in the first free place
set-end : (f : Key → ℕ) (ks : List Key) (n : ℕ) (k : Key) → set (map f ks ++ replicate (suc n) 0) (length ks) (f k) ≡ map f (ks ++ k ∷ []) ++ replicate n 0
set-end f [] n k = refl
set-end f (x ∷ xs) n k = ap (λ ys. f x ∷ ys) (set-end f xs n k)

pub set-free : (f : Key → ℕ) (ks : List Key) (k : Key) → length ks < 16 → set (map f ks ++ replicate (16 - length ks) 0) (length ks) (f k) ≡ map f (ks ++ k ∷ []) ++ replicate (16 - length (ks ++ k ∷ [])) 0
set-free f ks k h =
    let left : 16 - length ks ≡ suc (16 - length (ks ++ k ∷ [])) = omega (arith, length-append ks (k ∷ [])) in
    ap (λ (n : ℕ). set (map f ks ++ replicate n 0) (length ks) (f k)) left ∙ set-end f ks _ k

set-map : (f : Key → ℕ) (ks : List Key) (i : ℕ) (k : Key) → set (map f ks) i (f k) ≡ map f (set ks i k)
set-map f [] i k = refl
set-map f (x ∷ xs) zero k = refl
set-map f (x ∷ xs) (suc i) k = ap (λ ys. f x ∷ ys) (set-map f xs i k)

-- another in a place
pub set-place : (f : Key → ℕ) (ks : List Key) (i : ℕ) (k : Key) → i < length ks → set (map f ks ++ replicate (16 - length ks) 0) i (f k) ≡ map f (set ks i k) ++ replicate (16 - length (set ks i k)) 0
set-place f ks i k h =
    let inside : i < length (map f ks) = omega (arith, length-map ks f) in
    set-append_left (map f ks) (replicate (16 - length ks) 0) i (f k) inside
    ∙ ap (λ xs. xs ++ replicate (16 - length ks) 0) (set-map f ks i k)
    ∙ ap (λ (n : ℕ). map f (set ks i k) ++ replicate (16 - n) 0) (sym (length-set ks i k))

at-places : (ks : List Key) (n i : ℕ) → i < length ks → slice_get ks i ≡ Some (record { table = get_or (map (λ k. k.table) ks ++ replicate n 0) i 0; id = get_or (map (λ k. k.id) ks ++ replicate n 0) i 0 })
at-places [] n i h = absurd (omega (arith, h))
at-places (k ∷ ks) n zero h = refl
at-places (k ∷ ks) n (suc i) h = let less : i < length ks = omega (arith, h) in at-places ks n i less

module _ (tables ids : List ℕ) (size : ℕ) (is : IsKeyList tables ids size) where
  now : List Key
  now = keys_of tables ids size

  module _ (k : Key) where
    pub table_free : size < 16 → set tables size k.table ≡ tables_of (keys_of tables ids size ++ k ∷ [])
    table_free h =
        let room : length (keys_of tables ids size) < 16 = omega (arith, is.size_is) in
        (λ j. set (sym is.tables_are j) (sym is.size_is j) k.table) ∙ set-free (λ x. x.table) (keys_of tables ids size) k room

    pub id_free : size < 16 → set ids size k.id ≡ ids_of (keys_of tables ids size ++ k ∷ [])
    id_free h =
        let room : length (keys_of tables ids size) < 16 = omega (arith, is.size_is) in
        (λ j. set (sym is.ids_are j) (sym is.size_is j) k.id) ∙ set-free (λ x. x.id) (keys_of tables ids size) k room

    one_more : size + 1 ≡ length (keys_of tables ids size ++ k ∷ [])
    one_more = omega (arith, length-append (keys_of tables ids size) (k ∷ []), is.size_is)

    pub keys-push : size < 16 → keys_of (set tables size k.table) (set ids size k.id) (size + 1) ≡ keys_of tables ids size ++ k ∷ []
    keys-push h = keys_are _ _ _ _ (table_free h) (id_free h) one_more

    pub IsKeyList-push : size < 16 → IsKeyList (set tables size k.table) (set ids size k.id) (size + 1)
    IsKeyList-push h = are_keys _ _ _ _ (table_free h) (id_free h) one_more (omega (arith, one_more))

    module _ (i : ℕ) (h : i < size) where
      within : i < length (keys_of tables ids size)
      within = omega (arith, is.size_is)

      table_set : set tables i k.table ≡ tables_of (set (keys_of tables ids size) i k)
      table_set = ap (λ xs. set xs i k.table) (sym is.tables_are) ∙ set-place (λ x. x.table) (keys_of tables ids size) i k within

      id_set : set ids i k.id ≡ ids_of (set (keys_of tables ids size) i k)
      id_set = ap (λ xs. set xs i k.id) (sym is.ids_are) ∙ set-place (λ x. x.id) (keys_of tables ids size) i k within

      as_many : size ≡ length (set (keys_of tables ids size) i k)
      as_many = sym (length-set (keys_of tables ids size) i k ∙ is.size_is)

      pub keys-set : keys_of (set tables i k.table) (set ids i k.id) size ≡ set (keys_of tables ids size) i k
      keys-set = keys_are _ _ _ _ table_set id_set as_many

      pub IsKeyList-set : IsKeyList (set tables i k.table) (set ids i k.id) size
      IsKeyList-set = are_keys _ _ _ _ table_set id_set as_many (omega (arith, as_many, is.at_most))

  pub key_at : (i : ℕ) → i < size → slice_get (keys_of tables ids size) i ≡ Some (record { table = get_or tables i 0; id = get_or ids i 0 })
  key_at i h =
      let inside : i < length (keys_of tables ids size) = omega (arith, is.size_is) in
      at-places (keys_of tables ids size) (16 - length (keys_of tables ids size)) i inside
      ∙ (λ j. Some (record { table = get_or (is.tables_are j) i 0; id = get_or (is.ids_are j) i 0 }))
