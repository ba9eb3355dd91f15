-- The rows of a request's keys: one key more, what each key has, and those that are all stored here.
use Rattle.std.proofs.Common.{◌≡◌, ℕ, ◌+◌, Bool, true, false, cond, ◌||◌, List, [], ◌∷◌, drop, Option, Some, None, refl, sym, ap, ◌∙◌}
use Rattle.std.proofs.lemmas.Bool.{false≢true, false_from_ne_true, and_parts}
use Rattle.std.specs.Prelude.{unwrap_or}
use Rattle.std.specs.Cmp.{Equal-is}
use Rattle.std.specs.List.{list_all, slice_get}
use Rattle.std.specs.FinMap.{get, insert, empty, get-insert, get-empty, get-retain_keys, same_map}
use Rattle.std.specs.Ordering.{eq_by_cmp}
use Rattle.calvin_types.specs.declared.key.Key.{Key}
use Rattle.calvin_types.specs.KeyOrder.{key_cmp_exact, key_cmp_total}
use Rattle.calvin_types.specs.Keys.{key_cmp, has, partition_of}
use Rattle.calvin_types.specs.Participants.{Site, is_local, local_keys}
use Rattle.calvin_types.proofs.Fews.{drop_at}
use Rattle.calvin_app.specs.Rows.{Rows, view, part}
use Rattle.calvin_app.proofs.Views.{get-view}
use Rattle.calvin_lock.proofs.LocalLocks.{has_local}
use Rattle.calvin_sched.specs.Scheduling.{Turn, gathered, put_some, piece}

module _ {Row : Type 0} (pieces : Key → Rows Row) (ks : List Key) (i : ℕ) (k : Key) (here : slice_get ks i ≡ Some k) where
  pub more_row : (row : Row) → get (pieces k) k ≡ Some row → insert (gathered pieces (drop (i + 1) ks)) k row ≡ gathered pieces (drop i ks)
  more_row row is = ap (put_some (gathered pieces (drop (i + 1) ks)) k) (sym is) ∙ ap (gathered pieces) (sym (drop_at ks i k here))

  pub no_row : get (pieces k) k ≡ None → gathered pieces (drop (i + 1) ks) ≡ gathered pieces (drop i ks)
  no_row is = ap (put_some (gathered pieces (drop (i + 1) ks)) k) (sym is) ∙ ap (gathered pieces) (sym (drop_at ks i k here))

same_key : (a b : Key) → eq_by_cmp key_cmp a b ≡ true → a ≡ b
same_key a b e = key_cmp_exact a b ((Equal-is (key_cmp a b)).0 e)

-- the gathered view has at each key what the key's piece has
pub get-gathered : {Row : Type 0} (pieces : Key → Rows Row) (keys : List Key) (k : Key) → get (gathered pieces keys) k ≡ cond (has keys k) (get (pieces k) k) None
get-gathered pieces [] k = get-empty key_cmp k
get-gathered {Row} pieces (x ∷ keys) k = go (eq_by_cmp key_cmp k x) refl (get (pieces x) x) refl (get-gathered pieces keys k)
  where
    go : (b : Bool) → eq_by_cmp key_cmp k x ≡ b → (o : Option Row) → get (pieces x) x ≡ o → get (gathered pieces keys) k ≡ cond (has keys k) (get (pieces k) k) None
        → get (put_some (gathered pieces keys) x o) k ≡ cond (b || has keys k) (get (pieces k) k) None
    go true e None h rest =
        let none : get (pieces k) k ≡ None = ap (λ y. get (pieces y) y) (same_key k x e) ∙ h in
        rest ∙ same_cases (has keys k) _ none ∙ sym none
      where
        same_cases : (b : Bool) (o : Option Row) → o ≡ None → cond b o None ≡ None
        same_cases true o h = h
        same_cases false o h = refl
    go true e (Some v) h rest = get-insert key_cmp_total (gathered pieces keys) x v k ∙ ap (λ b. cond b (Some v) (get (gathered pieces keys) k)) e ∙ sym h ∙ ap (λ y. get (pieces y) y) (sym (same_key k x e))
    go false e None h rest = rest
    go false e (Some v) h rest = get-insert key_cmp_total (gathered pieces keys) x v k ∙ ap (λ b. cond b (Some v) (get (gathered pieces keys) k)) e ∙ rest

pub local_has : (site : Site) (keys : List Key) (k : Key) → has (local_keys site keys) k ≡ true → (is_local site k ≡ true) × (has keys k ≡ true)
local_has site [] k h = absurd (false≢true h)
local_has site (x ∷ keys) k h = go (is_local site x) refl (eq_by_cmp key_cmp k x) refl h (local_has site keys k)
  where
    go : (b : Bool) → is_local site x ≡ b → (c : Bool) → eq_by_cmp key_cmp k x ≡ c → has (cond b (x ∷ local_keys site keys) (local_keys site keys)) k ≡ true
        → (has (local_keys site keys) k ≡ true → (is_local site k ≡ true) × (has keys k ≡ true)) → (is_local site k ≡ true) × ((eq_by_cmp key_cmp k x || has keys k) ≡ true)
    go true l true e h rest = (ap (is_local site) (same_key k x e) ∙ l, ap (λ b. b || has keys k) e)
    go true l false e h rest = let both = rest (ap (λ b. b || has (local_keys site keys) k) (sym e) ∙ h) in (both.0, ap (λ b. b || has keys k) e ∙ both.1)
    go false l true e h rest = ((rest h).0, ap (λ b. b || has keys k) e)
    go false l false e h rest = ((rest h).0, ap (λ b. b || has keys k) e ∙ (rest h).1)

module _ {Row : Type 0} (here : Site) where
  -- of the rows that are stored here, what a key has
  pub get-part : (rows : Rows Row) (k : Key) → get (part here.partitions here.partition rows) k ≡ cond (is_local here k) (get rows k) None
  get-part rows k = get-retain_keys rows (is_local here) k (λ x same. ap (is_local here) (sym (key_cmp_exact k x same)))

  -- those that are stored here, and of some keys: the rows of the keys that are stored here
  pub part_view : (rows : Rows Row) (keys : List Key) → view (part here.partitions here.partition rows) keys ≡ view rows (local_keys here keys)
  part_view rows keys = same_map key_cmp_total key_cmp_exact _ _ (λ k.
      get-view (part here.partitions here.partition rows) keys k ∙ ap (λ o. cond (has keys k) o None) (get-part rows k) ∙ go k (has keys k) refl (is_local here k) refl
      ∙ sym (get-view rows (local_keys here keys) k))
    where
      none : (k : Key) → ((is_local here k ≡ true) × (has keys k ≡ true) → ⊥) → None ≡ cond (has (local_keys here keys) k) (get rows k) None
      none k never = sym (ap (λ b. cond b (get rows k) None) (false_from_ne_true (has (local_keys here keys) k) (λ h. never (local_has here keys k h))))

      go : (k : Key) (b : Bool) → has keys k ≡ b → (d : Bool) → is_local here k ≡ d → cond b (cond d (get rows k) None) None ≡ cond (has (local_keys here keys) k) (get rows k) None
      go k true h true l = sym (ap (λ b. cond b (get rows k) None) (has_local here keys k l h))
      go k true h false l = none k (λ both. false≢true (sym l ∙ both.0))
      go k false h true l = none k (λ both. false≢true (sym h ∙ both.1))
      go k false h false l = none k (λ both. false≢true (sym h ∙ both.1))

  -- what a request read here are rows of keys that it reads
  pub own_rows : (rows : Rows Row) (reads : List Key) → gathered (λ _. view rows (local_keys here reads)) reads ≡ view rows (local_keys here reads)
  own_rows rows reads = same_map key_cmp_total key_cmp_exact _ _ (λ k. get-gathered (λ _. mine) reads k ∙ go k (has reads k) refl)
    where
      mine : Rows Row
      mine = view rows (local_keys here reads)

      go : (k : Key) (b : Bool) → has reads k ≡ b → cond b (get mine k) None ≡ get mine k
      go k true e = refl
      go k false e = sym (get-view rows (local_keys here reads) k ∙ none (has (local_keys here reads) k) refl)
        where
          none : (b : Bool) → has (local_keys here reads) k ≡ b → cond b (get rows k) None ≡ None
          none true h = absurd (false≢true (sym e ∙ (local_has here reads k h).1))
          none false h = refl

  -- where all keys are stored here, each piece is what was read here
  pub all_here : {Args : Type 0} (x : Turn Args Row) (ks : List Key) → list_all (is_local here) ks ≡ true → gathered (piece here x) ks ≡ gathered (λ _. x.served) ks
  all_here x [] h = refl
  all_here x (k ∷ ks) h =
      let both = and_parts (is_local here k) (list_all (is_local here) ks) h in
      ap (λ b. put_some (gathered (piece here x) ks) k (get (cond b x.served (unwrap_or (get x.came (partition_of here.partitions k)) empty)) k)) both.0
      ∙ ap (λ rows. put_some rows k (get x.served k)) (all_here x ks both.1)

-- no rows are rows of any keys
pub no_rows : {Row : Type 0} (ks : List Key) → gathered {Row = Row} (λ _. empty) ks ≡ empty
no_rows [] = refl
no_rows (k ∷ ks) = ap (put_some (gathered (λ _. empty) ks) k) (get-empty key_cmp k) ∙ no_rows ks
