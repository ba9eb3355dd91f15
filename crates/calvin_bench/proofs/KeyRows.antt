-- Rows at a key, after writes and in a partition.
use Rattle.std.proofs.Common.{◌≡◌, ℕ, Bool, true, false, cond, List, [], ◌∷◌, refl, sym, ap, ◌∙◌, map, ◌==◌, ◌||◌, Some, None}
use Rattle.std.specs.Ordering.{eq_by_cmp}
use Rattle.std.specs.Cmp.{Equal-is}
use Rattle.std.specs.FinMap.{get, insert, get-insert, get-retain_keys, same_map}
use Rattle.calvin_types.specs.declared.key.Key.{Key}
use Rattle.calvin_types.specs.Keys.{key_cmp, has, partition_of}
use Rattle.calvin_types.specs.KeyOrder.{key_cmp_exact, key_cmp_total}
use Rattle.calvin_app.specs.Rows.{Rows, part, overwritten}

pub same_key : (a b : Key) → eq_by_cmp key_cmp a b ≡ true → a ≡ b
same_key a b e = key_cmp_exact a b ((Equal-is (key_cmp a b)).0 e)

pub get-part : {Row : Type 0} (count p : ℕ) (rows : Rows Row) (k : Key) → get (part count p rows) k ≡ cond (partition_of count k == p) (get rows k) None
get-part count p rows k = get-retain_keys rows _ k (λ x e. ap (λ y. partition_of count y == p) (sym (key_cmp_exact k x e)))

pub same_rows : {Row : Type 0} (a b : Rows Row) → ((k : Key) → get a k ≡ get b k) → a ≡ b
same_rows a b = same_map key_cmp_total key_cmp_exact a b

pub get-put : {Row : Type 0} (rows : Rows Row) (w : Key × Row) (k : Key) → get (insert rows w.0 w.1) k ≡ cond (eq_by_cmp key_cmp k w.0) (Some w.1) (get rows k)
get-put rows w k = get-insert key_cmp_total rows w.0 w.1 k

pub put_other : {Row : Type 0} (rows : Rows Row) (w : Key × Row) (k : Key) → eq_by_cmp key_cmp k w.0 ≡ false → get (insert rows w.0 w.1) k ≡ get rows k
put_other rows w k e = get-put rows w k ∙ ap (λ b. cond b (Some w.1) (get rows k)) e

pub put_alike : {Row : Type 0} (a b : Rows Row) (w : Key × Row) (k : Key) → get a k ≡ get b k → get (insert a w.0 w.1) k ≡ get (insert b w.0 w.1) k
put_alike a b w k e = get-put a w k ∙ ap (cond (eq_by_cmp key_cmp k w.0) (Some w.1)) e ∙ sym (get-put b w k)

pub has_cons : (x : Key) (keys : List Key) (k : Key) → has (x ∷ keys) k ≡ false → (eq_by_cmp key_cmp k x ≡ false) × (has keys k ≡ false)
has_cons x keys k e = parts (eq_by_cmp key_cmp k x) (has keys k) e
  where
    parts : (a b : Bool) → (a || b) ≡ false → (a ≡ false) × (b ≡ false)
    parts true b e = absurd (cc)
    parts false b e = (refl, e)

-- a key at which nothing is written keeps its row
pub overwritten_other : {Row : Type 0} (ws : List (Key × Row)) (rows : Rows Row) (k : Key) → has (map (λ w. w.0) ws) k ≡ false → get (overwritten rows ws) k ≡ get rows k
overwritten_other [] rows k h = refl
overwritten_other (w ∷ ws) rows k h =
    let both = has_cons w.0 (map (λ w. w.0) ws) k h in
    overwritten_other ws (insert rows w.0 w.1) k both.1 ∙ put_other rows w k both.0
