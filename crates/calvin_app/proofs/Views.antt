-- A view of no key, and of one more key.
use Rattle.std.proofs.Common.{◌≡◌, ◌+◌, ◌≤◌, true, false, cond, ◌||◌, List, [], ◌∷◌, ◌++◌, Option, Some, None, length, refl, sym, ◌∙◌, ap, subst, arith}
use Rattle.std.specs.FinMap as map
use Rattle.std.specs.Cmp.{Equal-is}
use Rattle.std.proofs.Math.Bool.{or-true, or-false}
use Rattle.calvin_types.specs.declared.key.Key.{Key}
use Rattle.calvin_types.specs.Keys.{key_cmp, has, same_key}
use Rattle.calvin_types.specs.KeyOrder.{key_cmp_exact, key_cmp_total, has-alike, has-push}
use Rattle.calvin_app.specs.Entries.{shown}
use Rattle.calvin_app.specs.EntryLaws.{entries_kept}
use Rattle.calvin_app.specs.Rows.{Rows, view}

-- no entries show the empty map
pub shown_none : {Row : Type 0} → shown {Row = Row} [] ≡ map.empty
shown_none = map.empty_of_len _ (map.len-entries _ ∙ ap length (entries_kept [] tt))

pub get-view : {Row : Type 0} (rows : Rows Row) (ks : List Key) (q : Key) → map.get (view rows ks) q ≡ cond (has ks q) (map.get rows q) None
get-view rows ks q = map.get-retain_keys rows (has ks) q (λ x h. has-alike ks q x h)

module _ {Row : Type 0} (rows : Rows Row) (ks : List Key) (k : Key) where
  -- what the larger view has at a key
  get-more : (q : Key) → map.get (view rows (ks ++ k ∷ [])) q ≡ cond (has ks q || same_key q k) (map.get rows q) None
  get-more q = get-view rows (ks ++ k ∷ []) q ∙ ap (λ b. cond b (map.get rows q) None) (has-push ks k q)

  at_key : (q : Key) → same_key q k ≡ true → map.get rows q ≡ map.get rows k
  at_key q is = sym (map.get_tied key_cmp_total rows q k ((Equal-is (key_cmp q k)).0 is))

  pub view-push_row : (r : Row) → map.get rows k ≡ Some r → map.insert (view rows ks) k r ≡ view rows (ks ++ k ∷ [])
  view-push_row r there = map.same_map key_cmp_total key_cmp_exact _ _ (λ q.
      map.get-insert key_cmp_total (view rows ks) k r q ∙ ap (cond (same_key q k) (Some r)) (get-view rows ks q)
      ∙ elim (same_key q k) as (λ b. same_key q k ≡ b → cond b (Some r) (cond (has ks q) (map.get rows q) None) ≡ cond (has ks q || b) (map.get rows q) None) [
        | true ↦ λ is. sym (ap (λ b. cond b (map.get rows q) None) (or-true (has ks q)) ∙ at_key q is ∙ there)
        | false ↦ λ is. ap (λ b. cond b (map.get rows q) None) (sym (or-false (has ks q)))
      ] refl
      ∙ sym (get-more q))

  pub view-push_none : map.get rows k ≡ None → view rows ks ≡ view rows (ks ++ k ∷ [])
  view-push_none lacks = map.same_map key_cmp_total key_cmp_exact _ _ (λ q.
      get-view rows ks q
      ∙ elim (same_key q k) as (λ b. same_key q k ≡ b → cond (has ks q) (map.get rows q) None ≡ cond (has ks q || b) (map.get rows q) None) [
        | true ↦ λ is. ap (λ (o : Option Row). cond (has ks q) o None) (at_key q is ∙ lacks) ∙ elim (has ks q) as (λ b. ◌≡◌ {A = Option Row} (cond b None None) None) [ true ↦ refl | false ↦ refl ] ∙ sym (ap (λ b. cond b (map.get rows q) None) (or-true (has ks q)) ∙ at_key q is ∙ lacks)
        | false ↦ λ is. ap (λ b. cond b (map.get rows q) None) (sym (or-false (has ks q)))
      ] refl
      ∙ sym (get-more q))

pub view-none : {Row : Type 0} (rows : Rows Row) → map.empty ≡ view rows []
view-none rows = map.same_map key_cmp_total key_cmp_exact _ _ (λ q. map.get-empty key_cmp q ∙ sym (get-view rows [] q))

pub len-insert-le : {Row : Type 0} (m : Rows Row) (k : Key) (r : Row) → map.len (map.insert m k r) ≤ map.len m + 1
len-insert-le m k r = subst (λ n. n ≤ map.len m + 1) (sym (map.len-insert key_cmp_total m k r)) (elim (map.contains_key m k) as (λ b. cond b (map.len m) (map.len m + 1) ≤ map.len m + 1) [ true ↦ omega arith | false ↦ omega arith ])
