-- No key is written twice.
use Rattle.std.proofs.Common.{◌≡◌, Bool, true, false, cond, ◌||◌, List, [], ◌∷◌, ◌++◌, refl, ◌∙◌, ap}
use Rattle.std.specs.Prelude.{if◌then◌else◌}
use Rattle.std.specs.Cmp.{Equal-is}
use Rattle.calvin_types.specs.declared.key.Key.{Key}
use Rattle.calvin_types.specs.Keys.{key_cmp, same_key, has, are_distinct}
use Rattle.calvin_types.specs.KeyOrder.{key_cmp_exact}
use Rattle.std.proofs.lemmas.List.{map-append}
use Rattle.calvin_types.proofs.KeySets.{distinct-push}
use Rattle.calvin_app.specs.Writing.{keys_of, with_write}

module _ {Row : Type 0} (k : Key) (r : Row) where
  -- one more write leaves the keys as they are, or adds its key at the end
  keys-with_write : (ws : List (Key × Row)) → keys_of (with_write k r ws) ≡ cond (has (keys_of ws) k) (keys_of ws) (keys_of ws ++ k ∷ [])
  keys-with_write [] = refl
  keys-with_write (w ∷ ws) = elim (same_key k w.0) as (λ b. same_key k w.0 ≡ b → keys_of (if b then (k, r) ∷ ws else w ∷ with_write k r ws) ≡ cond (b || has (keys_of ws) k) (keys_of (w ∷ ws)) (keys_of (w ∷ ws) ++ k ∷ [])) [
    | true ↦ λ is. ap (λ q. q ∷ keys_of ws) (key_cmp_exact k w.0 ((Equal-is (key_cmp k w.0)).0 is))
    | false ↦ λ is. ap (λ ks. w.0 ∷ ks) (keys-with_write ws) ∙ after w.0 (has (keys_of ws) k) (keys_of ws) (keys_of ws ++ k ∷ [])
  ] refl
    where
      after : (q : Key) (b : Bool) (ks ls : List Key) → q ∷ cond b ks ls ≡ cond b (q ∷ ks) (q ∷ ls)
      after q true ks ls = refl
      after q false ks ls = refl

  -- keys that are written once each still are with one more write
  pub distinct-with_write : (ws : List (Key × Row)) → are_distinct (keys_of ws) ≡ true → are_distinct (keys_of (with_write k r ws)) ≡ true
  distinct-with_write ws once = ap are_distinct (keys-with_write ws) ∙ go (has (keys_of ws) k) refl
    where
      go : (b : Bool) → has (keys_of ws) k ≡ b → are_distinct (cond b (keys_of ws) (keys_of ws ++ k ∷ [])) ≡ true
      go true is = once
      go false is = distinct-push (keys_of ws) k once is

  -- and with one more, whose key isn't written yet, at the end
  pub distinct_push : (ws : List (Key × Row)) → are_distinct (keys_of ws) ≡ true → has (keys_of ws) k ≡ false → are_distinct (keys_of (ws ++ (k, r) ∷ [])) ≡ true
  distinct_push ws once missing = ap are_distinct (map-append (λ (w : Key × Row). w.0) ws ((k, r) ∷ [])) ∙ distinct-push (keys_of ws) k once missing
