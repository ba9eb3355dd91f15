-- The part of a request's writes that is stored here has each key once.
use Rattle.std.proofs.Common.{◌≡◌, ℕ, zero, suc, ◌+◌, Bool, true, false, cond, ◌||◌, List, [], ◌∷◌, ◌++◌, length, take, Some, slice_get, refl, sym, ap, ◌∙◌, arith}
use Rattle.std.proofs.lemmas.Bool.{false≢true, eqb-true}
use Rattle.std.proofs.lemmas.Option.{none-some, same_Some}
use Rattle.std.proofs.lemmas.List.{append-nil}
use Rattle.std.proofs.lemmas.List.Elements.{filter-append}
use Rattle.std.specs.List.{filter}
use Rattle.std.specs.Ordering.{is_eq}
use Rattle.std.specs.declared.cmp.Ordering.TheVariants.{Less, Equal, Greater}
use Rattle.calvin_types.specs.declared.key.Key.{Key}
use Rattle.calvin_types.specs.Exact.{second}
use Rattle.calvin_types.specs.Keys.{key_cmp, same_key, has, rises, by_order, insert_key, insert_all, are_distinct}
use Rattle.calvin_types.proofs.Fews.{take_at}
use Rattle.calvin_types.proofs.KeySets.{has-insert_key}
use Rattle.calvin_types.proofs.Risings.{rises-insert_key, free_key, length-grows_by, insert_all-grows_by}
use Rattle.calvin_app.specs.Writing.{keys_of}

-- a key that is there already makes no more
present_same : (q : Key) (ks : List Key) → rises ks ≡ true → has ks q ≡ true → length (insert_key q ks) ≡ length ks
present_same q [] r h = absurd (false≢true h)
present_same q (k ∷ ks) r h = elim (key_cmp q k) as (λ o. key_cmp q k ≡ o → (is_eq o || has ks q) ≡ true → length (by_order o (q ∷ k ∷ ks) (k ∷ ks) (k ∷ insert_key q ks)) ≡ length (k ∷ ks)) [
  | Less ↦ λ is there. absurd (false≢true (sym (free_key q (k ∷ ks) 0 k refl r refl refl is).missing ∙ h))
  | Equal ↦ λ is there. refl
  | Greater ↦ λ is there. omega (arith, present_same q ks (second _ _ r) there)
] refl h

neither : (a b : Bool) → (a || b) ≡ false → (a ≡ false) × (b ≡ false)
neither true b h = absurd (false≢true (sym h))
neither false b h = (refl, h)

both_not : (a b : Bool) → a ≡ false → b ≡ false → (a || b) ≡ false
both_not a b h k = ap (λ c. c || b) h ∙ k

-- where each of some keys is a new one, the key at a place is neither among those before it nor was it there
once_at : (qs ks : List Key) → rises ks ≡ true → length (insert_all qs ks) ≡ length ks + length qs → (i : ℕ) (q : Key) → slice_get qs i ≡ Some q → (has ks q ≡ false) × (has (take i qs) q ≡ false)
once_at [] ks r all i q at = absurd (none-some q at)
once_at (p ∷ qs) ks r all zero q at = (ap (has ks) (sym (same_Some p q at)) ∙ go (has ks p) refl, refl)
  where
    go : (b : Bool) → has ks p ≡ b → has ks p ≡ false
    go true there = absurd (omega (arith, all, present_same p ks r there, insert_all-grows_by qs (insert_key p ks)))
    go false new = new
once_at (p ∷ qs) ks r all (suc i) q at =
    let more : length (insert_all qs (insert_key p ks)) ≡ length (insert_key p ks) + length qs = omega (arith, all, length-grows_by p ks, insert_all-grows_by qs (insert_key p ks)) in
    let later = once_at qs (insert_key p ks) (rises-insert_key p ks r) more i q at in
    let first = neither (same_key q p) (has ks q) (sym (has-insert_key q p ks) ∙ later.0) in
    (first.1, both_not (same_key q p) (has (take i qs) q) first.0 later.1)

not_before : (ks : List Key) → are_distinct ks ≡ true → (i : ℕ) (q : Key) → slice_get ks i ≡ Some q → has (take i ks) q ≡ false
not_before ks once i q at =
    let all : length (insert_all ks []) ≡ length ks = eqb-true (length (insert_all ks [])) (length ks) once in
    (once_at ks [] refl (omega (arith, all)) i q at).1

module _ {Row : Type 0} where
  key_at : (ws : List (Key × Row)) (i : ℕ) (w : Key × Row) → slice_get ws i ≡ Some w → slice_get (keys_of ws) i ≡ Some w.0
  key_at [] i w at = absurd (none-some w at)
  key_at (v ∷ ws) zero w at = ap (λ x. Some x.0) (same_Some v w at)
  key_at (v ∷ ws) (suc i) w at = key_at ws i w at

  take_keys : (ws : List (Key × Row)) (i : ℕ) → keys_of (take i ws) ≡ take i (keys_of ws)
  take_keys ws zero = refl
  take_keys [] (suc i) = refl
  take_keys (w ∷ ws) (suc i) = ap (λ ks. w.0 ∷ ks) (take_keys ws i)

  module _ (here : Key × Row → Bool) where
    -- a part has no other keys
    none_in_part : (q : Key) (ws : List (Key × Row)) → has (keys_of ws) q ≡ false → has (keys_of (filter here ws)) q ≡ false
    none_in_part q [] h = refl
    none_in_part q (w ∷ ws) h =
        let parts = neither (same_key q w.0) (has (keys_of ws) q) h in
        let rest = none_in_part q ws parts.1 in
        elim (here w) as (λ b. has (keys_of (cond b (w ∷ filter here ws) (filter here ws))) q ≡ false) [
          | true ↦ both_not (same_key q w.0) (has (keys_of (filter here ws)) q) parts.0 rest
          | false ↦ rest
        ]

    -- the key of a write isn't among those of the part before it
    pub new_in_part : (ws : List (Key × Row)) → are_distinct (keys_of ws) ≡ true → (i : ℕ) (w : Key × Row) → slice_get ws i ≡ Some w → has (keys_of (filter here (take i ws))) w.0 ≡ false
    new_in_part ws once i w at = none_in_part w.0 (take i ws) (ap (λ ks. has ks w.0) (take_keys ws i) ∙ not_before (keys_of ws) once i w.0 (key_at ws i w at))

    -- the part of one more write: it is among them where it passes
    pub part_kept : (ws : List (Key × Row)) (i : ℕ) (w : Key × Row) → slice_get ws i ≡ Some w → here w ≡ true → filter here (take (i + 1) ws) ≡ filter here (take i ws) ++ w ∷ []
    part_kept ws i w at passes = ap (filter here) (take_at ws i w at) ∙ filter-append here (take i ws) (w ∷ []) ∙ ap (λ b. filter here (take i ws) ++ cond b (w ∷ []) []) passes

    pub part_passed : (ws : List (Key × Row)) (i : ℕ) (w : Key × Row) → slice_get ws i ≡ Some w → here w ≡ false → filter here (take (i + 1) ws) ≡ filter here (take i ws)
    part_passed ws i w at fails =
        ap (filter here) (take_at ws i w at) ∙ filter-append here (take i ws) (w ∷ []) ∙ ap (λ b. filter here (take i ws) ++ cond b (w ∷ []) []) fails ∙ append-nil (filter here (take i ws))
