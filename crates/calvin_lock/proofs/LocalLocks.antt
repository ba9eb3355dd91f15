-- The locks of one partition are ready exactly where its unreleased requests are, and they follow each step of these.
use Rattle.std.proofs.Common.{◌≡◌, ◌≢◌, Bool, true, false, cond, ◌||◌, inl, inr, ◌↔◌, List, [], ◌∷◌, ◌++◌, Option, Some, None, refl, sym, ap, subst, ◌∙◌}
use Rattle.std.proofs.lemmas.Bool.{false≢true, or_cases, or_left, or_right}
use Rattle.std.proofs.lemmas.Option.{none-some, same_Some}
use Rattle.std.proofs.lemmas.List.Folds.{list_any-append}
use Rattle.std.specs.List.{list_any}
use Rattle.std.specs.Option.{option_map}
use Rattle.std.specs.Ordering.{eq_by_cmp}
use Rattle.std.specs.Cmp.{Equal-is}
use Rattle.std.specs.FinMap.{get, empty, insert, remove, get-empty, get-insert, get-remove}
use Rattle.calvin_types.specs.declared.key.Key.{Key}
use Rattle.calvin_types.specs.declared.key_set.Sets.{Sets}
use Rattle.calvin_types.specs.declared.place.Place.{Place}
use Rattle.calvin_types.specs.Keys.{key_cmp, has}
use Rattle.calvin_types.specs.KeyOrder.{key_cmp_exact}
use Rattle.calvin_types.specs.Participants.{Site, is_local, local_keys}
use Rattle.calvin_types.specs.Places.{place_cmp}
use Rattle.calvin_lock.specs.Ready.{Requested, Conflict, IsReady}
use Rattle.calvin_lock.specs.Local.{local_sets, ConflictAt, IsReadyAt, IsLockedAs}
use Rattle.calvin_lock.specs.Locking.{IsNoKey}
use Rattle.calvin_types.proofs.PlaceOrder.{place_total}
use Rattle.calvin_lock.proofs.Conflicts.{of_either, in_first, in_second}

one_key : (a b : Key) → eq_by_cmp key_cmp a b ≡ true → a ≡ b
one_key a b h = key_cmp_exact a b ((Equal-is (key_cmp a b)).0 h)

-- a key of the site is one of these keys that the site stores
pub local_has : (site : Site) (keys : List Key) (k : Key) → has (local_keys site keys) k ≡ true → (is_local site k ≡ true) × (has keys k ≡ true)
local_has site [] k h = absurd (false≢true h)
local_has site (x ∷ keys) k h = go (is_local site x) refl h (local_has site keys k)
  where
    go : (b : Bool) → is_local site x ≡ b → has (cond b (x ∷ local_keys site keys) (local_keys site keys)) k ≡ true
        → (has (local_keys site keys) k ≡ true → (is_local site k ≡ true) × (has keys k ≡ true)) → (is_local site k ≡ true) × ((eq_by_cmp key_cmp k x || has keys k) ≡ true)
    go true l h rest = elim (or_cases (eq_by_cmp key_cmp k x) (has (local_keys site keys) k) h) [
      | inl same ↦ (ap (is_local site) (one_key k x same) ∙ l, or_left _ (has keys k) same)
      | inr there ↦ let both = rest there in (both.0, or_right (eq_by_cmp key_cmp k x) _ both.1)
    ]
    go false l h rest = let both = rest h in (both.0, or_right (eq_by_cmp key_cmp k x) _ both.1)

pub has_local : (site : Site) (keys : List Key) (k : Key) → is_local site k ≡ true → has keys k ≡ true → has (local_keys site keys) k ≡ true
has_local site [] k l h = h
has_local site (x ∷ keys) k l h = go (is_local site x) refl (has_local site keys k l)
  where
    go : (b : Bool) → is_local site x ≡ b → (has keys k ≡ true → has (local_keys site keys) k ≡ true) → has (cond b (x ∷ local_keys site keys) (local_keys site keys)) k ≡ true
    go true is rest = elim (or_cases (eq_by_cmp key_cmp k x) (has keys k) h) [
      | inl same ↦ or_left _ (has (local_keys site keys) k) same
      | inr there ↦ or_right (eq_by_cmp key_cmp k x) _ (rest there)
    ]
    go false other rest = elim (or_cases (eq_by_cmp key_cmp k x) (has keys k) h) [
      | inl same ↦ absurd (false≢true (sym other ∙ ap (is_local site) (sym (one_key k x same)) ∙ l))
      | inr there ↦ rest there
    ]

module _ (site : Site) where
  has_either : (rs ws : List Key) (k : Key) → has (local_keys site rs ++ local_keys site ws) k ≡ true → (is_local site k ≡ true) × (has (rs ++ ws) k ≡ true)
  has_either rs ws k h = elim (of_either (local_keys site rs) (local_keys site ws) k h) [
    | inl r ↦ let both = local_has site rs k r in (both.0, in_first rs ws k both.1)
    | inr w ↦ let both = local_has site ws k w in (both.0, in_second rs ws k both.1)
  ]

  either_has : (rs ws : List Key) (k : Key) → is_local site k ≡ true → has (rs ++ ws) k ≡ true → has (local_keys site rs ++ local_keys site ws) k ≡ true
  either_has rs ws k l h = elim (of_either rs ws k h) [
    | inl r ↦ in_first (local_keys site rs) (local_keys site ws) k (has_local site rs k l r)
    | inr w ↦ in_second (local_keys site rs) (local_keys site ws) k (has_local site ws k l w)
  ]

  -- the keys of the site conflict exactly where there is a conflict at the site
  pub local_conflict : (g h : Sets) → Conflict (local_sets site g) (local_sets site h) → ConflictAt site g h
  local_conflict g h (k, inl (w, e)) = let mine = local_has site g.writes k w in (k, mine.0, inl (mine.1, (has_either h.reads h.writes k e).1))
  local_conflict g h (k, inr (e, w)) = let mine = local_has site h.writes k w in (k, mine.0, inr ((has_either g.reads g.writes k e).1, mine.1))

  pub conflict_local : (g h : Sets) → ConflictAt site g h → Conflict (local_sets site g) (local_sets site h)
  conflict_local g h (k, l, inl (w, e)) = (k, inl (has_local site g.writes k l w, either_has h.reads h.writes k l e))
  conflict_local g h (k, l, inr (e, w)) = (k, inr (either_has g.reads g.writes k l e, has_local site h.writes k l w))

  -- where the site stores a key of two sets, its own sets aren't both empty
  pub some_local_key : (rs ws : List Key) → list_any (is_local site) (rs ++ ws) ≡ true → ¬ IsNoKey (local_keys site rs) (local_keys site ws)
  some_local_key rs ws h none = elim (or_cases (list_any (is_local site) rs) (list_any (is_local site) ws) (sym (list_any-append (is_local site) rs ws) ∙ h)) [
    | inl r ↦ kept_some rs r none.0
    | inr w ↦ kept_some ws w none.1
  ]
    where
      kept_some : (ks : List Key) → list_any (is_local site) ks ≡ true → local_keys site ks ≢ []
      kept_some [] h none = false≢true h
      kept_some (x ∷ ks) h none = go (is_local site x) refl none (kept_some ks)
        where
          go : (b : Bool) → is_local site x ≡ b → cond b (x ∷ local_keys site ks) (local_keys site ks) ≡ [] → (list_any (is_local site) ks ≡ true → local_keys site ks ≢ []) → ⊥
          go true l none rest = absurd (cc)
          go false l none rest = rest (ap (λ b. b || list_any (is_local site) ks) (sym l) ∙ h) none

some_mapped : (f : Sets → Sets) (o : Option Sets) (g : Sets) → option_map f o ≡ Some g → (h : Sets) × (o ≡ Some h) × (f h ≡ g)
some_mapped f None g e = absurd (none-some g e)
some_mapped f (Some h) g e = (h, refl, same_Some (f h) g e)

module _ (site : Site) (unreleased : Place → Option Sets) (r : Requested) (locked : IsLockedAs site unreleased r) where
  requested_as : (q : Place) (h : Sets) → unreleased q ≡ Some h → get r q ≡ Some (local_sets site h)
  requested_as q h is = locked q ∙ ap (option_map (local_sets site)) is

  -- the lock manager answers whether the unreleased request is ready at the site
  pub ready_among : (q : Place) (h : Sets) → unreleased q ≡ Some h → IsReady r q ↔ IsReadyAt site unreleased q h
  ready_among q h is = (there, back)
    where
      there : IsReady r q → IsReadyAt site unreleased q h
      there (own, has_own, free) n g early before c =
          let same : own ≡ local_sets site h = same_Some own _ (sym has_own ∙ requested_as q h is) in
          free n (local_sets site g) (requested_as n g early) before (subst (Conflict (local_sets site g)) (sym same) (conflict_local site g h c))

      back : IsReadyAt site unreleased q h → IsReady r q
      back ready = (
        local_sets site h,
        requested_as q h is,
        λ n g early before c.
            let other = some_mapped (local_sets site) (unreleased n) g (sym (locked n) ∙ early) in
            ready n other.0 other.1 before (local_conflict site other.0 h (subst (λ x. Conflict x (local_sets site h)) (sym other.2) c)),
      )

  -- a ready place is unreleased
  pub ready_unreleased : (q : Place) → IsReady r q → (h : Sets) × (unreleased q ≡ Some h) × IsReadyAt site unreleased q h
  ready_unreleased q ready =
      let own = some_mapped (local_sets site) (unreleased q) ready.0 (sym (locked q) ∙ ready.1) in
      (own.0, own.1, (ready_among q own.0 own.1).0 ready)

  module _ (next : Place → Option Sets) where
    -- where nothing is requested or released, the locks stay
    pub locked_same : ((n : Place) → next n ≡ unreleased n) → IsLockedAs site next r
    locked_same same n = locked n ∙ ap (option_map (local_sets site)) (sym (same n))

    -- with one more unreleased place, they get its request
    pub locked_requested : (q : Place) (h : Sets) → ((n : Place) → next n ≡ cond (eq_by_cmp place_cmp n q) (Some h) (unreleased n)) → IsLockedAs site next (insert r q (local_sets site h))
    locked_requested q h one_more n = get-insert place_total r q (local_sets site h) n ∙ go (eq_by_cmp place_cmp n q) ∙ ap (option_map (local_sets site)) (sym (one_more n))
      where
        go : (b : Bool) → cond b (Some (local_sets site h)) (get r n) ≡ option_map (local_sets site) (cond b (Some h) (unreleased n))
        go true = refl
        go false = locked n

    -- and with one less, it is released
    pub locked_released : (q : Place) → ((n : Place) → next n ≡ cond (eq_by_cmp place_cmp n q) None (unreleased n)) → IsLockedAs site next (remove r q)
    locked_released q one_less n = get-remove place_total r q n ∙ go (eq_by_cmp place_cmp n q) ∙ ap (option_map (local_sets site)) (sym (one_less n))
      where
        go : (b : Bool) → cond b None (get r n) ≡ option_map (local_sets site) (cond b None (unreleased n))
        go true = refl
        go false = locked n

-- where nothing was requested yet, nothing is unreleased
pub locked_none : (site : Site) (unreleased : Place → Option Sets) → ((n : Place) → unreleased n ≡ None) → IsLockedAs site unreleased empty
locked_none site unreleased none n = get-empty place_cmp n ∙ ap (option_map (local_sets site)) (sym (none n))
