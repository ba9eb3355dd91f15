-- Writes that are put one after another, and keys that are warmed one after another.
use Rattle.std.proofs.Common.{◌≡◌, Bool, true, false, cond, ◌||◌, not, List, [], ◌∷◌, ◌++◌, Option, Some, None, refl, sym, ap, ◌∙◌}
use Rattle.std.proofs.lemmas.List.Folds.{list_any-append}
use Rattle.std.specs.FinMap.{get, insert, get-retain_keys, same_map}
use Rattle.std.specs.FinSet.{FinSet}
use Rattle.std.specs.Ordering.{eq_by_cmp, is_lt}
use Rattle.calvin_types.specs.declared.key.Key.{Key}
use Rattle.calvin_types.specs.declared.place.Place.{Place}
use Rattle.calvin_types.specs.Keys.{key_cmp, has}
use Rattle.calvin_types.specs.KeyOrder.{key_cmp_exact, key_cmp_total, has-alike}
use Rattle.calvin_types.specs.Places.{place_cmp}
use Rattle.calvin_app.specs.Rows.{overwritten}
use Rattle.calvin_app.specs.Stores.{Point, Store, without, put_point, put_at}
use Rattle.calvin_app.specs.Writing.{keys_of}

pub get-without : (cold : FinSet {K = Key} key_cmp) (keys : List Key) (q : Key) → get (without cold keys) q ≡ cond (not (has keys q)) (get cold q) None
get-without cold keys q = get-retain_keys cold (λ k. not (has keys k)) q (λ x e. ap not (has-alike keys q x e))

pub without-nil : (cold : FinSet {K = Key} key_cmp) → without cold [] ≡ cold
without-nil cold = same_map key_cmp_total key_cmp_exact _ _ (get-without cold [])

pub without-append : (cold : FinSet {K = Key} key_cmp) (ks js : List Key) → without cold (ks ++ js) ≡ without (without cold ks) js
without-append cold ks js = same_map key_cmp_total key_cmp_exact _ _ (λ q.
    get-without cold (ks ++ js) q ∙ ap (λ b. cond (not b) (get cold q) None) (list_any-append (eq_by_cmp key_cmp q) ks js)
    ∙ go q (has ks q) (has js q)
    ∙ sym (get-without (without cold ks) js q ∙ ap (λ o. cond (not (has js q)) o None) (get-without cold ks q)))
  where
    go : (q : Key) (b c : Bool) → cond (not (b || c)) (get cold q) None ≡ cond (not c) (cond (not b) (get cold q) None) None
    go q true true = refl
    go q true false = refl
    go q false true = refl
    go q false false = refl

module _ {Row : Type 0} where
  point-nil : (q : Place) (o : Option (Point Row)) → put_point q [] o ≡ o
  point-nil q None = refl
  point-nil q (Some p) = ap (λ rows. Some (record { at = p.at; rows = rows })) (go (is_lt (place_cmp q p.at)))
    where
      go : (b : Bool) → cond b p.rows p.rows ≡ p.rows
      go true = refl
      go false = refl

  point-cons : (q : Place) (w : Key × Row) (ws : List (Key × Row)) (o : Option (Point Row)) → put_point q (w ∷ ws) o ≡ put_point q ws (put_point q (w ∷ []) o)
  point-cons q w ws None = refl
  point-cons q w ws (Some p) = ap (λ rows. Some (record { at = p.at; rows = rows })) (go (is_lt (place_cmp q p.at)))
    where
      go : (b : Bool) → cond b (overwritten (insert p.rows w.0 w.1) ws) p.rows ≡ cond b (overwritten (cond b (insert p.rows w.0 w.1) p.rows) ws) (cond b (insert p.rows w.0 w.1) p.rows)
      go true = refl
      go false = refl

  pub put_at-nil : (q : Place) (store : Store Row) → put_at q [] store ≡ store
  put_at-nil q store = λ i. record { map = store.map; point = point-nil q store.point i; cold = without-nil store.cold i }

  pub put_at-cons : (q : Place) (w : Key × Row) (ws : List (Key × Row)) (store : Store Row) → put_at q (w ∷ ws) store ≡ put_at q ws (put_at q (w ∷ []) store)
  put_at-cons q w ws store = λ i. record { map = overwritten (insert store.map w.0 w.1) ws; point = point-cons q w ws store.point i; cold = without-append store.cold (w.0 ∷ []) (keys_of ws) i }
