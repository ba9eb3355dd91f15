-- Stores without a point and without cold keys.
use Rattle.std.proofs.Common.{◌≡◌, Bool, true, false, cond, not, List, None, refl, sym, ap, ◌∙◌}
use Rattle.std.specs.FinMap.{empty, get, get-empty, get-retain_keys, same_map}
use Rattle.calvin_types.specs.declared.key.Key.{Key}
use Rattle.calvin_types.specs.declared.place.Place.{Place}
use Rattle.calvin_types.specs.Keys.{key_cmp, has}
use Rattle.calvin_types.specs.KeyOrder.{key_cmp_exact, key_cmp_total}
use Rattle.calvin_app.specs.Rows.{Rows, overwritten}
use Rattle.calvin_app.specs.Stores.{without, loaded, put_at}
use Rattle.calvin_app.specs.Writing.{keys_of}

nowhere : (b : Bool) (q : Key) → cond b (get (empty {X = Unit {0}} {R = key_cmp}) q) None ≡ get (empty {X = Unit {0}} {R = key_cmp}) q
nowhere true q = refl
nowhere false q = sym (get-empty key_cmp q)

-- of no keys none are left
pub without-none : (keys : List Key) → without empty keys ≡ empty
without-none keys = same_map key_cmp_total key_cmp_exact _ _ (λ q.
    get-retain_keys empty (λ k. not (has keys k)) q (λ x tied. ap (λ k. not (has keys k)) (sym (key_cmp_exact q x tied)))
    ∙ nowhere (not (has keys q)) q)

-- what is put into a store without a point and cold keys leaves one with the rows overwritten
pub put_at-loaded : {Row : Type 0} (q : Place) (writes : List (Key × Row)) (rows : Rows Row) → put_at q writes (loaded rows) ≡ loaded (overwritten rows writes)
put_at-loaded q writes rows = λ i. record { map = overwritten rows writes; point = None; cold = without-none (keys_of writes) i }
