-- Steps of a loop over entries in the order of their keys.
use Rattle.std.proofs.Common.{◌≡◌, ℕ, zero, suc, add-one, ◌+◌, ◌<◌, ◌≤◌, Bool, true, false, cond, List, [], ◌∷◌, ◌++◌, length, take, drop, Option, Some, slice_get, refl, sym, ◌∙◌, ap, append_assoc, rules, arith}
use Rattle.std.specs.Cmp.Rules.{comparing}
use Rattle.std.specs.FinMap as map
use Rattle.std.specs.declared.cmp.Ordering.{Ordering}
use Rattle.std.specs.declared.cmp.Ordering.TheVariants.{Less, Equal, Greater}
use Rattle.std.specs.Ordering.{eq_by_cmp}
use Rattle.calvin_types.specs.declared.key.Key.{Key}
use Rattle.calvin_types.specs.Keys.{key_cmp}
use Rattle.calvin_types.specs.KeyOrder.{key_cmp_exact}
use Rattle.std.specs.FinMap.Entries.{by_order}
use Rattle.std.specs.List.{insert}
use Rattle.std.proofs.Math.ListN.{set}
use Rattle.std.proofs.lemmas.List.{drop_all}
use Rattle.std.proofs.lemmas.Option.{slice_get_within}
use Rattle.calvin_app.specs.EntryPlaces.{IsAt, IsMissingAt}
use Rattle.calvin_types.proofs.Fews.{drop_at, take_at}
use Rattle.calvin_types.specs.SameKeys.{equal_keys}

pub equal_keys-is : (a b : Key) → equal_keys a b ≡ eq_by_cmp key_cmp a b
equal_keys-is a b = search (comparing, rules)

pub set_is : {X : Type 0} (xs : List X) (i : ℕ) (y : X) → i < length xs → set xs i y ≡ take i xs ++ y ∷ drop (i + 1) xs
set_is [] i y h = absurd (omega arith)
set_is (x ∷ xs) zero y h = refl
set_is (x ∷ xs) (suc i) y h = let h' : i < length xs = omega arith in ap (λ ys. x ∷ ys) (rw (add-one) (rw (add-one) at (set_is xs i y h')))

module _ {Row : Type 0} (k : Key) (es : List (Key × Row)) (i : ℕ) (e : Key × Row) (here : slice_get es i ≡ Some e) (so : (row : Row) → map.put key_cmp k row es ≡ take i es ++ map.put key_cmp k row (drop i es)) where
  within : i < length es
  within = slice_get_within es i e here

  put_at : (r : Row) (o : Ordering) → key_cmp k e.0 ≡ o → map.put key_cmp k r es ≡ take i es ++ by_order o ((k, r) ∷ e ∷ drop (i + 1) es) ((e.0, r) ∷ drop (i + 1) es) (e ∷ map.put key_cmp k r (drop (i + 1) es))
  put_at r o is = so r ∙ ap (λ xs. take i es ++ map.put key_cmp k r xs) (drop_at es i e here) ∙ ap (λ (o : Ordering). take i es ++ by_order o ((k, r) ∷ e ∷ drop (i + 1) es) ((e.0, r) ∷ drop (i + 1) es) (e ∷ map.put key_cmp k r (drop (i + 1) es))) is

  pub found_place : key_cmp k e.0 ≡ Equal → IsAt k es i
  found_place is = record {
    within = within;
    put_is = λ r. put_at r Equal is ∙ ap (λ (q : Key). take i es ++ (q, r) ∷ drop (i + 1) es) (sym (key_cmp_exact k e.0 is)) ∙ sym (set_is es i (k, r) within);
  }

  pub free_place : key_cmp k e.0 ≡ Less → IsMissingAt k es i
  free_place is = record {
    within = let h : i < length es = within in omega arith;
    put_is = λ r. put_at r Less is ∙ ap (λ xs. take i es ++ (k, r) ∷ xs) (sym (drop_at es i e here));
  }

  pub next_place : key_cmp k e.0 ≡ Greater → (row : Row) → map.put key_cmp k row es ≡ take (i + 1) es ++ map.put key_cmp k row (drop (i + 1) es)
  next_place is r = put_at r Greater is ∙ sym (append_assoc (take i es) (e ∷ []) (map.put key_cmp k r (drop (i + 1) es))) ∙ ap (λ xs. xs ++ map.put key_cmp k r (drop (i + 1) es)) (sym (take_at es i e here))

pub last_place : {Row : Type 0} (k : Key) (es : List (Key × Row)) (i n : ℕ) → length es ≤ i → i ≤ n → n ≡ length es → ((row : Row) → map.put key_cmp k row es ≡ take i es ++ map.put key_cmp k row (drop i es)) → IsMissingAt k es n
last_place k es i n past upto is so =
    let all : n ≡ i = omega arith in
    record { within = omega arith; put_is = λ r. so r ∙ ap (λ xs. take i es ++ map.put key_cmp k r xs) (drop_all i es past) ∙ ap (λ xs. take i es ++ (k, r) ∷ xs) (sym (drop_all i es past)) ∙ ap (λ (m : ℕ). insert es m (k, r)) (sym all) }

module _ {Row : Type 0} (k : Key) (es : List (Key × Row)) (i : ℕ) (e : Key × Row) (all : Option Row) (here : slice_get es i ≡ Some e) (so : map.find key_cmp k (drop i es) ≡ all) where
  find_at : (b : Bool) → b ≡ equal_keys k e.0 → cond b (Some e.1) (map.find key_cmp k (drop (i + 1) es)) ≡ all
  find_at b is = ap (λ b. cond b (Some e.1) (map.find key_cmp k (drop (i + 1) es))) (is ∙ equal_keys-is k e.0) ∙ ap (map.find key_cmp k) (sym (drop_at es i e here)) ∙ so

  pub found : true ≡ equal_keys k e.0 → Some e.1 ≡ all
  found is = find_at true is

  pub passed : false ≡ equal_keys k e.0 → map.find key_cmp k (drop (i + 1) es) ≡ all
  passed is = find_at false is
