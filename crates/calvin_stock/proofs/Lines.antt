-- The lines of an order as they are gone through: their keys, faults, totals and writes.
use Rattle.std.proofs.Common.{◌≡◌, ℕ, zero, suc, ◌+◌, ◌<◌, ◌≤◌, ◌==◌, true, false, ◌||◌, List, [], ◌∷◌, ◌++◌, length, map, take, drop, Option, Some, slice_get, refl, sym, ap, ◌∙◌, arith, length-append}
use Rattle.std.specs.Option.{option_or}
use Rattle.std.proofs.lemmas.Bool.{or_parts, not-true}
use Rattle.std.proofs.lemmas.List.{drop_all, length-take, length-map, map-append}
use Rattle.std.proofs.lemmas.Option.{slice_get_within}
use Rattle.calvin_types.specs.declared.key.Key.{Key}
use Rattle.std.specs.declared.cmp.Ordering.{Ordering}
use Rattle.std.specs.declared.cmp.Ordering.TheVariants.{Less, Equal, Greater}
use Rattle.calvin_types.specs.Keys.{has, key_cmp, by_order, insert_key, insert_all}
use Rattle.calvin_types.specs.Exact.{first, second}
use Rattle.calvin_types.specs.SameKeysLaws.{equal_keys_is_same_key}
use Rattle.calvin_types.proofs.Fews.{drop_at, take_at}
use Rattle.calvin_app.specs.Rows.{Rows}
use Rattle.calvin_app.specs.Writing.{keys_of}
use Rattle.calvin_stock.specs.declared.order.Line.{Line}
use Rattle.calvin_stock.specs.declared.order.Order.{Order}
use Rattle.calvin_stock.specs.declared.rows.StockRow.{StockRow}
use Rattle.calvin_stock.specs.declared.reply.StockReply.{StockReply}
use Rattle.calvin_stock.specs.Lines.{has_distinct_items, names_item}
use Rattle.calvin_stock.specs.StockRows.{customer_key, item_key, order_key, item_at}
use Rattle.calvin_stock.specs.Operations.{line_fault, first_fault, cost, total_of, taken}
use Rattle.calvin_stock.specs.Stock.{item_keys}
use Rattle.calvin_stock.specs.StockLaws.{at_most_four}

-- keys that are put in one after another
insert_all-append : (xs ys ks : List Key) → insert_all (xs ++ ys) ks ≡ insert_all ys (insert_all xs ks)
insert_all-append [] ys ks = refl
insert_all-append (x ∷ xs) ys ks = insert_all-append xs ys (insert_key x ks)

-- a key comes before the first of some
abbrev IsFirst : Key → List Key → Type 0
IsFirst c [] = Unit {0}
IsFirst c (k ∷ ks) = key_cmp c k ≡ Less

first_inserted : (c q : Key) (ks : List Key) → key_cmp c q ≡ Less → IsFirst c ks → IsFirst c (insert_key q ks)
first_inserted c q [] less first = less
first_inserted c q (k ∷ ks) less first = go (key_cmp q k)
  where
    go : (o : Ordering) → IsFirst c (by_order o (q ∷ k ∷ ks) (k ∷ ks) (k ∷ insert_key q ks))
    go Less = less
    go Equal = first
    go Greater = first

first_put : (c : Key) (ks : List Key) → IsFirst c ks → insert_key c ks ≡ c ∷ ks
first_put c [] first = refl
first_put c (k ∷ ks) first = ap (λ o. by_order o (c ∷ k ∷ ks) (k ∷ ks) (k ∷ insert_key c ks)) first

first_of_items : (u : ℕ) (lines : List Line) (ks : List Key) → IsFirst (customer_key u) ks → IsFirst (customer_key u) (insert_all (item_keys lines) ks)
first_of_items u [] ks first = first
first_of_items u (l ∷ ls) ks first = first_of_items u ls (insert_key (item_key l.item) ks) (first_inserted (customer_key u) (item_key l.item) ks refl first)

-- keys of items that are put in behind the customer's
pub behind_customer : (u : ℕ) (lines : List Line) (ks : List Key) → insert_all (item_keys lines) (customer_key u ∷ ks) ≡ customer_key u ∷ insert_all (item_keys lines) ks
behind_customer u [] ks = refl
behind_customer u (l ∷ ls) ks = behind_customer u ls (insert_key (item_key l.item) ks)

-- what is left of the lines from a place on
module _ (lines : List Line) (i : ℕ) where
  pub keys_at : (l : Line) (ks : List Key) → slice_get lines i ≡ Some l → insert_all (item_keys (drop i lines)) ks ≡ insert_all (item_keys (drop (i + 1) lines)) (insert_key (item_key l.item) ks)
  keys_at l ks here = ap (λ xs. insert_all (item_keys xs) ks) (drop_at lines i l here)

  pub keys_end : (u o : ℕ) (ks : List Key) → length lines ≤ i → insert_all (item_keys (drop i lines)) ks ≡ customer_key u ∷ insert_all (item_keys lines) [] → insert_key (order_key o) ks ≡ insert_all (item_keys lines ++ order_key o ∷ customer_key u ∷ []) []
  keys_end u o ks past so =
      let items = insert_all (item_keys lines) [] in
      ap (λ js. insert_key (order_key o) js) (sym (ap (λ xs. insert_all (item_keys xs) ks) (drop_all i lines past)) ∙ so)
      ∙ sym (first_put (customer_key u) (insert_key (order_key o) items) (first_inserted (customer_key u) (order_key o) items refl (first_of_items u lines [] tt)))
      ∙ sym (insert_all-append (item_keys lines) (order_key o ∷ customer_key u ∷ []) [])

  pub fault_at : (rows : Rows StockRow) (l : Line) (fault : Option StockReply) → slice_get lines i ≡ Some l → fault ≡ line_fault l (item_at rows l.item) → first_fault (drop i lines) rows ≡ option_or fault (first_fault (drop (i + 1) lines) rows)
  fault_at rows l fault here is = ap (λ xs. first_fault xs rows) (drop_at lines i l here) ∙ ap (λ f. option_or f (first_fault (drop (i + 1) lines) rows)) (sym is)

  pub total_at : (rows : Rows StockRow) (l : Line) → slice_get lines i ≡ Some l → total_of (drop i lines) rows ≡ cost l (item_at rows l.item) + total_of (drop (i + 1) lines) rows
  total_at rows l here = ap (λ xs. total_of xs rows) (drop_at lines i l here)

-- the writes of the lines so far, with one more
pub taken_at : (rows : Rows StockRow) (lines : List Line) (i : ℕ) (l : Line) (ws : List (Key × StockRow)) (w : Key × StockRow) → slice_get lines i ≡ Some l → ws ≡ map (taken rows) (take i lines) → w ≡ taken rows l → ws ++ w ∷ [] ≡ map (taken rows) (take (i + 1) lines)
taken_at rows lines i l ws w here so is = (λ j. so j ++ is j ∷ []) ∙ sym (ap (map (taken rows)) (take_at lines i l here) ∙ map-append (taken rows) (take i lines) (l ∷ []))

-- there is room for the write of a line, and for two more after those of an order
pub taken_room : (rows : Rows StockRow) (lines : List Line) (i : ℕ) (l : Line) (ws : List (Key × StockRow)) → slice_get lines i ≡ Some l → ws ≡ map (taken rows) (take i lines) → length lines ≤ 16 → length ws < 16
taken_room rows lines i l ws here so few = let within : i < length lines = slice_get_within lines i l here in omega (arith, ap length so, length-map (take i lines) (taken rows), length-take i lines)

pub room : (rows : Rows StockRow) (o : Order) (ws : List (Key × StockRow)) → ws ≡ map (taken rows) o.lines → length ws < 16
room rows o ws so = omega (arith, ap length so, length-map o.lines (taken rows), at_most_four o)

pub room_after : (rows : Rows StockRow) (o : Order) (ws : List (Key × StockRow)) (w : Key × StockRow) (more : List (Key × StockRow)) → ws ≡ map (taken rows) o.lines → more ≡ ws ++ w ∷ [] → length more < 16
room_after rows o ws w more so is = omega (arith, ap length is, length-append ws (w ∷ []), ap length so, length-map o.lines (taken rows), at_most_four o)

-- a line of lines that don't name an item is of another one
other_item : (xs : List Line) (i x : ℕ) (l : Line) → names_item xs x ≡ false → slice_get xs i ≡ Some l → (l.item == x) ≡ false
other_item [] i x l none here = absurd (cc)
other_item (y ∷ xs) zero x l none here = let first_is : y ≡ l = cc in ap (λ (m : Line). m.item == x) (sym first_is) ∙ (or_parts (y.item == x) _ none).0
other_item (y ∷ xs) (suc i) x l none here = other_item xs i x l (or_parts (y.item == x) _ none).1 here

-- the item of a line isn't among those before it
pub untaken : (rows : Rows StockRow) (lines : List Line) (i : ℕ) (l : Line) → has_distinct_items lines ≡ true → slice_get lines i ≡ Some l → has (keys_of (map (taken rows) (take i lines))) (item_key l.item) ≡ false
untaken rows [] i l once here = absurd (cc)
untaken rows (x ∷ xs) zero l once here = refl
untaken rows (x ∷ xs) (suc i) l once here =
    ap (λ b. b || has (keys_of (map (taken rows) (take i xs))) (item_key l.item))
    (sym (equal_keys_is_same_key (item_key l.item) (item_key x.item)) ∙ other_item xs i x.item l (not-true _ (first _ _ once)) here)
    ∙ untaken rows xs i l (second _ _ once) here

-- neither is the order's key among those of the lines, nor the customer's among those and the order's
pub order_untaken : (rows : Rows StockRow) (lines : List Line) (o : ℕ) → has (keys_of (map (taken rows) lines)) (order_key o) ≡ false
order_untaken rows [] o = refl
order_untaken rows (l ∷ ls) o = order_untaken rows ls o

pub customer_untaken : (rows : Rows StockRow) (lines : List Line) (o u : ℕ) (r : StockRow) → has (keys_of (map (taken rows) lines ++ (order_key o, r) ∷ [])) (customer_key u) ≡ false
customer_untaken rows [] o u r = refl
customer_untaken rows (l ∷ ls) o u r = customer_untaken rows ls o u r

pub customer_after : (rows : Rows StockRow) (lines : List Line) (o u : ℕ) (r : StockRow) (k : Key) (before ws : List (Key × StockRow)) → ws ≡ before ++ (k, r) ∷ [] → before ≡ map (taken rows) lines → k ≡ order_key o → has (keys_of ws) (customer_key u) ≡ false
customer_after rows lines o u r k before ws so was is = ap (λ xs. has (keys_of xs) (customer_key u)) (so ∙ (λ j. was j ++ (is j, r) ∷ [])) ∙ customer_untaken rows lines o u r
