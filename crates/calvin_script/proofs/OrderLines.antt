-- The lines of an order are read line by line, and make an order where they are the lines of one.
--     after ds found      the lines that a list spells of which ds is left, where those found were read before
use Rattle.std.proofs.Common.{◌≡◌, ℕ, suc, ◌+◌, ◌≤◌, ◌<◌, Bool, true, false, List, [], ◌∷◌, ◌++◌, length, Option, Some, None, option_map, option_and_then, nat_le, drop, get_or, append_assoc, refl, sym, ap, ◌∙◌, arith}
use Rattle.std.proofs.Props.{props}
use Rattle.std.specs.Prelude.{IsTrue, IfSome}
use Rattle.std.proofs.lemmas.Bool.{false≢true}
use Rattle.std.proofs.lemmas.List.{drop_more, append-nil}
use Rattle.std.proofs.lemmas.Bool.Decides.{nat_tests}
use Rattle.serde_json.specs.View.{view, items_view}
use Rattle.serde_json.specs.declared.value.Value.{Value}
use Rattle.serde_json.specs.Data.{Data, Items, no_items, item}
use Rattle.calvin_stock.specs.declared.order.Line.{Line}
use Rattle.calvin_stock.specs.declared.order.Order.{Order}
use Rattle.calvin_stock.specs.Lines.{are_lines}
use Rattle.calvin_script.specs.Spelling.{each}
use Rattle.calvin_script.specs.StockOperations.{line, few, order_if, order_of_lines}

abbrev pub after : Items → List Line → Option (List Line)
after ds found = option_and_then few (option_map (λ xs. found ++ xs) (each line ds))

pub lines_begin : (ds : Items) → after ds [] ≡ option_and_then few (each line ds)
lines_begin ds = elim (each line ds) as (λ o. option_and_then few (option_map (λ xs. [] ++ xs) o) ≡ option_and_then few o) [ None ↦ refl | Some xs ↦ refl ]

one_more : (d : Data) (ds : Items) (x : Line) (found : List Line) → line d ≡ Some x → after (item d ds) found ≡ after ds (found ++ x ∷ [])
one_more d ds x found e = rw e (elim (each line ds) as (λ o. option_and_then few (option_map (λ xs. found ++ xs) (option_and_then (λ xs. Some (x ∷ xs)) o)) ≡ option_and_then few (option_map (λ xs. (found ++ x ∷ []) ++ xs) o)) [ None ↦ refl | Some xs ↦ ap few (sym (append_assoc found (x ∷ []) xs)) ])

pub lines_more : (vs : List Value) (i : ℕ) (v : Value) (x : Line) (found more : List Line) → i < length vs → v ≡ get_or vs i v → line (view v) ≡ Some x → more ≡ found ++ x ∷ [] → after (items_view (drop i vs)) found ≡ after (items_view (drop (i + 1) vs)) more
lines_more vs i v x found more below at e is = rw (is, drop_more vs i v below, ← at) (one_more (view v) (items_view (drop (i + 1) vs)) x found e)

none_more : (d : Data) (ds : Items) (found : List Line) → line d ≡ None → after (item d ds) found ≡ None
none_more d ds found e = rw e refl

pub lines_refused : (vs : List Value) (i : ℕ) (v : Value) (found : List Line) → i < length vs → v ≡ get_or vs i v → line (view v) ≡ None → after (items_view (drop i vs)) found ≡ None
lines_refused vs i v found below at e = rw (drop_more vs i v below, ← at) (none_more (view v) (items_view (drop (i + 1) vs)) found e)

pub lines_end : (found : List Line) → length found ≤ 4 → after no_items found ≡ Some found
lines_end found h =
    let fits : nat_le (length found) 4 ≡ true = grind (arith, nat_tests) in
    rw (append-nil found, fits) refl

each_length : (vs : List Value) (xs : List Line) → each line (items_view vs) ≡ Some xs → length xs ≡ length vs
each_length [] xs h = ap length (sym (some_same h)) where
  some_same : Some [] ≡ Some xs → [] ≡ xs
  some_same e = let h' = e in cc
each_length (v ∷ vs) xs h = go (line (view v)) (each line (items_view vs)) refl h (λ ys. each_length vs ys) where
  go : (o : Option Line) (p : Option (List Line)) → each line (items_view vs) ≡ p → option_and_then (λ x. option_and_then (λ ys. Some (x ∷ ys)) p) o ≡ Some xs → ((ys : List Line) → each line (items_view vs) ≡ Some ys → length ys ≡ length vs) → length xs ≡ suc (length vs)
  go None p is so rest = let h' = so in cc
  go (Some x) None is so rest = let h' = so in cc
  go (Some x) (Some ys) is so rest = let h' : x ∷ ys ≡ xs = cc in sym (ap length h') ∙ ap suc (rest ys is)

pub lines_too_many : (vs : List Value) → 4 < length vs → option_and_then few (each line (items_view vs)) ≡ None
lines_too_many vs h = go (each line (items_view vs)) refl where
  go : (o : Option (List Line)) → each line (items_view vs) ≡ o → option_and_then few o ≡ None
  go None is = refl
  go (Some xs) is =
      let long : length xs ≡ length vs = each_length vs xs is in
      let out : nat_le (length xs) 4 ≡ false = grind (arith, nat_tests) in
      rw out refl

true_once : (b : Bool) → IsProp (IsTrue b)
true_once b = hlevel props

-- the order that was made is the order of its lines
pub made : (u n : ℕ) (ls : List Line) (o : Order) → o.customer ≡ u → o.number ≡ n → o.lines ≡ ls → order_of_lines u n ls ≡ Some o
made u n ls o is_u is_n is_ls = rw (← is_u, ← is_n, ← is_ls) (go (are_lines o.lines) refl) where
  go : (b : Bool) (h : are_lines o.lines ≡ b) → order_if o.customer o.number o.lines b h ≡ Some o
  go true h = ap Some (λ i. record { customer = o.customer; number = o.number; lines = o.lines; in_range = true_once (are_lines o.lines) h o.in_range i })
  go false h = absurd (false≢true (sym h ∙ o.in_range))

-- and lines that aren't those of an order make none
pub unmade : (u n : ℕ) (ls : List Line) → are_lines ls ≡ false → order_of_lines u n ls ≡ None
unmade u n ls out = go (are_lines ls) refl where
  go : (b : Bool) (h : are_lines ls ≡ b) → order_if u n ls b h ≡ None
  go true h = absurd (false≢true (sym out ∙ h))
  go false h = refl

-- an order is made of lines exactly where they are those of one
pub decided : (u n : ℕ) (ls : List Line) (r : Option Order) → IfSome r (λ o. o.customer ≡ u) → IfSome r (λ o. o.number ≡ n) → IfSome r (λ o. o.lines ≡ ls) → (r ≡ None → are_lines ls ≡ false)
    → r ≡ order_of_lines u n ls
decided u n ls (Some o) is_u is_n is_ls none = sym (made u n ls o is_u is_n is_ls)
decided u n ls None is_u is_n is_ls none = sym (unmade u n ls (none refl))
