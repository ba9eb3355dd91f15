-- The rows of the serial run at the end of epochs.
use Rattle.std.proofs.Common.{◌≡◌, ℕ, suc, ◌-◌, ◌<◌, ◌≤◌, cond, [], ◌∷◌, inl, inr, refl, ap, ◌∙◌, map, arith}
use Rattle.std.specs.Ordering.{is_lt}
use Rattle.std.specs.List.{filter}
use Rattle.calvin_app.specs.Meaning.{Meaning}
use Rattle.calvin_app.specs.Rows.{Rows}
use Rattle.calvin_app.specs.Serial.{serial, rows_before}
use Rattle.calvin_order.specs.Configs.{Config, stretch, order}
use Rattle.calvin_order.specs.Merged.{Assignment, end_of}
use Rattle.calvin_order.proofs.Places.{before_by_epoch, before_end, before_epoch}
use Rattle.calvin_order.proofs.Epochs.{stretch_on, stretch_stands}
use Rattle.calvin_types.specs.Orders.{Order, StandsAt, before}
use Rattle.calvin_types.specs.Places.{place_cmp, IsBefore}
use Rattle.calvin_types.specs.declared.place.Place.{Place}
use Rattle.calvin_types.specs.declared.txn.Txn.{Txn}
use Rattle.calvin_bench.proofs.Growth.{rows_kept}

-- ---- the serial run

module _ {Args Row Reply : Type 0} (m : Meaning Args Row Reply) where
  before_all : (xs : Order Args) (q : Place) → ((n : Place) (t : Txn Args) → StandsAt xs n t → IsBefore n q) → before xs q ≡ map (λ e. e.1) xs
  before_all [] q early = refl
  before_all (e ∷ xs) q early =
      ap (λ r. map (λ e. e.1) (cond (is_lt r) (e ∷ filter (λ e. is_lt (place_cmp e.0 q)) xs) (filter (λ e. is_lt (place_cmp e.0 q)) xs))) (early e.0 e.1 (inl (refl, refl)))
      ∙ ap (λ ts. e.1 ∷ ts) (before_all xs q (λ n t at. early n t (inr at)))

  -- the rows before the end of the first n epochs are those after running them
  pub rows_at_end : (config : Config) (B : Assignment Args) (rows : Rows Row) (n all : ℕ) → n ≤ all → rows_before m (order config B all) rows (end_of n) ≡ (serial m (map (λ e. e.1) (order config B n)) rows).0
  rows_at_end config B rows n all upto =
      ap (λ es. rows_before m es rows (end_of n)) (stretch_on config B 0 n (all - n) all n (omega (arith, upto)) (omega arith))
      ∙ rows_kept m (order config B n) (stretch config B n (all - n)) rows (end_of n) (λ q t at early. let less = before_end q n early in let low = (stretch_stands config B n (all - n) q t at).0 in omega (arith, less, low))
      ∙ ap (λ ts. (serial m ts rows).0) (before_all (order config B n) (end_of n) (λ q t at. before_by_epoch q (end_of n) (let less = (stretch_stands config B 0 n q t at).1 in omega (arith, less))))

  -- the rows before a place of an epoch need its epochs alone
  pub rows_upto : (config : Config) (B : Assignment Args) (rows : Rows Row) (q : Place) (all : ℕ) → q.epoch < all → rows_before m (order config B all) rows q ≡ rows_before m (order config B (suc q.epoch)) rows q
  rows_upto config B rows q all upto =
      ap (λ es. rows_before m es rows q) (stretch_on config B 0 (suc q.epoch) (all - suc q.epoch) all (suc q.epoch) (omega (arith, upto)) (omega arith))
      ∙ rows_kept m (order config B (suc q.epoch)) (stretch config B (suc q.epoch) (all - suc q.epoch)) rows q
      (λ n t at early. let less = before_epoch n q early in let low = (stretch_stands config B (suc q.epoch) (all - suc q.epoch) n t at).0 in omega (arith, less, low))
