-- A store with no point and no cold row: what warming and looking for hot rows come to.
use Rattle.std.proofs.Common.{◌≡◌, ◌&&◌, not, List, Option, is_some, ap, ◌∙◌}
use Rattle.std.proofs.Math.Bool.{and-true}
use Rattle.std.specs.FinMap.{get, get-empty}
use Rattle.calvin_types.specs.declared.key.Key.{Key}
use Rattle.calvin_types.specs.Keys.{key_cmp}
use Rattle.calvin_app.specs.Rows.{Rows}
use Rattle.calvin_app.specs.Stores.{loaded, warmed, is_hot}
use Rattle.calvin_app.proofs.StoreLaws.{without-none}

module _ {Row : Type 0} (rows : Rows Row) where
  pub warmed_same : (keys : List Key) → warmed keys (loaded rows) ≡ loaded rows
  warmed_same keys = ap (λ cold. record (loaded rows) { cold = cold }) (without-none keys)

  pub hot_as_kept : (k : Key) → is_hot (loaded rows) k ≡ is_some (get rows k)
  hot_as_kept k = ap (λ (o : Option (Unit {0})). is_some (get rows k) && not (is_some o)) (get-empty key_cmp k) ∙ and-true (is_some (get rows k))
