-- Lemma: what a view has.
--     get-seen      the row of a key of the view is that of the rows
use Rattle.std.specs.Prelude.{◌≡◌, true, List, None}
use Rattle.std.specs.FinMap.{get, get-retain_keys}
use Rattle.std.proofs.Common.{ap, ◌∙◌, cond}
use Rattle.calvin_types.specs.declared.key.Key.{Key}
use Rattle.calvin_types.specs.Keys.{has}
use Rattle.calvin_types.specs.KeyOrder.{has-alike}
use Rattle.calvin_app.specs.Rows.{Rows, view}

pub get-seen : {Row : Type 0} (rows : Rows Row) (ks : List Key) (k : Key) → has ks k ≡ true → get (view rows ks) k ≡ get rows k
get-seen rows ks k there = get-retain_keys rows (has ks) k (λ x h. has-alike ks k x h) ∙ ap (λ b. cond b (get rows k) None) there
