use Rattle.std.proofs.Common.{◌≡◌, ◌+◌, ◌≤◌, ◌||◌, Bool, true, false, cond, Option, Some, length, take, drop, refl, sym, ap, ◌∙◌, arith}
use Rattle.std.proofs.lemmas.Option.{slice_get_read}
use Rattle.std.proofs.Math.Bool.{or-true, or-false}
use Rattle.std.specs.Option.{is_some}
use Rattle.std.specs.FinMap as map
use Rattle.std.specs.HashMap.{spare}
use Rattle.calvin_types.specs.Keys.{key_cmp, same_key, has}
use Rattle.calvin_types.specs.KeyOrder.{key_cmp_total}
use Rattle.calvin_types.proofs.Fews.{drop_at}
use Rattle.calvin_app.specs.Rows.{overwritten}
use Rattle.calvin_app.specs.Writing.{keys_of}
use Rattle.calvin_app.proofs.Apart.{repeated_at, distinct_at, has-next}
use Rattle.calvin_app.proofs.Results.{if_not_err}
use Rattle.calvin_app.proofs.RowTables.{same_rows}
use Rattle.calvin_app.proofs.table.Table.from_rows.Goals as goal

more : {Row : Type 0} (b : Bool) (o : Option Row) (r : Row) (h : Bool) → is_some o ≡ h → is_some (cond b (Some r) o) ≡ (h || b)
more true o r h is = sym (or-true h)
more false o r h is = is ∙ sym (or-false h)

pub loop-key-init : goal.loop-key-init
loop-key-init g c =
    let none = same_rows c.new-all.result.entries c.reserve.new.self.entries c.reserve.ensures.entries.2 ∙ ap (λ es. map.from_entries {R = key_cmp} es) c.new-all.ensures.empty in
    record {
      so_far = ap (λ m. overwritten m c.args.rows.now) none;
      there = λ q. ap (λ m. is_some (map.get m q)) none ∙ ap is_some (map.get-empty key_cmp q);
      distinct = refl;
      room = let room : length c.args.rows.now ≤ spare c.reserve.new.self = if_not_err _ c.reserve.result (sym c.is_err.ensures.value ∙ c.if-is_err.false) c.reserve.ensures.ok in omega (arith, room);
    }

pub returns-then-put_row-clause-repeated : goal.returns-then-put_row-clause-repeated
returns-then-put_row-clause-repeated g c =
    let here = slice_get_read c.args.rows.now (length c.args.rows.now) c.loop-key.key-index c.loop-key-item.result refl c.loop-key-test.true c.loop-key-item.is in
    (λ _. repeated_at c.args.rows.now c.loop-key.key-index c.loop-key-item.result here (sym (c.loop-key.invariant.there c.loop-key-item.result.0) ∙ sym c.if-put_row.ensures.had), λ _. refl)

pub loop-key-preserved : goal.loop-key-preserved
loop-key-preserved g c =
    let here = slice_get_read c.args.rows.now (length c.args.rows.now) c.loop-key.key-index c.loop-key-item.result refl c.loop-key-test.true c.loop-key-item.is in
    let rows = map.from_entries {R = key_cmp} c.loop-key.all.entries in
    record {
      so_far = ap (λ m. overwritten m (drop (c.loop-key.key-index + 1) c.args.rows.now)) c.put_row.ensures.put
          ∙ ap (overwritten rows) (sym (drop_at c.args.rows.now c.loop-key.key-index c.loop-key-item.result here))
          ∙ c.loop-key.invariant.so_far;
      there = λ q.
          ap (λ m. is_some (map.get m q)) c.put_row.ensures.put
          ∙ ap is_some (map.get-insert key_cmp_total rows c.loop-key-item.result.0 c.loop-key-item.result.1 q)
          ∙ more (same_key q c.loop-key-item.result.0) (map.get rows q) c.loop-key-item.result.1 (has (keys_of (take c.loop-key.key-index c.args.rows.now)) q) (c.loop-key.invariant.there q)
          ∙ sym (has-next c.args.rows.now c.loop-key.key-index c.loop-key-item.result q here);
      distinct = distinct_at c.args.rows.now c.loop-key.key-index c.loop-key-item.result here (sym (c.loop-key.invariant.there c.loop-key-item.result.0) ∙ sym c.if-put_row.ensures.had) c.loop-key.invariant.distinct;
      room = omega (arith, c.put_row.ensures.room, c.loop-key.invariant.room);
    }
