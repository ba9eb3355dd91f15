-- Rows that are lifted: no reply is kept among them, and they are what is within.
use Rattle.std.proofs.Common.{◌≡◌, ℕ, ◌≤◌, true, false, cond, List, [], ◌∷◌, Some, None, refl, sym, ap, ◌∙◌}
use Rattle.std.specs.Prelude.{if◌then◌else◌, nat_le}
use Rattle.std.specs.FinMap as finmap
use Rattle.std.proofs.lemmas.Bool.{le-leb}
use Rattle.calvin_types.specs.declared.key.Key.{Key}
use Rattle.calvin_types.specs.declared.place.RequestId.{RequestId}
use Rattle.calvin_types.specs.Keys.{key_cmp, same_key}
use Rattle.calvin_types.specs.KeyOrder.{key_cmp_exact, key_cmp_total}
use Rattle.calvin_app.specs.Rows.{Rows, overwritten}
use Rattle.calvin_app.specs.Meaning.{AllUpTo}
use Rattle.calvin_app.specs.Writing.{keys_of}
use Rattle.calvin_once.specs.declared.kept.OnceRow.{OnceRow}
use Rattle.calvin_once.specs.declared.kept.OnceRow.TheVariants as kept
use Rattle.calvin_once.specs.Once.{as_rows, as_reply, inside, kept_at, kept_key}
use Rattle.calvin_once.specs.OnceLaws.{one_key, picked, get-inside, inside-none}

-- a row that is put leaves no reply where there was none
none_kept : {Row Reply : Type 0} (ws : List (Key × Row)) (rows : Rows (OnceRow Row Reply)) (q : Key) → as_reply (finmap.get rows q) ≡ None → as_reply (finmap.get (overwritten rows (as_rows ws)) q) ≡ None
none_kept [] rows q none = none
none_kept {Row} {Reply} (w ∷ ws) rows q none = none_kept ws (finmap.insert rows w.0 (kept.Row w.1)) q
    (ap as_reply (finmap.get-insert key_cmp_total rows w.0 (kept.Row w.1) q)
    ∙ elim (same_key q w.0) as (λ b. as_reply (cond b (Some (kept.Row w.1)) (finmap.get rows q)) ≡ None) [ true ↦ refl | false ↦ none ])

pub lifted_new : {Row : Type 0} (Reply : Type 0) (top : ℕ) (ws : List (Key × Row)) (id : RequestId) → kept_at top (overwritten finmap.empty (as_rows {Reply = Reply} ws)) id ≡ None
lifted_new Reply top ws id = none_kept ws finmap.empty (kept_key top id) (ap as_reply (finmap.get-empty key_cmp (kept_key top id)))

-- a row in a table up to the top one is put within
inside-put : {Row Reply : Type 0} (top : ℕ) (rows : Rows (OnceRow Row Reply)) (k : Key) (r : Row) → k.table ≤ top → inside top (finmap.insert rows k (kept.Row r)) ≡ finmap.insert (inside top rows) k r
inside-put {Row} {Reply} top rows k r low = finmap.same_map key_cmp_total key_cmp_exact _ _ (λ q.
    get-inside top (finmap.insert rows k (kept.Row r)) q
    ∙ ap (picked top q) (finmap.get-insert key_cmp_total rows k (kept.Row r) q)
    ∙ elim (same_key q k) as (λ b. same_key q k ≡ b → picked {Reply = Reply} top q (cond b (Some (kept.Row r)) (finmap.get rows q)) ≡ cond b (Some r) (picked top q (finmap.get rows q))) [
      | true ↦ λ is. ap (λ b. if b then Some r else None) (ap (λ (x : Key). nat_le x.table top) (one_key q k is) ∙ le-leb k.table top low)
      | false ↦ λ is. refl
    ] refl
    ∙ ap (cond (same_key q k) (Some r)) (sym (get-inside top rows q))
    ∙ sym (finmap.get-insert key_cmp_total (inside top rows) k r q))

inside-lifted : {Row Reply : Type 0} (top : ℕ) (ws : List (Key × Row)) (rows : Rows (OnceRow Row Reply)) → AllUpTo top (keys_of ws) → inside top (overwritten rows (as_rows ws)) ≡ overwritten (inside top rows) ws
inside-lifted top [] rows low = refl
inside-lifted top (w ∷ ws) rows low = inside-lifted top ws (finmap.insert rows w.0 (kept.Row w.1)) low.1 ∙ ap (λ m. overwritten m ws) (inside-put top rows w.0 w.1 low.0)

pub lifted_within : {Row : Type 0} (Reply : Type 0) (top : ℕ) (ws : List (Key × Row)) → AllUpTo top (keys_of ws) → inside top (overwritten finmap.empty (as_rows {Reply = Reply} ws)) ≡ overwritten finmap.empty ws
lifted_within {Row} Reply top ws low = inside-lifted top ws finmap.empty low ∙ ap (λ m. overwritten m ws) (inside-none Row Reply top)
