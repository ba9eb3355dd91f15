use Rattle.std.proofs.Common.{◌≡◌, ◌+◌, [], sym, refl, ◌∙◌, ap, drop, get_or, arith, length}
use Rattle.std.proofs.lemmas.Bool.{ne_eqb}
use Rattle.std.proofs.lemmas.Option.{slice_get-get_or}
use Rattle.calvin_types.specs.Keys.{insert_all, insert_key}
use Rattle.calvin_types.proofs.Risings.{insert_all-at, fewer, one_more, length-grows_by}
use Rattle.calvin_types.proofs.key_set.KeySet.from_slice.Goals as goal

pub returns-in_err-insert-clause-many : goal.returns-in_err-insert-clause-many
returns-in_err-insert-clause-many c =
    let q = get_or c.args.keys.now c.loop-key.key-index (record { table = 0; id = 0 }) in
    absurd (omega (arith, c.in_err-insert.ensures.full.0 refl, length-grows_by q c.loop-key.all, c.loop-key.invariant.number, c.loop-key-test.true, c.if-keys-gt-MOST_KEYS.false))

pub returns-in_err-insert-clause-repeated : goal.returns-in_err-insert-clause-repeated
returns-in_err-insert-clause-repeated c =
    let q = get_or c.args.keys.now c.loop-key.key-index (record { table = 0; id = 0 }) in
    absurd (omega (arith, c.in_err-insert.ensures.full.0 refl, length-grows_by q c.loop-key.all, c.loop-key.invariant.number, c.loop-key-test.true, c.if-keys-gt-MOST_KEYS.false))

pub returns-then-len-before-clause-repeated : goal.returns-then-len-before-clause-repeated
returns-then-len-before-clause-repeated c =
    let q = get_or c.args.keys.now c.loop-key.key-index (record { table = 0; id = 0 }) in
    let same : length (insert_key q c.loop-key.all) ≡ length c.loop-key.all = ap length (sym c.in_ok-insert.ensures.ok) ∙ sym c.len.ensures.len ∙ c.if-len-before.true ∙ c.len-before.ensures.len in
    let less = fewer c.args.keys.now c.loop-key.all _ c.loop-key.key-index q (slice_get-get_or c.args.keys.now c.loop-key.key-index _ c.loop-key-test.true) c.loop-key.invariant.so_far c.loop-key.invariant.number same in
    (λ _. (c.if-keys-gt-MOST_KEYS.false, ne_eqb (length (insert_all c.args.keys.now [])) (length c.args.keys.now) (λ e. omega (arith, less, e))), λ _. refl)

pub loop-key-preserved : goal.loop-key-preserved
loop-key-preserved c =
    let q = get_or c.args.keys.now c.loop-key.key-index (record { table = 0; id = 0 }) in
    record {
      so_far = ap (insert_all (drop (c.loop-key.key-index + 1) c.args.keys.now)) c.in_ok-insert.ensures.ok ∙ sym (insert_all-at c.args.keys.now c.loop-key.all c.loop-key.key-index q (slice_get-get_or c.args.keys.now c.loop-key.key-index _ c.loop-key-test.true)) ∙ c.loop-key.invariant.so_far;
      number = ap length c.in_ok-insert.ensures.ok ∙ one_more c.loop-key.all q (λ same. c.if-len-before.false (c.len.ensures.len ∙ ap length c.in_ok-insert.ensures.ok ∙ same ∙ sym c.len-before.ensures.len)) ∙ ap (λ (n : _). n + 1) c.loop-key.invariant.number;
    }
