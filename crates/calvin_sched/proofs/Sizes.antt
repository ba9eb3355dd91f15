-- What is made of a request, a view, an answer and few numbers fits in memory where a request fits there with what it sees and
-- what came of it.
use Prim.Native.Nat.{ℕ, ◌+◌, ◌*◌, ◌^◌, ◌<◌, ◌≤◌, max}
use mir.Syntax.{Ty, Width, w8, w16, w32, w64, w128}
use mir.Val.{bytes}
use prog.Memory.{align, up}
use prog.Align.{align_w, align-bytes, up-ge}
use Rattle.std.proofs.Common.{sym, subst, arith}

of_width : (w : Width) → bytes w ≤ 16
of_width w8 = omega arith
of_width w16 = omega arith
of_width w32 = omega arith
of_width w64 = omega arith
of_width w128 = omega arith

-- nothing is aligned to more than 16 bytes
pub align_most : (τ : Ty) → align τ ≤ 16
align_most τ = subst (λ (k : ℕ). k ≤ 16) (sym (align-bytes τ)) (of_width (align_w τ))

-- the next multiple is near
pub up_near : (k e : ℕ) → 0 < k → up k e < e + k
up_near k e positive = omega arith

-- a request, a view and 40 bytes, and a place, a request, a view, an answer and writes
pub within_work : (most at view job answer whole text shown given written : ℕ) → 0 < most → most ≤ 16 → 0 < at → at ≤ 16 → 0 < view → view ≤ 16 → 280 ≤ written
    → up whole (up view (up answer (up job 0 + up job (up view (up at 16 + text) + shown)) + given) + written) < 2 ^ 63
    → up most (up 8 (up view (up at 0 + text) + shown) + 40) < 2 ^ 63
within_work most at view job answer whole text shown given written m1 m2 a1 a2 v1 v2 much fits =
    let x1 = up-ge at 16 in
    let x2 = up-ge view (up at 16 + text) in
    let x3 = up-ge job (up view (up at 16 + text) + shown) in
    let x4 = up-ge answer (up job 0 + up job (up view (up at 16 + text) + shown)) in
    let x5 = up-ge view (up answer (up job 0 + up job (up view (up at 16 + text) + shown)) + given) in
    let x6 = up-ge whole (up view (up answer (up job 0 + up job (up view (up at 16 + text) + shown)) + given) + written) in
    let y1 = up_near at 0 a1 in
    let y2 = up_near view (up at 0 + text) v1 in
    let y3 = up_near 8 (up view (up at 0 + text) + shown) (omega arith) in
    let y4 = up_near most (up 8 (up view (up at 0 + text) + shown) + 40) m1 in
    counted text shown given written most at view (up at 16) (up view (up at 16 + text)) (up job 0) (up job (up view (up at 16 + text) + shown)) (up answer (up job 0 + up job (up view (up at 16 + text) + shown)))
    (up view (up answer (up job 0 + up job (up view (up at 16 + text) + shown)) + given)) (up whole (up view (up answer (up job 0 + up job (up view (up at 16 + text) + shown)) + given) + written))
    (up at 0) (up view (up at 0 + text)) (up 8 (up view (up at 0 + text) + shown)) (up most (up 8 (up view (up at 0 + text) + shown) + 40)) m2 a2 v2 much x1 x2 x3 x4 x5 x6 y1 y2 y3 y4 fits
  where
    counted : (text shown given written most at view u1 u2 u3 u4 u5 u6 u7 z1 z2 z3 z4 : ℕ) → most ≤ 16 → at ≤ 16 → view ≤ 16 → 280 ≤ written
        → 16 ≤ u1 → u1 + text ≤ u2 → u2 + shown ≤ u4 → u3 + u4 ≤ u5 → u5 + given ≤ u6 → u6 + written ≤ u7 → z1 < 0 + at → z2 < (z1 + text) + view → z3 < (z2 + shown) + 8 → z4 < (z3 + 40) + most → u7 < 2 ^ 63 → z4 < 2 ^ 63
    counted text shown given written most at view u1 u2 u3 u4 u5 u6 u7 z1 z2 z3 z4 m2 a2 v2 much h1 h2 h3 h4 h5 h6 k1 k2 k3 k4 fits = omega arith

module _ (a s b t r u : ℕ) where
  -- the alignments of a request, of a pair of a key and a row, of such a pair or none, and of a view
  abbrev pub txn_at : ℕ
  txn_at = max 4 (max 1 (max a 8))

  abbrev pub pair_at : ℕ
  pair_at = max 8 (max b 1)

  abbrev pub slot_at : ℕ
  slot_at = max 1 (max (max pair_at 1) 1)

  abbrev pub few_at : ℕ
  few_at = max slot_at 8

  abbrev pub view_at : ℕ
  view_at = max few_at 1

  -- the sizes of a request and of a view, which has as many pairs as writes have
  abbrev pub txn_size : ℕ
  txn_size = up txn_at (up 8 (up a 9 + s) + 304)

  abbrev pub view_size : ℕ
  view_size = up view_at (up few_at 0 + up few_at (up 8 (up slot_at 0 + 16 * up slot_at (max 1 (max (up pair_at 1 + up pair_at (up b 16 + t)) 1))) + 8))

  abbrev pub job_at : ℕ
  job_at = max 8 (max txn_at (max view_at 1))

  abbrev pub reply_at : ℕ
  reply_at = max (max r 1) 1

  abbrev pub work_size : ℕ
  work_size = up (max job_at (max reply_at (max view_at 1))) (up view_at (up reply_at (up job_at 0 + up job_at (up view_at (up txn_at 16 + txn_size) + view_size)) + up reply_at (max (up r 1 + u) 1)) + view_size)

  abbrev pub serving_size : ℕ
  serving_size = up (max txn_at (max view_at 8)) (up 8 (up view_at (up txn_at 0 + txn_size) + view_size) + 40)

  -- a view is large
  pub much : 280 ≤ view_size
  much =
      let x1 = up-ge b 16 in
      let x2 = up-ge pair_at (up b 16 + t) in
      let x3 = up-ge pair_at 1 in
      let x4 = up-ge slot_at (max 1 (max (up pair_at 1 + up pair_at (up b 16 + t)) 1)) in
      let x5 = up-ge 8 (up slot_at 0 + 16 * up slot_at (max 1 (max (up pair_at 1 + up pair_at (up b 16 + t)) 1))) in
      let x6 = up-ge few_at (up 8 (up slot_at 0 + 16 * up slot_at (max 1 (max (up pair_at 1 + up pair_at (up b 16 + t)) 1))) + 8) in
      let x7 = up-ge view_at (up few_at 0 + up few_at (up 8 (up slot_at 0 + 16 * up slot_at (max 1 (max (up pair_at 1 + up pair_at (up b 16 + t)) 1))) + 8)) in
      enough t (up b 16) (up pair_at (up b 16 + t)) (up pair_at 1) (up slot_at (max 1 (max (up pair_at 1 + up pair_at (up b 16 + t)) 1))) (up slot_at 0) (up 8 (up slot_at 0 + 16 * up slot_at (max 1 (max (up pair_at 1 + up pair_at (up b 16 + t)) 1))))
      (up few_at 0) (up few_at (up 8 (up slot_at 0 + 16 * up slot_at (max 1 (max (up pair_at 1 + up pair_at (up b 16 + t)) 1))) + 8)) view_size x1 x2 x3 x4 x5 x6 x7
    where
      enough : (t p1 p2 p3 p4 p5 p6 p7 p8 p9 : ℕ) → 16 ≤ p1 → p1 + t ≤ p2 → 1 ≤ p3 → max 1 (max (p3 + p2) 1) ≤ p4 → p5 + 16 * p4 ≤ p6 → p6 + 8 ≤ p8 → p7 + p8 ≤ p9 → 280 ≤ p9
      enough t p1 p2 p3 p4 p5 p6 p7 p8 p9 h1 h2 h3 h4 h5 h6 h7 = omega arith

  -- what a request that begins answers: it has the request and a view, and in place of the writes only the numbers of partitions
  pub serving_fits : a ≤ 16 → b ≤ 16 → work_size < 2 ^ 63 → serving_size < 2 ^ 63
  serving_fits a16 b16 fits = within_work (max txn_at (max view_at 8)) txn_at view_at job_at reply_at (max job_at (max reply_at (max view_at 1))) txn_size view_size (up reply_at (max (up r 1 + u) 1)) view_size
      (omega arith) (omega (arith, a16, b16)) (omega arith) (omega (arith, a16)) (omega arith) (omega (arith, b16)) much fits
