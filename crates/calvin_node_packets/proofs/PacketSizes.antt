-- A packet fits in memory where a request fits there with what it sees and what came of it: besides a view or an answer it has
-- few bytes.
use Prim.Native.Nat.{ℕ, ◌+◌, ◌^◌, ◌<◌, ◌≤◌, max}
use mir.Syntax.{Ty}
use prog.Memory.{align, size, up}
use prog.Align.{up-ge}
use Rattle.std.proofs.Common.{◌≡◌, subst, arith}
use Rattle.calvin_sched.proofs.Sizes.{up_near, txn_at, pair_at, slot_at, few_at, view_at, job_at, reply_at, txn_size, view_size, work_size, much, align_most}

-- a view or an answer, and at most 400 bytes
within : (packet content at view reply job whole text shown given : ℕ) → 0 < packet → packet ≤ 16 → 0 < content → content ≤ 16 → 0 < view → view ≤ 16 → 0 < reply → reply ≤ 16 → 304 ≤ text → 280 ≤ shown
    → up whole (up view (up reply (up job 0 + up job (up view (up at 16 + text) + shown)) + given) + shown) < 2 ^ 63
    → up packet (up content 12 + up content (max 64 (max 32 (max 24 (max (up view 24 + shown) (max 24 (max 312 (max (up reply 33 + given) 1)))))))) < 2 ^ 63
within packet content at view reply job whole text shown given k1 k2 c1 c2 v1 v2 r1 r2 long much fits =
    let x1 = up-ge at 16 in
    let x2 = up-ge view (up at 16 + text) in
    let x3 = up-ge job (up view (up at 16 + text) + shown) in
    let x4 = up-ge reply (up job 0 + up job (up view (up at 16 + text) + shown)) in
    let x5 = up-ge view (up reply (up job 0 + up job (up view (up at 16 + text) + shown)) + given) in
    let x6 = up-ge whole (up view (up reply (up job 0 + up job (up view (up at 16 + text) + shown)) + given) + shown) in
    let y1 = up_near view 24 v1 in
    let y2 = up_near reply 33 r1 in
    let y3 = up_near content 12 c1 in
    let y4 = up_near content (max 64 (max 32 (max 24 (max (up view 24 + shown) (max 24 (max 312 (max (up reply 33 + given) 1))))))) c1 in
    let y5 = up_near packet (up content 12 + up content (max 64 (max 32 (max 24 (max (up view 24 + shown) (max 24 (max 312 (max (up reply 33 + given) 1)))))))) k1 in
    counted text shown given packet content view reply (up at 16) (up view (up at 16 + text)) (up job 0) (up job (up view (up at 16 + text) + shown)) (up reply (up job 0 + up job (up view (up at 16 + text) + shown)))
    (up view (up reply (up job 0 + up job (up view (up at 16 + text) + shown)) + given)) (up whole (up view (up reply (up job 0 + up job (up view (up at 16 + text) + shown)) + given) + shown))
    (up view 24) (up reply 33) (up content 12) (up content (max 64 (max 32 (max 24 (max (up view 24 + shown) (max 24 (max 312 (max (up reply 33 + given) 1))))))))
    (up packet (up content 12 + up content (max 64 (max 32 (max 24 (max (up view 24 + shown) (max 24 (max 312 (max (up reply 33 + given) 1)))))))))
    k2 c2 v2 r2 long much x1 x2 x3 x4 x5 x6 y1 y2 y3 y4 y5 fits
  where
    counted : (text shown given packet content view reply u1 u2 u3 u4 u5 u6 u7 z1 z2 z3 z4 z5 : ℕ) → packet ≤ 16 → content ≤ 16 → view ≤ 16 → reply ≤ 16 → 304 ≤ text → 280 ≤ shown
        → 16 ≤ u1 → u1 + text ≤ u2 → u2 + shown ≤ u4 → u3 + u4 ≤ u5 → u5 + given ≤ u6 → u6 + shown ≤ u7
        → z1 < 24 + view → z2 < 33 + reply → z3 < 12 + content → z4 < max 64 (max 32 (max 24 (max (z1 + shown) (max 24 (max 312 (max (z2 + given) 1)))))) + content → z5 < (z3 + z4) + packet → u7 < 2 ^ 63 → z5 < 2 ^ 63
    counted text shown given packet content view reply u1 u2 u3 u4 u5 u6 u7 z1 z2 z3 z4 z5 k2 c2 v2 r2 long much h1 h2 h3 h4 h5 h6 y1 y2 y3 y4 y5 fits = omega arith

two : (x y : ℕ) → x ≤ 16 → y ≤ 16 → max x y ≤ 16
two x y h k = omega (arith, h, k)

first : (x y : ℕ) → 0 < x → 0 < max x y
first x y h = omega (arith, h)

one : 1 ≤ 16
one = omega arith

four : 4 ≤ 16
four = omega arith

eight : 8 ≤ 16
eight = omega arith

module _ (a s b t r u : ℕ) where
  -- the alignments of what a packet says, and of a packet
  abbrev content_at : ℕ
  content_at = max 8 (max 8 (max 8 (max (max 8 (max (view_at a s b t r u) 1)) (max 8 (max 8 (max (max 8 (max 4 (max 1 (max (reply_at a s b t r u) 1)))) 1))))))

  abbrev packet_at : ℕ
  packet_at = max 1 (max 4 (max content_at 1))

  -- the size of an answer
  abbrev answer_size : ℕ
  answer_size = up (reply_at a s b t r u) (max (up r 1 + u) 1)

  abbrev pub packet_size : ℕ
  packet_size = up packet_at (up content_at 12 + up content_at (max 64 (max 32 (max 24 (max (up (view_at a s b t r u) 24 + view_size a s b t r u) (max 24 (max 312 (max (up (reply_at a s b t r u) 33 + answer_size) 1))))))))

  abbrev pub content_size : ℕ
  content_size = up content_at (max 64 (max 32 (max 24 (max (up (view_at a s b t r u) 24 + view_size a s b t r u) (max 24 (max 312 (max (up (reply_at a s b t r u) 33 + answer_size) 1)))))))

  long : 304 ≤ txn_size a s b t r u
  long = let x = up-ge (txn_at a s b t r u) (up 8 (up a 9 + s) + 304) in reached (up 8 (up a 9 + s)) (txn_size a s b t r u) x
    where
      reached : (x y : ℕ) → x + 304 ≤ y → 304 ≤ y
      reached x y h = omega arith

  view_most : b ≤ 16 → view_at a s b t r u ≤ 16
  view_most h = two (few_at a s b t r u) 1 (two (slot_at a s b t r u) 8 (two 1 (max (max (pair_at a s b t r u) 1) 1) one (two (max (pair_at a s b t r u) 1) 1 (two (pair_at a s b t r u) 1 (two 8 (max b 1) eight (two b 1 h one)) one) one)) eight) one

  reply_most : r ≤ 16 → reply_at a s b t r u ≤ 16
  reply_most h = two (max r 1) 1 (two r 1 h one) one

  content_most : view_at a s b t r u ≤ 16 → reply_at a s b t r u ≤ 16 → content_at ≤ 16
  content_most v w = two 8 _ eight (two 8 _ eight (two 8 _ eight (two (max 8 (max (view_at a s b t r u) 1)) _ (two 8 _ eight (two (view_at a s b t r u) 1 v one))
      (two 8 _ eight (two 8 _ eight (two (max 8 (max 4 (max 1 (max (reply_at a s b t r u) 1)))) 1 (two 8 _ eight (two 4 _ four (two 1 _ one (two (reply_at a s b t r u) 1 w one)))) one))))))

  view_some : 0 < view_at a s b t r u
  view_some = first (few_at a s b t r u) 1 (first (slot_at a s b t r u) 8 (first 1 _ (omega arith)))

  reply_some : (x : ℕ) → 0 < max x 1
  reply_some x = omega arith

  pub packet_fits : b ≤ 16 → r ≤ 16 → work_size a s b t r u < 2 ^ 63 → packet_size < 2 ^ 63
  packet_fits b16 r16 fits =
      let v = view_most b16 in
      let w = reply_most r16 in
      let k = content_most v w in
      within packet_at content_at (txn_at a s b t r u) (view_at a s b t r u) (reply_at a s b t r u) (job_at a s b t r u) (max (job_at a s b t r u) (max (reply_at a s b t r u) (max (view_at a s b t r u) 1)))
      (txn_size a s b t r u) (view_size a s b t r u) answer_size
      (first 1 _ (omega arith)) (two 1 _ one (two 4 _ four (two content_at 1 k one))) (first 8 _ (omega arith)) k view_some v (reply_some (max r 1)) w long (much a s b t r u) fits

  -- what it says where it lies in an outbox, which holds no batch
  abbrev pub sent_size : ℕ
  sent_size = up content_at (max 16 (max 32 (max 24 (max (up (view_at a s b t r u) 24 + view_size a s b t r u) (max 24 (max 312 (max (up (reply_at a s b t r u) 33 + answer_size) 1)))))))

  -- what it says is a part of it
  pub content_fits : b ≤ 16 → r ≤ 16 → work_size a s b t r u < 2 ^ 63 → content_size < 2 ^ 63
  content_fits b16 r16 fits = let h = up-ge packet_at (up content_at 12 + content_size) in smaller (up content_at 12) content_size packet_size h (packet_fits b16 r16 fits)
    where
      smaller : (x y z : ℕ) → x + y ≤ z → z < 2 ^ 63 → y < 2 ^ 63
      smaller x y z h k = omega arith

  -- and no less than where it lies in an outbox
  pub sent_fits : b ≤ 16 → r ≤ 16 → work_size a s b t r u < 2 ^ 63 → sent_size < 2 ^ 63
  sent_fits b16 r16 fits = as_much content_at (up (view_at a s b t r u) 24 + view_size a s b t r u) (up (reply_at a s b t r u) 33 + answer_size) (content_fits b16 r16 fits)
    where
      same : (x y : ℕ) → max 64 (max 32 (max 24 (max x (max 24 (max 312 (max y 1)))))) ≡ max 16 (max 32 (max 24 (max x (max 24 (max 312 (max y 1))))))
      same x y = omega arith

      as_much : (k x y : ℕ) → up k (max 64 (max 32 (max 24 (max x (max 24 (max 312 (max y 1))))))) < 2 ^ 63 → up k (max 16 (max 32 (max 24 (max x (max 24 (max 312 (max y 1))))))) < 2 ^ 63
      as_much k x y h = subst (λ (e : ℕ). up k e < 2 ^ 63) (same x y) h

-- the same of the types of arguments, rows and replies
module _ (args row reply : Ty) (fits : work_size (align args) (size args) (align row) (size row) (align reply) (size reply) < 2 ^ 63) where
  pub packet_of : packet_size (align args) (size args) (align row) (size row) (align reply) (size reply) < 2 ^ 63
  packet_of = packet_fits (align args) (size args) (align row) (size row) (align reply) (size reply) (align_most row) (align_most reply) fits

  pub content_of : content_size (align args) (size args) (align row) (size row) (align reply) (size reply) < 2 ^ 63
  content_of = content_fits (align args) (size args) (align row) (size row) (align reply) (size reply) (align_most row) (align_most reply) fits

  pub sent_of : sent_size (align args) (size args) (align row) (size row) (align reply) (size reply) < 2 ^ 63
  sent_of = sent_fits (align args) (size args) (align row) (size row) (align reply) (size reply) (align_most row) (align_most reply) fits
