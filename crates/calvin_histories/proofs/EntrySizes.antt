-- An entry fits in memory where a request fits there with what it sees and what came of it: besides a packet or a request it has
-- few bytes. What is said of a packet here is that of calvin_node_packets' proofs (PacketSizes), whose parts aren't public there,
-- with room for an entry's other bytes.
use Prim.Native.Nat.{ℕ, ◌+◌, ◌^◌, ◌<◌, ◌≤◌, max}
use mir.Syntax.{Ty}
use prog.Memory.{align, size, up}
use prog.Align.{up-ge}
use Rattle.std.proofs.Common.{arith}
use Rattle.calvin_sched.proofs.Sizes.{up_near, txn_at, pair_at, slot_at, few_at, view_at, job_at, reply_at, txn_size, view_size, work_size, much, align_most}

-- what a packet says, in few bytes more than a view or an answer, and an act, in few bytes more than a request
counted : (text shown given packet content view reply u1 u2 u3 u4 u5 u6 u7 z1 z2 z3 z4 z5 : ℕ) → packet ≤ 16 → content ≤ 16 → view ≤ 16 → reply ≤ 16 → 304 ≤ text → 280 ≤ shown
    → 16 ≤ u1 → u1 + text ≤ u2 → u2 + shown ≤ u4 → u3 + u4 ≤ u5 → u5 + given ≤ u6 → u6 + shown ≤ u7
    → z1 < 24 + view → z2 < 33 + reply → z3 < 12 + content → z4 < max 64 (max 32 (max 24 (max (z1 + shown) (max 24 (max 312 (max (z2 + given) 1)))))) + content → z5 < (z3 + z4) + packet → u7 < 2 ^ 63 → z5 + 100 < 2 ^ 63
counted text shown given packet content view reply u1 u2 u3 u4 u5 u6 u7 z1 z2 z3 z4 z5 k2 c2 v2 r2 long much h1 h2 h3 h4 h5 h6 y1 y2 y3 y4 y5 fits = omega arith

asked : (text shown given u1 u2 u3 u4 u5 u6 u7 : ℕ) → 280 ≤ shown → 16 ≤ u1 → u1 + text ≤ u2 → u2 + shown ≤ u4 → u3 + u4 ≤ u5 → u5 + given ≤ u6 → u6 + shown ≤ u7 → u7 < 2 ^ 63 → text + 200 < 2 ^ 63
asked text shown given u1 u2 u3 u4 u5 u6 u7 much h1 h2 h3 h4 h5 h6 fits = omega arith

-- either of them, with a name or a tag
joined : (text packed whole packet act at w1 w2 w3 w4 w5 : ℕ) → whole ≤ 16 → packet ≤ 16 → act ≤ 16 → at ≤ 16 → text + 200 < 2 ^ 63 → packed + 100 < 2 ^ 63
    → w1 < 24 + packet → w2 < 1 + act → w3 < 1 + at → w4 < max (w3 + text) (max (w3 + text) 26) + act → w5 < max (w2 + w4) (max (w1 + packed) 1) + whole → w5 < 2 ^ 63
joined text packed whole packet act at w1 w2 w3 w4 w5 a b c d long fits y1 y2 y3 y4 y5 = omega arith

two : (x y : ℕ) → x ≤ 16 → y ≤ 16 → max x y ≤ 16
two x y h k = omega (arith, h, k)

first : (x y : ℕ) → 0 < x → 0 < max x y
first x y h = omega (arith, h)

one : 1 ≤ 16
one = omega arith

four : 4 ≤ 16
four = omega arith

eight : 8 ≤ 16
eight = omega arith

module _ (a s b t r u : ℕ) where
  -- the alignments of what a packet says, of a packet, of an act and of an entry
  abbrev content_at : ℕ
  content_at = max 8 (max 8 (max 8 (max (max 8 (max (view_at a s b t r u) 1)) (max 8 (max 8 (max (max 8 (max 4 (max 1 (max (reply_at a s b t r u) 1)))) 1))))))

  abbrev packet_at : ℕ
  packet_at = max 1 (max 4 (max content_at 1))

  abbrev act_at : ℕ
  act_at = max (max (txn_at a s b t r u) 1) (max (max (txn_at a s b t r u) 1) 8)

  abbrev entry_at : ℕ
  entry_at = max (max act_at 1) (max (max 8 (max packet_at 1)) 1)

  -- the sizes of an answer, of what a packet says, of a packet, of an act and of an entry
  abbrev answer_size : ℕ
  answer_size = up (reply_at a s b t r u) (max (up r 1 + u) 1)

  abbrev content_size : ℕ
  content_size = up content_at (max 64 (max 32 (max 24 (max (up (view_at a s b t r u) 24 + view_size a s b t r u) (max 24 (max 312 (max (up (reply_at a s b t r u) 33 + answer_size) 1)))))))

  abbrev packet_size : ℕ
  packet_size = up packet_at (up content_at 12 + content_size)

  abbrev act_size : ℕ
  act_size = up act_at (max (up (txn_at a s b t r u) 1 + txn_size a s b t r u) (max (up (txn_at a s b t r u) 1 + txn_size a s b t r u) 26))

  abbrev pub entry_size : ℕ
  entry_size = up entry_at (max (up act_at 1 + act_size) (max (up packet_at 24 + packet_size) 1))

  long : 304 ≤ txn_size a s b t r u
  long = let x = up-ge (txn_at a s b t r u) (up 8 (up a 9 + s) + 304) in reached (up 8 (up a 9 + s)) (txn_size a s b t r u) x
    where
      reached : (x y : ℕ) → x + 304 ≤ y → 304 ≤ y
      reached x y h = omega arith

  view_most : b ≤ 16 → view_at a s b t r u ≤ 16
  view_most h = two (few_at a s b t r u) 1 (two (slot_at a s b t r u) 8 (two 1 (max (max (pair_at a s b t r u) 1) 1) one (two (max (pair_at a s b t r u) 1) 1 (two (pair_at a s b t r u) 1 (two 8 (max b 1) eight (two b 1 h one)) one) one)) eight) one

  reply_most : r ≤ 16 → reply_at a s b t r u ≤ 16
  reply_most h = two (max r 1) 1 (two r 1 h one) one

  txn_most : a ≤ 16 → txn_at a s b t r u ≤ 16
  txn_most h = two 4 _ four (two 1 _ one (two a 8 h eight))

  content_most : view_at a s b t r u ≤ 16 → reply_at a s b t r u ≤ 16 → content_at ≤ 16
  content_most v w = two 8 _ eight (two 8 _ eight (two 8 _ eight (two (max 8 (max (view_at a s b t r u) 1)) _ (two 8 _ eight (two (view_at a s b t r u) 1 v one))
      (two 8 _ eight (two 8 _ eight (two (max 8 (max 4 (max 1 (max (reply_at a s b t r u) 1)))) 1 (two 8 _ eight (two 4 _ four (two 1 _ one (two (reply_at a s b t r u) 1 w one)))) one))))))

  view_some : 0 < view_at a s b t r u
  view_some = first (few_at a s b t r u) 1 (first (slot_at a s b t r u) 8 (first 1 _ (omega arith)))

  reply_some : (x : ℕ) → 0 < max x 1
  reply_some x = omega arith

  pub entry_fits : a ≤ 16 → b ≤ 16 → r ≤ 16 → work_size a s b t r u < 2 ^ 63 → entry_size < 2 ^ 63
  entry_fits a16 b16 r16 fits =
      let v = view_most b16 in
      let w = reply_most r16 in
      let k = content_most v w in
      let q = txn_most a16 in
      let p : packet_at ≤ 16 = two 1 _ one (two 4 _ four (two content_at 1 k one)) in
      let c : act_at ≤ 16 = two (max (txn_at a s b t r u) 1) _ (two (txn_at a s b t r u) 1 q one) (two (max (txn_at a s b t r u) 1) 8 (two (txn_at a s b t r u) 1 q one) eight) in
      let e : entry_at ≤ 16 = two (max act_at 1) _ (two act_at 1 c one) (two (max 8 (max packet_at 1)) 1 (two 8 _ eight (two packet_at 1 p one)) one) in
      let whole = max (job_at a s b t r u) (max (reply_at a s b t r u) (max (view_at a s b t r u) 1)) in
      let at = txn_at a s b t r u in
      let view = view_at a s b t r u in
      let job = job_at a s b t r u in
      let reply = reply_at a s b t r u in
      let text = txn_size a s b t r u in
      let shown = view_size a s b t r u in
      let x1 = up-ge at 16 in
      let x2 = up-ge view (up at 16 + text) in
      let x3 = up-ge job (up view (up at 16 + text) + shown) in
      let x4 = up-ge reply (up job 0 + up job (up view (up at 16 + text) + shown)) in
      let x5 = up-ge view (up reply (up job 0 + up job (up view (up at 16 + text) + shown)) + answer_size) in
      let x6 = up-ge whole (up view (up reply (up job 0 + up job (up view (up at 16 + text) + shown)) + answer_size) + shown) in
      let y1 = up_near view 24 view_some in
      let y2 = up_near reply 33 (reply_some (max r 1)) in
      let y3 = up_near content_at 12 (first 8 _ (omega arith)) in
      let y4 = up_near content_at (max 64 (max 32 (max 24 (max (up view 24 + shown) (max 24 (max 312 (max (up reply 33 + answer_size) 1))))))) (first 8 _ (omega arith)) in
      let y5 = up_near packet_at (up content_at 12 + content_size) (first 1 _ (omega arith)) in
      joined text packet_size entry_at packet_at act_at at (up packet_at 24) (up act_at 1) (up at 1) act_size entry_size e p c q
      (asked text shown answer_size (up at 16) (up view (up at 16 + text)) (up job 0) (up job (up view (up at 16 + text) + shown)) (up reply (up job 0 + up job (up view (up at 16 + text) + shown)))
      (up view (up reply (up job 0 + up job (up view (up at 16 + text) + shown)) + answer_size)) (up whole (up view (up reply (up job 0 + up job (up view (up at 16 + text) + shown)) + answer_size) + shown))
      (much a s b t r u) x1 x2 x3 x4 x5 x6 fits)
      (counted text shown answer_size packet_at content_at view reply (up at 16) (up view (up at 16 + text)) (up job 0) (up job (up view (up at 16 + text) + shown)) (up reply (up job 0 + up job (up view (up at 16 + text) + shown)))
      (up view (up reply (up job 0 + up job (up view (up at 16 + text) + shown)) + answer_size)) (up whole (up view (up reply (up job 0 + up job (up view (up at 16 + text) + shown)) + answer_size) + shown))
      (up view 24) (up reply 33) (up content_at 12) content_size packet_size p k v w long (much a s b t r u) x1 x2 x3 x4 x5 x6 y1 y2 y3 y4 y5 fits)
      (up_near packet_at 24 (first 1 _ (omega arith))) (up_near act_at 1 (first (max at 1) _ (reply_some at))) (up_near at 1 (first 4 _ (omega arith)))
      (up_near act_at (max (up at 1 + text) (max (up at 1 + text) 26)) (first (max at 1) _ (reply_some at)))
      (up_near entry_at (max (up act_at 1 + act_size) (max (up packet_at 24 + packet_size) 1)) (first (max act_at 1) _ (reply_some act_at)))

-- the same of the types of arguments, rows and replies
module _ (args row reply : Ty) (fits : work_size (align args) (size args) (align row) (size row) (align reply) (size reply) < 2 ^ 63) where
  pub an_entry : entry_size (align args) (size args) (align row) (size row) (align reply) (size reply) < 2 ^ 63
  an_entry = entry_fits (align args) (size args) (align row) (size row) (align reply) (size reply) (align_most args) (align_most row) (align_most reply) fits
