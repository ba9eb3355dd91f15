-- What the calls of a sequencer in code make of its data.
use Rattle.std.proofs.Common.{◌≡◌, ℕ, zero, suc, ◌+◌, ◌<◌, ◌≤◌, Bool, true, false, cond, not, List, [], ◌∷◌, ◌++◌, take, drop, length, nat_lt, nat_le, Option, Some, None, is_some, Ok, refl, sym, ap, subst, ◌∙◌, arith, length-append}
use Rattle.std.specs.Prelude.{◌&&◌, ◌||◌, nat_eq}
use Rattle.std.specs.List.{list_any, filter}
use Rattle.std.specs.Option.{unwrap_or}
use Rattle.std.proofs.lemmas.Bool.{false≢true, and_parts}
use Rattle.std.proofs.lemmas.List.{take-append-drop}
use Rattle.calvin_types.specs.declared.fault.Fault.TheVariants.{EpochsSpent}
use Rattle.calvin_types.specs.declared.limits.TheConstants.{MOST_REQUESTS, MOST_UNDECIDED, MOST_EPOCHS}
use Rattle.calvin_types.specs.declared.txn.Txn.{Txn}
use Rattle.calvin_order.specs.declared.held_back.ColdRequest.{ColdRequest}
use Rattle.calvin_types.specs.Deeds.{Does, Refuses, Did}
use Rattle.calvin_order.specs.Keeping.{held_of, InTurn, Sequenced, sequencing_of, closed_len, can_decide, IsSequenced}
use Rattle.calvin_order.specs.Merged.{Batch}
use Rattle.calvin_order.specs.Sequencing.{Sequencing, closed_in, is_decided, is_used, next_epoch, undecided, load, same_attempt, left_over, ripe, unripe, ripened, ticked, delayed, closing, close}
use Rattle.calvin_order.proofs.NextEpochs.{next_unused}
use Rattle.calvin_order.proofs.Histories.{undecided_more, unused_parts}
use Rattle.calvin_order.proofs.HoldingBack.{turn_up, ticked_held, held_more, length-held, length-parts}

module _ {Args : Type 0} where
  none_made : (h : Sequencing Args) (q : Batch Args) (hs : List (ColdRequest Args)) → load (sequencing_of h q hs) ≤ MOST_UNDECIDED → InTurn 0 (length h.closed) hs → IsSequenced h q hs None
  none_made h q hs few in_turn = record { few = few; made = λ batch m. absurd (false≢true (ap is_some m)); in_turn = in_turn }

  -- ---- requests that are held back join the queue

  -- what joining makes of the queue and the requests held back, once so many batches are closed
  pub record Joined (delay n : ℕ) (q q' : Batch Args) (hs hs' : List (ColdRequest Args)) : Type 0 where
    pub queue : q' ≡ q ++ ripe delay (held_of n hs)
    pub held : held_of n hs' ≡ unripe delay (held_of n hs)
    pub in_turn : InTurn 0 n hs'

  joined_is : (h : Sequencing Args) (q q' : Batch Args) (hs hs' : List (ColdRequest Args)) (delay : ℕ) → Joined delay (length h.closed) q q' hs hs' → sequencing_of h q' hs' ≡ ripened delay (sequencing_of h q hs)
  joined_is h q q' hs hs' delay j =
      ap (λ l. record (sequencing_of h q hs) { queue = l; held_back = held_of (length h.closed) hs' }) j.queue
      ∙ ap (λ l. record (sequencing_of h q hs) { queue = q ++ ripe delay (held_of (length h.closed) hs); held_back = l }) j.held

  ripened_load : (delay : ℕ) (s : Sequencing Args) → load (ripened delay s) ≡ load s
  ripened_load delay s = let len = length-append s.queue (ripe delay s.held_back) in let parts = length-parts delay s.held_back in omega (arith, len, parts)

  joined_sequenced : (h : Sequencing Args) (q q' : Batch Args) (hs hs' : List (ColdRequest Args)) (delay : ℕ) → Joined delay (length h.closed) q q' hs hs' → load (sequencing_of h q hs) ≤ MOST_UNDECIDED → IsSequenced h q' hs' None
  joined_sequenced h q q' hs hs' delay j few = none_made h q' hs' (let same = ap load (joined_is h q q' hs hs' delay j) ∙ ripened_load delay (sequencing_of h q hs) in omega (arith, same, few)) j.in_turn

  -- ---- a request that is held back

  delayed_is : (h : Sequencing Args) (q : Batch Args) (hs : List (ColdRequest Args)) (c : ColdRequest Args) → c.since ≡ length h.closed → sequencing_of h q (hs ++ c ∷ []) ≡ delayed c.txn (sequencing_of h q hs)
  delayed_is h q hs c since = ap (λ l. record (sequencing_of h q hs) { held_back = l }) (held_more (length h.closed) hs c since)

  pub cold_is : (h : Sequencing Args) (q q' : Batch Args) (hs more hs' : List (ColdRequest Args)) (c : ColdRequest Args) (delay : ℕ) → c.since ≡ length h.closed → more ≡ hs ++ c ∷ [] → Joined delay (length h.closed) q q' more hs'
      → sequencing_of h q' hs' ≡ ripened delay (delayed c.txn (sequencing_of h q hs))
  cold_is h q q' hs more hs' c delay since is j = joined_is h q q' more hs' delay j ∙ ap (ripened delay) (ap (sequencing_of h q) is ∙ delayed_is h q hs c since)

  pub cold_sequenced : (h : Sequencing Args) (q q' : Batch Args) (hs more hs' : List (ColdRequest Args)) (c : ColdRequest Args) (delay : ℕ) → c.since ≡ length h.closed → more ≡ hs ++ c ∷ [] → Joined delay (length h.closed) q q' more hs'
      → load (sequencing_of h q hs) < MOST_UNDECIDED → IsSequenced h q' hs' None
  cold_sequenced h q q' hs more hs' c delay since is j few = joined_sequenced h q q' more hs' delay j (subst (λ l. load (sequencing_of h q l) ≤ MOST_UNDECIDED) (sym is)
      (let all = ap load (delayed_is h q hs c since) in let len = length-append (held_of (length h.closed) hs) (record { request = c.txn; closings = 0 } ∷ []) in omega (arith, all, len, few)))

  -- ---- closing

  parts_len : (q : Batch Args) → length (take MOST_REQUESTS q) + length (drop MOST_REQUESTS q) ≡ length q
  parts_len q = sym (length-append (take MOST_REQUESTS q) (drop MOST_REQUESTS q)) ∙ ap length (take-append-drop MOST_REQUESTS q)

  -- the queue without its front
  pub rest_is : (q : Batch Args) (n : ℕ) → n ≡ length (take MOST_REQUESTS q) → drop n q ≡ drop MOST_REQUESTS q
  rest_is q n is = ap (λ k. drop k q) is ∙ taken MOST_REQUESTS q
    where
      taken : (k : ℕ) (xs : Batch Args) → drop (length (take k xs)) xs ≡ drop k xs
      taken zero xs = refl
      taken (suc k) [] = refl
      taken (suc k) (x ∷ xs) = taken k xs

  closed_len_more : (h : Sequencing Args) (e : ℕ) (batch : Batch Args) → length (h.closed ++ (e, batch) ∷ []) ≡ suc (length h.closed)
  closed_len_more h e batch = length-append h.closed ((e, batch) ∷ []) ∙ omega arith

  -- the history with one more batch, and the queue without it, are the sequencer once the batch is closed and each closing counted
  ticked_is : (h : Sequencing Args) (q : Batch Args) (hs : List (ColdRequest Args)) (e : ℕ) → e ≡ next_epoch h → InTurn 0 (length h.closed) hs
      → sequencing_of (record h { closed = h.closed ++ (e, take MOST_REQUESTS q) ∷ [] }) (drop MOST_REQUESTS q) hs ≡ ticked (closing (sequencing_of h q hs))
  ticked_is h q hs e at in_turn =
      ap (λ l. record (sequencing_of (record h { closed = h.closed ++ (e, take MOST_REQUESTS q) ∷ [] }) (drop MOST_REQUESTS q) hs) { held_back = l })
      (ap (λ n. held_of n hs) (closed_len_more h e (take MOST_REQUESTS q)) ∙ ticked_held 0 (length h.closed) hs in_turn)
      ∙ ap (λ n. record (ticked (closing (sequencing_of h q hs))) { closed = h.closed ++ (n, take MOST_REQUESTS q) ∷ [] }) at

  -- what closing makes of the parts that are kept
  pub record Closes (delay e : ℕ) (h h' : Sequencing Args) (q rest q' : Batch Args) (hs hs' : List (ColdRequest Args)) : Type 0 where
    pub at : e ≡ next_epoch h
    pub history : h' ≡ record h { closed = h.closed ++ (e, take MOST_REQUESTS q) ∷ [] }
    pub taken : rest ≡ drop MOST_REQUESTS q
    pub joined : Joined delay (length h'.closed) rest q' hs hs'

  closed_is : (h h' : Sequencing Args) (q rest q' : Batch Args) (hs hs' : List (ColdRequest Args)) (delay e : ℕ) → Closes delay e h h' q rest q' hs hs' → InTurn 0 (length h.closed) hs
      → sequencing_of h' q' hs' ≡ ripened delay (ticked (closing (sequencing_of h q hs)))
  closed_is h h' q rest q' hs hs' delay e c in_turn =
      joined_is h' rest q' hs hs' delay c.joined
      ∙ ap (ripened delay) (ap (λ k. sequencing_of k rest hs) c.history ∙ ap (λ l. sequencing_of (record h { closed = h.closed ++ (e, take MOST_REQUESTS q) ∷ [] }) l hs) c.taken ∙ ticked_is h q hs e c.at in_turn)

  -- the requests held back that a closing finds
  pub turn_closed : (h h' : Sequencing Args) (e : ℕ) (batch : Batch Args) (hs : List (ColdRequest Args)) → h' ≡ record h { closed = h.closed ++ (e, batch) ∷ [] } → InTurn 0 (length h.closed) hs → InTurn 0 (length h'.closed) hs
  turn_closed h h' e batch hs is in_turn = turn_up 0 (length h.closed) (length h'.closed) hs (let more = ap (λ (k : Sequencing Args). length k.closed) is ∙ closed_len_more h e batch in omega (arith, more)) in_turn

  pub closed_sequenced : (h h' : Sequencing Args) (q rest q' : Batch Args) (hs hs' : List (ColdRequest Args)) (delay e : ℕ) → Closes delay e h h' q rest q' hs hs' → InTurn 0 (length h.closed) hs
      → load (sequencing_of h q hs) ≤ MOST_UNDECIDED → IsSequenced h' q' hs' None
  closed_sequenced h h' q rest q' hs hs' delay e c in_turn few =
      let open_yet = (unused_parts h e (ap (is_used h) c.at ∙ next_unused h)).1 in
      let more = undecided_more (is_decided h) h.closed e (take MOST_REQUESTS q) open_yet in
      let parts = parts_len q in
      let kept = length-held (length h.closed) hs in
      let still = length-held (length (h.closed ++ (e, take MOST_REQUESTS q) ∷ [])) hs in
      joined_sequenced h' rest q' hs hs' delay c.joined
      (subst (λ l. load (sequencing_of h' l hs) ≤ MOST_UNDECIDED) (sym c.taken)
      (subst (λ k. load (sequencing_of k (drop MOST_REQUESTS q) hs) ≤ MOST_UNDECIDED) (sym c.history)
      (omega (arith, more, parts, kept, still, few))))

  pub closed_did : (grows : Bool) (h h' : Sequencing Args) (q rest q' : Batch Args) (hs hs' : List (ColdRequest Args)) (delay e : ℕ) → Closes delay e h h' q rest q' hs hs' → InTurn 0 (length h.closed) hs → e < MOST_EPOCHS
      → Did grows (Ok e) (close delay (sequencing_of h q hs)) (sequencing_of h q hs) (sequencing_of h' q' hs')
  closed_did grows h h' q rest q' hs hs' delay e c in_turn low = go (nat_lt (next_epoch h) MOST_EPOCHS) refl
    where
      go : (b : Bool) → nat_lt (next_epoch h) MOST_EPOCHS ≡ b
          → Did grows (Ok e) (cond b (Does (ripened delay (ticked (closing (sequencing_of h q hs)))) (next_epoch h)) (Refuses EpochsSpent)) (sequencing_of h q hs) (sequencing_of h' q' hs')
      go true less = (c.at, closed_is h h' q rest q' hs hs' delay e c in_turn)
      go false less = let at = c.at in absurd (false≢true (sym less ∙ grind (arith, at, low)))

  -- ---- an epoch is decided

  kept_short : (p : Txn Args → Bool) (xs : Batch Args) → length (filter p xs) ≤ length xs
  kept_short p [] = omega arith
  kept_short p (x ∷ xs) = go (p x) (kept_short p xs)
    where
      go : (b : Bool) → length (filter p xs) ≤ length xs → length (cond b (x ∷ filter p xs) (filter p xs)) ≤ suc (length xs)
      go true less = omega (arith, less)
      go false less = omega (arith, less)

  left_short : (o : Option (Batch Args)) (batch : Batch Args) → length (left_over o batch) ≤ length (unwrap_or o [])
  left_short None batch = omega arith
  left_short (Some closed) batch = kept_short (λ t. not (list_any (same_attempt t) batch)) closed

  -- what being told that an epoch is decided does to the count
  abbrev pub Settles : Sequencing Args → ℕ → Type 0
  Settles s e = undecided (λ f. list_any (nat_eq f) (s.decided ++ e ∷ [])) s.closed + closed_len s.closed e ≡ undecided (is_decided s) s.closed

  pub decided_sequenced : (h h' : Sequencing Args) (q q' : Batch Args) (hs : List (ColdRequest Args)) (e : ℕ) (batch : Batch Args) → Settles h e → h' ≡ record h { decided = h.decided ++ e ∷ [] } → q' ≡ left_over (closed_in h.closed e) batch ++ q
      → load (sequencing_of h q hs) ≤ MOST_UNDECIDED → InTurn 0 (length h.closed) hs → IsSequenced h' q' hs None
  decided_sequenced h h' q q' hs e batch settles is back few in_turn =
      let short = left_short (closed_in h.closed e) batch in
      let len = length-append (left_over (closed_in h.closed e) batch) q in
      subst (λ l. IsSequenced h' l hs None) (sym back)
      (subst (λ k. IsSequenced k (left_over (closed_in h.closed e) batch ++ q) hs None) (sym is)
      (none_made (record h { decided = h.decided ++ e ∷ [] }) (left_over (closed_in h.closed e) batch ++ q) hs (omega (arith, short, len, settles, few)) in_turn))

  -- the requests that were closed for it have room in the queue
  pub decided_room : (s : Sequenced Args) (e : ℕ) → is_decided s.sequencing e ≡ false → can_decide s e ≡ true → closed_len s.sequencing.closed e ≤ s.queue_room
  decided_room s e new can =
      let fits = (and_parts (nat_lt 0 s.decided_room) (nat_le (closed_len s.sequencing.closed e) s.queue_room) (sym (ap (λ b. b || (nat_lt 0 s.decided_room && nat_le (closed_len s.sequencing.closed e) s.queue_room)) new) ∙ can)).1 in
      grind (arith, fits)
