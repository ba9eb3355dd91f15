-- The queues of all keys, where that of one key changes.
use Rattle.std.proofs.Common.{◌≡◌, ◌==◌, ◌++◌, ℕ, ◌+◌, Bool, true, false, cond, List, [], ◌∷◌, length, Option, Some, None, MatchOption, slice_get, take, refl, sym, ap, subst, ◌∙◌, arith, deque_len, length-append}
use Rattle.std.proofs.lemmas.Bool.{false≢true}
use Rattle.std.proofs.lemmas.Option.{none-some, same_Some}
use Rattle.std.specs.List.{IsDistinct}
use Rattle.std.specs.Map.{keys_of}
use Rattle.calvin_types.specs.declared.key.Key.{Key}
use Rattle.calvin_types.specs.declared.place.Place.{Place}
use Rattle.calvin_types.specs.Keys.{has, rises}
use Rattle.calvin_types.specs.SameKeys.{equal_keys}
use Rattle.calvin_types.specs.SameKeysLaws.{equal_keys_exact, equal_keys_self}
use Rattle.calvin_lock.specs.declared.queue.Kind.{Kind}
use Rattle.calvin_lock.specs.declared.queue.Kind.TheVariants as kind
use Rattle.calvin_lock.specs.declared.queue.Holders.{Holders}
use Rattle.calvin_lock.specs.declared.queue.Holders.TheVariants.{Shared, Exclusive}
use Rattle.calvin_lock.specs.declared.queue.Ask.{Ask}
use Rattle.calvin_lock.specs.declared.queue.Queue.{Queue}
use Rattle.calvin_lock.specs.Queues.{admits, ask_if, asked, holder_count, AreHolders, IsQueueOf, IsSettled, IsQueueAt, queue_at, waits_in, AreQueuesOrEmpty, AreQueues, NoneIsEmpty, NoneIsNew, HasRoom, HasRoomAt, Fits, AllFit, Leaves, LeavesAt, without_holder}
use Rattle.calvin_lock.proofs.AskedKeys.{asked_before, asked_now, asked_other}
use Rattle.calvin_lock.proofs.QueueLists.{no_asks, append_none, zero_count, left}

-- the same for each key
pub same_asks : (asks others : Key → List Ask) (es : List (Key × Queue)) → ((k : Key) → asks k ≡ others k) → AreQueuesOrEmpty asks es → AreQueuesOrEmpty others es
same_asks asks others es same q = record { at = λ k. subst (λ l. IsQueueAt l (queue_at es k)) (same k) (q.at k); distinct = q.distinct }

-- the same queue, with more room
pub same_queue : (asks : List Ask) (v w : Queue) → w.holders ≡ v.holders → w.waiting.items ≡ v.waiting.items → deque_len w.waiting ≡ deque_len v.waiting → IsQueueAt asks (Some v) → IsQueueAt asks (Some w)
same_queue asks v w holders items len (queue, settled, fits) = (
  subst (λ h. IsQueueOf asks h w.waiting.items) (sym holders) (subst (IsQueueOf asks v.holders) (sym items) queue),
  subst (λ h. IsSettled h w.waiting.items) (sym holders) (subst (IsSettled v.holders) (sym items) settled),
  (let count = ap holder_count holders in omega (arith, count, len, fits)),
)

-- a free queue is empty
no_waiting : (h : Holders) (waiting : List Ask) → admits h kind.Exclusive ≡ true → IsSettled h waiting → waiting ≡ []
no_waiting h [] free settled = refl
no_waiting h (a ∷ waiting) free settled = absurd (false≢true (sym settled ∙ all h a.kind free))
  where
    all : (g : Holders) (k : Kind) → admits g kind.Exclusive ≡ true → admits g k ≡ true
    all (Shared n) kind.Shared is = refl
    all (Shared n) kind.Exclusive is = is
    all Exclusive k is = absurd (false≢true is)

pub free_none : (v : Queue) → admits v.holders kind.Exclusive ≡ true → IsSettled v.holders v.waiting.items → (q : Place) → waits_in q v.waiting.items ≡ 0
free_none v free settled q = ap (waits_in q) (no_waiting v.holders v.waiting.items free settled)

pub free_empty : (asks : List Ask) (v : Queue) → admits v.holders kind.Exclusive ≡ true → IsQueueAt asks (Some v) → asks ≡ []
free_empty asks v free (queue, settled, fits) = queue.split ∙ ap (λ l. queue.held ++ l) (no_waiting v.holders v.waiting.items free settled) ∙ append_none queue.held ∙ unheld v.holders queue.held free queue.holders
  where
    unheld : (h : Holders) (held : List Ask) → admits h kind.Exclusive ≡ true → AreHolders h held → held ≡ []
    unheld (Shared n) held free (len, all) = no_asks held (len ∙ zero_count n free)
    unheld Exclusive held free is = absurd (false≢true free)

-- a queue of nobody is free
pub empty_free : (asks : List Ask) (v : Queue) → asks ≡ [] → IsQueueAt asks (Some v) → admits v.holders kind.Exclusive ≡ true
empty_free asks v none (queue, settled, fits) =
    go v.holders queue.held queue.holders (no_asks queue.held (let long = length-append queue.held v.waiting.items in let zero = ap length (sym queue.split ∙ none) in omega (arith, long, zero)))
  where
    go : (h : Holders) (held : List Ask) → AreHolders h held → held ≡ [] → admits h kind.Exclusive ≡ true
    go (Shared n) held (len, all) empty = ap (λ m. m == 0) (sym len ∙ ap length empty)
    go Exclusive held (a, is, alone) empty = absurd (let none = ap length (sym is ∙ empty) in omega (arith, none))

pub same_queues : (asks others : Key → List Ask) (es : List (Key × Queue)) → ((k : Key) → asks k ≡ others k) → AreQueues asks es → AreQueues others es
same_queues asks others es same q = record { served = same_asks asks others es same q.served; nobody = λ k none. q.nobody k (same k ∙ none) }

-- a key that has no queue gets none where another key's queue changes, or goes
module _ (es now : List (Key × Queue)) (key : Key) (w : Option Queue) (updated : (k : Key) → queue_at now k ≡ cond (equal_keys key k) w (queue_at es k)) where
  pub none_other : (k : Key) → equal_keys key k ≡ false → queue_at es k ≡ None → queue_at now k ≡ None
  none_other k apart none = updated k ∙ ap (λ b. cond b w (queue_at es k)) apart ∙ none

  pub queue_now : queue_at now key ≡ w
  queue_now = updated key ∙ ap (λ b. cond b w (queue_at es key)) (equal_keys_self key)

  pub none_here : w ≡ None → queue_at now key ≡ None
  none_here gone = queue_now ∙ gone

  -- so it is for each key where one that had a queue is concerned
  pub none_is_new : (v : Queue) → queue_at es key ≡ Some v → NoneIsNew es now
  none_is_new v found k none = go (equal_keys key k) refl
    where
      go : (b : Bool) → equal_keys key k ≡ b → queue_at now k ≡ None
      go true same = absurd (none-some v (sym none ∙ ap (queue_at es) (sym (equal_keys_exact key k same)) ∙ found))
      go false apart = none_other k apart none

-- one key's queue changes, or goes
module _ (asks others : Key → List Ask) (es now : List (Key × Queue)) (key : Key) (w : Option Queue)
    (queues : AreQueuesOrEmpty asks es) (distinct : IsDistinct equal_keys (keys_of now))
    (updated : (k : Key) → queue_at now k ≡ cond (equal_keys key k) w (queue_at es k))
    (here : IsQueueAt (others key) w) (elsewhere : (k : Key) → equal_keys key k ≡ false → asks k ≡ others k) where
  pub changed : AreQueuesOrEmpty others now
  changed = record { at = λ k. go k (equal_keys key k) refl; distinct = distinct }
    where
      go : (k : Key) (b : Bool) → equal_keys key k ≡ b → IsQueueAt (others k) (queue_at now k)
      go k true same = subst (IsQueueAt (others k)) (sym (updated k ∙ ap (λ b. cond b w (queue_at es k)) same)) (subst (λ x. IsQueueAt (others x) w) (equal_keys_exact key k same) here)
      go k false other = subst (IsQueueAt (others k)) (sym (updated k ∙ ap (λ b. cond b w (queue_at es k)) other)) (subst (λ l. IsQueueAt l (queue_at es k)) (elsewhere k other) (queues.at k))

-- there is room where the queue stays
module _ (es now : List (Key × Queue)) (key : Key) (w : Queue) (updated : (k : Key) → queue_at now k ≡ cond (equal_keys key k) (Some w) (queue_at es k)) where
  pub room_other : (k : Key) (other : Kind) → equal_keys key k ≡ false → HasRoomAt es k other → HasRoomAt now k other
  room_other k other apart room = subst (λ o. MatchOption o ⊥ (λ q. HasRoom q other)) (sym (updated k ∙ ap (λ b. cond b (Some w) (queue_at es k)) apart)) room

  pub room_here : (other : Kind) → HasRoom w other → HasRoomAt now key other
  room_here other room = subst (λ o. MatchOption o ⊥ (λ q. HasRoom q other)) (sym (updated key ∙ ap (λ b. cond b (Some w) (queue_at es key)) (equal_keys_self key))) room

  pub room_kept : (v : Queue) → queue_at es key ≡ Some v → ((other : Kind) → HasRoom v other → HasRoom w other) → (k : Key) (other : Kind) → HasRoomAt es k other → HasRoomAt now k other
  room_kept v found keeps k other room = go (equal_keys key k) refl
    where
      go : (b : Bool) → equal_keys key k ≡ b → HasRoomAt now k other
      go true same = subst (λ x. HasRoomAt now x other) (equal_keys_exact key k same)
          (room_here other (keeps other (subst (λ o. MatchOption o ⊥ (λ q. HasRoom q other)) found (subst (λ x. HasRoomAt es x other) (sym (equal_keys_exact key k same)) room))))
      go false apart = room_other k other apart room

  pub room_new : queue_at es key ≡ None → (k : Key) (other : Kind) → HasRoomAt es k other → HasRoomAt now k other
  room_new none k other room = go (equal_keys key k) refl
    where
      go : (b : Bool) → equal_keys key k ≡ b → HasRoomAt now k other
      go true same = absurd (subst (λ o. MatchOption o ⊥ (λ q. HasRoom q other)) none (subst (λ x. HasRoomAt es x other) (sym (equal_keys_exact key k same)) room))
      go false apart = room_other k other apart room

pub queue_found : (asks : Key → List Ask) (es : List (Key × Queue)) (key : Key) (o : Option Queue) → AreQueuesOrEmpty asks es → queue_at es key ≡ o → IsQueueAt (asks key) o
queue_found asks es key o queues found = subst (IsQueueAt (asks key)) found (queues.at key)

-- the next key is asked for
module _ (asks : Key → List Ask) (keys except : List Key) (i : ℕ) (key : Key) (at : slice_get keys i ≡ Some key) (rising : rises keys ≡ true) (place : Place) (k : Kind) (free : has except key ≡ false) where
  pub next_asks : (x : Key) → cond (equal_keys key x) ((asks x ++ ask_if place k (asked (take i keys) except x)) ++ record { place = place; kind = k } ∷ []) (asks x ++ ask_if place k (asked (take i keys) except x))
      ≡ asks x ++ ask_if place k (asked (take (i + 1) keys) except x)
  next_asks x = go (equal_keys key x) refl
    where
      here : (asks key ++ ask_if place k (asked (take i keys) except key)) ++ record { place = place; kind = k } ∷ [] ≡ asks key ++ ask_if place k (asked (take (i + 1) keys) except key)
      here = ap (λ b. (asks key ++ ask_if place k b) ++ record { place = place; kind = k } ∷ []) (asked_before keys except i key at rising)
          ∙ ap (λ l. l ++ record { place = place; kind = k } ∷ []) (append_none (asks key))
          ∙ ap (λ b. asks key ++ ask_if place k b) (sym (asked_now keys except i key at free))

      go : (b : Bool) → equal_keys key x ≡ b → cond (equal_keys key x) ((asks x ++ ask_if place k (asked (take i keys) except x)) ++ record { place = place; kind = k } ∷ []) (asks x ++ ask_if place k (asked (take i keys) except x))
          ≡ asks x ++ ask_if place k (asked (take (i + 1) keys) except x)
      go true same = ap (λ b. cond b ((asks x ++ ask_if place k (asked (take i keys) except x)) ++ record { place = place; kind = k } ∷ []) (asks x ++ ask_if place k (asked (take i keys) except x))) same
          ∙ subst (λ y. (asks y ++ ask_if place k (asked (take i keys) except y)) ++ record { place = place; kind = k } ∷ [] ≡ asks y ++ ask_if place k (asked (take (i + 1) keys) except y)) (equal_keys_exact key x same) here
      go false apart = ap (λ b. cond b ((asks x ++ ask_if place k (asked (take i keys) except x)) ++ record { place = place; kind = k } ∷ []) (asks x ++ ask_if place k (asked (take i keys) except x))) apart
          ∙ ap (λ b. asks x ++ ask_if place k b) (sym (asked_other keys except i key at x apart))

-- the queues that are left fit
module _ (es now : List (Key × Queue)) (key : Key) where
  pub fits_gone : ((k : Key) → queue_at now k ≡ cond (equal_keys key k) None (queue_at es k)) → AllFit es → AllFit now
  fits_gone updated fits k v found = go (equal_keys key k) refl
    where
      go : (b : Bool) → equal_keys key k ≡ b → Fits v
      go true same = absurd (none-some v (sym (updated k ∙ ap (λ b. cond b None (queue_at es k)) same) ∙ found))
      go false apart = fits k v (sym (updated k ∙ ap (λ b. cond b None (queue_at es k)) apart) ∙ found)

  pub fits_set : (w : Queue) → ((k : Key) → queue_at now k ≡ cond (equal_keys key k) (Some w) (queue_at es k)) → Fits w → AllFit es → AllFit now
  fits_set w updated here fits k v found = go (equal_keys key k) refl
    where
      go : (b : Bool) → equal_keys key k ≡ b → Fits v
      go true same = subst Fits (same_Some w v (sym (updated k ∙ ap (λ b. cond b (Some w) (queue_at es k)) same) ∙ found)) here
      go false apart = fits k v (sym (updated k ∙ ap (λ b. cond b (Some w) (queue_at es k)) apart) ∙ found)

-- who leaves was there
pub nobody_leaves : (before after : List Ask) → Leaves before after → before ≡ [] → ⊥
nobody_leaves before after leaves none =
    let long = length-append leaves.front (leaves.ask ∷ leaves.back) in
    let zero = ap length (sym leaves.was ∙ none) in
    omega (arith, long, zero)

pub left_queue : (before after : List Ask) (v : Queue) → Leaves before after → IsQueueAt before (Some v) → IsQueueOf after (without_holder v.holders) v.waiting.items
left_queue before after v leaves (queue, settled, fits) =
    subst (λ l. IsQueueOf l (without_holder v.holders) v.waiting.items) (sym leaves.is)
    (left leaves.front leaves.ask leaves.back v.holders v.waiting.items (subst (λ l. IsQueueOf l v.holders v.waiting.items) leaves.was queue) settled leaves.first)

-- the next key is left
module _ (keys except : List Key) (i : ℕ) (key : Key) (at : slice_get keys i ≡ Some key) (rising : rises keys ≡ true) (free : has except key ≡ false) (before after : Key → List Ask) where
  pub next_leaves : Leaves (before key) (after key) → LeavesAt key (λ k. cond (asked (take i keys) except k) (after k) (before k)) (λ k. cond (asked (take (i + 1) keys) except k) (after k) (before k))
  next_leaves leaves = (
    subst (λ l. Leaves l (cond (asked (take (i + 1) keys) except key) (after key) (before key))) (sym (ap (λ b. cond b (after key) (before key)) (asked_before keys except i key at rising)))
        (subst (Leaves (before key)) (sym (ap (λ b. cond b (after key) (before key)) (asked_now keys except i key at free))) leaves),
    λ k apart. ap (λ b. cond b (after k) (before k)) (sym (asked_other keys except i key at k apart)),
  )

  -- and its queue is let go where nobody asks for it any more
  pub next_nobody : (queues now : List (Key × Queue)) → NoneIsEmpty (λ k. cond (asked (take i keys) except k) (after k) (before k)) queues → NoneIsNew queues now
      → (cond (asked (take (i + 1) keys) except key) (after key) (before key) ≡ [] → queue_at now key ≡ None) → NoneIsEmpty (λ k. cond (asked (take (i + 1) keys) except k) (after k) (before k)) now
  next_nobody queues now old first here k none = go (equal_keys key k) refl
    where
      go : (b : Bool) → equal_keys key k ≡ b → queue_at now k ≡ None
      go true same = subst (λ x. queue_at now x ≡ None) (equal_keys_exact key k same) (here (subst (λ x. cond (asked (take (i + 1) keys) except x) (after x) (before x) ≡ []) (sym (equal_keys_exact key k same)) none))
      go false apart = first k (old k (ap (λ b. cond b (after k) (before k)) (sym (asked_other keys except i key at k apart)) ∙ none))
