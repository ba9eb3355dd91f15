-- Locks as a queue for each key: who holds it, as a number, and who waits behind them (Thomson et al. 2012, section 3.2:
-- locks are granted in the order in which they were requested). The counts are of this project.
--     is_shared kind      whether a key is asked for shared
--     admits h kind      whether one that asks so may hold the key beside those who do
--     with_holder h kind, without_holder h      with one more, or one less, who holds the key
--     holder_count h      how many share the key
--     AllShared asks      all ask for the key shared
--     AreHolders h asks      those who ask are counted by h, and may hold the key together
--     IsQueueOf asks h waiting      of all who ask, in order, those at the front hold the key and are counted by h, and the others wait
--     IsSettled h waiting      the first who waits isn't admitted
--     Fits q      no more are in a queue than can be counted
--     HasRoom q kind      a queue has room for one more, who asks so
--     IsQueueAt asks o      the queue, or no queue, of a key is that of all who ask for it, in order
--     ask_if q k asks      one who asks so, or none
--     asked keys except k      whether a key is one of these, but for some others
--     ask_of k e, asks_of k es      what a request asks of the key k, or nothing;  what some requests ask of it, in order
--     IsFirst before a      who asks so behind these holds the key with them
--     equal_places a b      whether two places are the same
--     place_is q p, is_of q a      1 where the place is q;  where who asks is q
--     waits_in q waiting      how often q is among those who wait
--     waits_of q queues      in how many queues q waits
--     queue_at queues k      the queue of the key k, if there is one
--     AreQueuesOrEmpty asks queues      each key's queue is that of those who ask for it; there may be queues of nobody
--     NoneIsEmpty asks queues      no queue is of nobody
--     AreQueues asks queues      each key's queue is that of those who ask for it, and a key that nobody asks for has none
--     NoneIsNew before after      no key has a queue that had none
--     HasRoomAt queues k kind      the queue of the key k is there and has room for one more, who asks so
--     AllFit queues      no queue has more than can be counted
--     Leaves before after      of those who ask, one who is first leaves
--     LeavesAt key before after      so it is at this key, and each other key's stay
use Rattle.std.specs.Prelude.{◌≡◌, ℕ, ◌+◌, ◌-◌, ◌<◌, ◌≤◌, Bool, true, false, cond, not, ◌&&◌, ◌==◌, nat_eq, ◌⊎◌, List, [], ◌∷◌, ◌++◌, length, Option, None, Some, MatchOption}
use Rattle.std.specs.List.{sum_by, IsDistinct}
use Rattle.std.specs.Map.{lookup, keys_of, values_of}
use Rattle.std.specs.VecDeque.{deque_len, deque_capacity}
use Rattle.calvin_types.specs.declared.key.Key.{Key}
use Rattle.calvin_types.specs.declared.key_set.Sets.{Sets}
use Rattle.calvin_types.specs.declared.place.Place.{Place}
use Rattle.calvin_types.specs.Keys.{has}
use Rattle.calvin_types.specs.SameKeys.{equal_keys}
use Rattle.calvin_lock.specs.declared.queue.Kind.{Kind}
use Rattle.calvin_lock.specs.declared.queue.Kind.TheVariants as kind
use Rattle.calvin_lock.specs.declared.queue.Holders.{Holders}
use Rattle.calvin_lock.specs.declared.queue.Holders.TheVariants.{Shared, Exclusive}
use Rattle.calvin_lock.specs.declared.queue.TheConstants.{MOST_IN_A_QUEUE}
use Rattle.calvin_lock.specs.declared.queue.Ask.{Ask}
use Rattle.calvin_lock.specs.declared.queue.Queue.{Queue}

abbrev pub is_shared : Kind → Bool
is_shared kind.Shared = true
is_shared kind.Exclusive = false

abbrev pub admits : Holders → Kind → Bool
admits (Shared n) kind.Shared = true
admits (Shared n) kind.Exclusive = n == 0
admits Exclusive k = false

abbrev pub with_holder : Holders → Kind → Holders
with_holder (Shared n) kind.Shared = Shared (n + 1)
with_holder (Shared n) kind.Exclusive = Exclusive
with_holder Exclusive k = Exclusive

abbrev pub without_holder : Holders → Holders
without_holder (Shared n) = Shared (n - 1)
without_holder Exclusive = Shared 0

abbrev pub holder_count : Holders → ℕ
holder_count (Shared n) = n
holder_count Exclusive = 0

abbrev pub AllShared : List Ask → Type 0
AllShared [] = Unit {0}
AllShared (a ∷ asks) = (is_shared a.kind ≡ true) × AllShared asks

abbrev pub AreHolders : Holders → List Ask → Type 0
AreHolders (Shared n) asks = (length asks ≡ n) × AllShared asks
AreHolders Exclusive asks = (a : Ask) × (asks ≡ a ∷ []) × (is_shared a.kind ≡ false)

pub record IsQueueOf (asks : List Ask) (h : Holders) (waiting : List Ask) : Type 0 where
  pub held : List Ask
  pub split : asks ≡ held ++ waiting
  pub holders : AreHolders h held

abbrev pub IsSettled : Holders → List Ask → Type 0
IsSettled h [] = Unit {0}
IsSettled h (a ∷ waiting) = admits h a.kind ≡ false

abbrev pub Fits : Queue → Type 0
Fits q = holder_count q.holders + deque_len q.waiting ≤ MOST_IN_A_QUEUE

abbrev pub HasRoom : Queue → Kind → Type 0
HasRoom q k = (holder_count q.holders + deque_len q.waiting < MOST_IN_A_QUEUE)
    × (((deque_len q.waiting ≡ 0) × (admits q.holders k ≡ true)) ⊎ (deque_len q.waiting < deque_capacity q.waiting))

abbrev pub IsQueueAt : List Ask → Option Queue → Type 0
IsQueueAt asks None = asks ≡ []
IsQueueAt asks (Some q) = IsQueueOf asks q.holders q.waiting.items × IsSettled q.holders q.waiting.items × Fits q

abbrev pub ask_if : Place → Kind → Bool → List Ask
ask_if q k asks = cond asks (record { place = q; kind = k } ∷ []) []

abbrev pub asked : List Key → List Key → Key → Bool
asked keys except k = has keys k && not (has except k)

abbrev pub ask_of : Key → Place × Sets → List Ask
ask_of k e = ask_if e.0 kind.Exclusive (asked e.1.writes [] k) ++ ask_if e.0 kind.Shared (asked e.1.reads e.1.writes k)

abbrev pub asks_of : Key → List (Place × Sets) → List Ask
asks_of k [] = []
asks_of k (e ∷ es) = ask_of k e ++ asks_of k es

abbrev pub IsFirst : List Ask → Ask → Type 0
IsFirst before a = (before ≡ []) ⊎ (AllShared before × (is_shared a.kind ≡ true))

abbrev pub equal_places : Place → Place → Bool
equal_places a b = nat_eq a.epoch b.epoch && nat_eq a.n b.n

abbrev pub place_is : Place → Place → ℕ
place_is q p = cond (equal_places q p) 1 0

abbrev pub is_of : Place → Ask → ℕ
is_of q a = place_is q a.place

abbrev pub waits_in : Place → List Ask → ℕ
waits_in q [] = 0
waits_in q (a ∷ waiting) = is_of q a + waits_in q waiting

abbrev pub waits_of : Place → List (Key × Queue) → ℕ
waits_of q queues = sum_by (λ (v : Queue). waits_in q v.waiting.items) (values_of queues)

abbrev pub queue_at : List (Key × Queue) → Key → Option Queue
queue_at queues k = lookup (equal_keys k) queues

pub record AreQueuesOrEmpty (asks : Key → List Ask) (queues : List (Key × Queue)) : Type 0 where
  pub at : (k : Key) → IsQueueAt (asks k) (queue_at queues k)
  pub distinct : IsDistinct equal_keys (keys_of queues)

abbrev pub NoneIsEmpty : (Key → List Ask) → List (Key × Queue) → Type 0
NoneIsEmpty asks queues = (k : Key) → asks k ≡ [] → queue_at queues k ≡ None

pub record AreQueues (asks : Key → List Ask) (queues : List (Key × Queue)) : Type 0 where
  pub served : AreQueuesOrEmpty asks queues
  pub nobody : NoneIsEmpty asks queues

abbrev pub NoneIsNew : List (Key × Queue) → List (Key × Queue) → Type 0
NoneIsNew before after = (k : Key) → queue_at before k ≡ None → queue_at after k ≡ None

abbrev pub HasRoomAt : List (Key × Queue) → Key → Kind → Type 0
HasRoomAt queues k kind = MatchOption (queue_at queues k) ⊥ (λ q. HasRoom q kind)

pub record Leaves (before after : List Ask) : Type 0 where
  pub front : List Ask
  pub ask : Ask
  pub back : List Ask
  pub was : before ≡ front ++ ask ∷ back
  pub is : after ≡ front ++ back
  pub first : IsFirst front ask

abbrev pub LeavesAt : Key → (Key → List Ask) → (Key → List Ask) → Type 0
LeavesAt key before after = Leaves (before key) (after key) × ((k : Key) → equal_keys key k ≡ false → before k ≡ after k)

abbrev pub AllFit : List (Key × Queue) → Type 0
AllFit queues = (k : Key) (v : Queue) → queue_at queues k ≡ Some v → Fits v
