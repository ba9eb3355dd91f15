-- Keys, their order, and lists of keys that rise. The order is of this project.
--     key_cmp a b      keys are ordered by table, and then by id
--     same_key a b      whether two keys are one
--     has keys k      whether k is one of the keys
--     below_all k keys      whether a key is below all of the keys
--     rises keys      whether each key is below all that follow it
--     by_order o a b c      one of three, as an order says
--     insert_key q keys, insert_all qs keys      rising keys with one more, or with several more, each in its place unless it is there
--     are_distinct keys      whether no key comes twice
--     takes q keys      whether a set of at most sixteen keys takes one more
--     partition_of count k      which of so many partitions stores k (Thomson et al. 2012, section 3: each record in one partition)
use Rattle.std.specs.Prelude.{ℕ, Bool, true, ◌&&◌, ◌==◌, List, [], ◌∷◌, length, nat_le, nat_lt, ◌%◌}
use Rattle.std.specs.declared.cmp.Ordering.{Ordering}
use Rattle.std.specs.declared.cmp.Ordering.TheVariants.{Less, Equal, Greater}
use Rattle.std.specs.Ordering.{nat_cmp, ordering_then, is_lt, is_eq, eq_by_cmp}
use Rattle.std.specs.List.{list_any}
use Rattle.calvin_types.specs.declared.key.Key.{Key}
use Rattle.calvin_types.specs.declared.limits.TheConstants.{MOST_KEYS}

abbrev pub key_cmp : Key → Key → Ordering
key_cmp a b = ordering_then (nat_cmp a.table b.table) (nat_cmp a.id b.id)

abbrev pub same_key : Key → Key → Bool
same_key a b = is_eq (key_cmp a b)

abbrev pub has : List Key → Key → Bool
has keys k = list_any (eq_by_cmp key_cmp k) keys

abbrev pub below_all : Key → List Key → Bool
below_all q [] = true
below_all q (k ∷ ks) = is_lt (key_cmp q k) && below_all q ks

abbrev pub rises : List Key → Bool
rises [] = true
rises (k ∷ ks) = below_all k ks && rises ks

abbrev pub by_order : {A : Type 0} → Ordering → A → A → A → A
by_order Less a b c = a
by_order Equal a b c = b
by_order Greater a b c = c

abbrev pub insert_key : Key → List Key → List Key
insert_key q [] = q ∷ []
insert_key q (k ∷ ks) = by_order (key_cmp q k) (q ∷ k ∷ ks) (k ∷ ks) (k ∷ insert_key q ks)

abbrev pub insert_all : List Key → List Key → List Key
insert_all [] ks = ks
insert_all (q ∷ qs) ks = insert_all qs (insert_key q ks)

-- whether no key comes twice: the set of the keys has as many
abbrev pub are_distinct : List Key → Bool
are_distinct keys = length (insert_all keys []) == length keys

-- whether a set of at most sixteen keys takes one more: a new one, for which there is room
abbrev pub takes : Key → List Key → Bool
takes q ks = nat_lt (length ks) (length (insert_key q ks)) && nat_le (length (insert_key q ks)) MOST_KEYS

-- the partition, of so many, that stores a key
abbrev pub partition_of : ℕ → Key → ℕ
partition_of count k = k.id % count
