-- Which partitions take part in a request (Thomson et al. 2012, section 3.2).
--     Site, site partitions partition      one of so many partitions
--     is_local site k      whether the site stores the key k
--     local_keys site keys      the keys that the site stores
--     declared_keys t      the keys that t declares: those that it reads and those that it writes
--     has_local_key site t      whether the site takes part in t: it stores a declared key of t
--     is_least site t      whether the site is the participant of least number
--     is_active site t      whether the site runs t: it stores a key that t writes, or is the least participant
use Rattle.std.specs.Prelude.{ℕ, Bool, ◌==◌, ◌||◌, ◌&&◌, nat_le, List, ◌++◌}
use Rattle.std.specs.List.{filter, list_any, list_all}
use Rattle.calvin_types.specs.declared.key.Key.{Key}
use Rattle.calvin_types.specs.declared.txn.Txn.{Txn}
use Rattle.calvin_types.specs.Keys.{partition_of}

pub record Site : Type 0 where
  pub partitions : ℕ
  pub partition : ℕ

abbrev pub site : ℕ → ℕ → Site
site partitions partition = record { partitions = partitions; partition = partition }

abbrev pub is_local : Site → Key → Bool
is_local site k = partition_of site.partitions k == site.partition

abbrev pub local_keys : Site → List Key → List Key
local_keys site keys = filter (is_local site) keys

module _ {Args : Type 0} where
  abbrev pub declared_keys : Txn Args → List Key
  declared_keys t = t.sets.reads ++ t.sets.writes

  abbrev pub has_local_key : Site → Txn Args → Bool
  has_local_key site t = list_any (is_local site) (declared_keys t)

  abbrev pub is_least : Site → Txn Args → Bool
  is_least site t = has_local_key site t && list_all (λ k. nat_le site.partition (partition_of site.partitions k)) (declared_keys t)

  abbrev pub is_active : Site → Txn Args → Bool
  is_active site t = list_any (is_local site) t.sets.writes || is_least site t
