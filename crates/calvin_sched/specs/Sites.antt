-- The least of the partitions that store some keys.
--     IsLeast partitions keys least      of so many partitions, it stores one of the keys, and no lower one does: what `is_least` is of a request's keys
--     IsLeastOf partitions keys least      the same of what may be none: it is none where there is no key
use Rattle.std.specs.Prelude.{◌≡◌, ◌<◌, ℕ, true, nat_le, List, [], Option, Some, None}
use Rattle.std.specs.List.{list_any, list_all}
use Rattle.calvin_types.specs.declared.key.Key.{Key}
use Rattle.calvin_types.specs.Keys.{partition_of}
use Rattle.calvin_types.specs.Participants.{site, is_local}

pub record IsLeast (partitions : ℕ) (keys : List Key) (least : ℕ) : Type 0 where
  pub there : list_any (is_local (site partitions least)) keys ≡ true
  pub none_below : list_all (λ k. nat_le least (partition_of partitions k)) keys ≡ true
  pub in_range : least < partitions

abbrev pub IsLeastOf : ℕ → List Key → Option ℕ → Type 0
IsLeastOf partitions keys None = keys ≡ []
IsLeastOf partitions keys (Some least) = IsLeast partitions keys least
