-- The keys of a place's two sets in one list. The notion is of this project.
--     AreSets n keys      the first n keys are a set, and the others are one: each rises, with at most sixteen keys
use Rattle.std.specs.Prelude.{◌≡◌, ℕ, ◌+◌, ◌≤◌, true, List, length, take, drop}
use Rattle.calvin_types.specs.declared.key.Key.{Key}
use Rattle.calvin_types.specs.declared.limits.TheConstants.{MOST_KEYS}
use Rattle.calvin_types.specs.Keys.{rises}

pub record AreSets (n : ℕ) (keys : List Key) : Type 0 where
  pub within : n ≤ length keys
  pub first : rises (take n keys) ≡ true
  pub others : rises (drop n keys) ≡ true
  pub few : n ≤ MOST_KEYS
  pub few_others : length keys ≤ n + MOST_KEYS
