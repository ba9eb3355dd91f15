-- What an application is: two definitions, and the laws that they keep (Thomson et al. 2012, section 2: what a request does
-- follows from its arguments and the rows that it reads; section 3.2: it declares the keys that it reads and writes). The
-- laws are of this project.
--     Meaning Args Row Reply      the sets that arguments need on a view, and the reply and the writes on it
--     WritesWithin m      its writes are within the needed writes
--     AllUpTo top keys      no key is in a table above top
--     IsBounded most_keys top_table keys      no more keys than the limit, and none in a table above the top one
--     IsLawful m dependent most_keys top_table      the laws of applications
--     SettlesAtOnce m      the sets that are needed of what the first reads show are those that are needed of all rows
--     IsExact eq      values that compare equal are the same
use Rattle.std.specs.Prelude.{◌≡◌, ℕ, ◌≤◌, Bool, true, false, List, [], ◌∷◌, length, map}
use Rattle.std.specs.FinMap.{empty}
use Rattle.calvin_types.specs.declared.key.Key.{Key}
use Rattle.calvin_types.specs.declared.key_set.Sets.{Sets}
use Rattle.calvin_types.specs.Keys.{has}
use Rattle.calvin_types.specs.declared.limits.TheConstants.{MOST_KEYS}
use Rattle.calvin_app.specs.Rows.{Rows, view}

-- the two definitions of an application, the same for all values of its type
pub record Meaning (Args Row Reply : Type 0) : Type 0 where
  pub needs : Args → Rows Row → Sets
  pub outcome : Args → Rows Row → Reply × List (Key × Row)

abbrev pub WritesWithin : {Args Row Reply : Type 0} → Meaning Args Row Reply → Type 0
WritesWithin {Args} {Row} m = (args : Args) (v : Rows Row) (k : Key) → has (map (λ w. w.0) (m.outcome args v).1) k ≡ true → has (m.needs args v).writes k ≡ true

abbrev pub AllUpTo : ℕ → List Key → Type 0
AllUpTo top [] = Unit {0}
AllUpTo top (k ∷ ks) = (k.table ≤ top) × AllUpTo top ks

pub record IsBounded (most_keys top_table : ℕ) (keys : List Key) : Type 0 where
  pub number : length keys ≤ most_keys
  pub tables : AllUpTo top_table keys

pub record IsLawful {Args Row Reply : Type 0} (m : Meaning Args Row Reply) (dependent : Args → Bool) (most_keys top_table : ℕ) : Type 0 where
  -- a request writes only keys of the writes that it needs
  pub writes_within_the_sets : WritesWithin m
  -- the sets that are needed of all rows are needed of those at their own reads
  pub sets_follow_from_their_reads : (args : Args) (rows : Rows Row) → m.needs args (view rows (m.needs args rows).reads) ≡ m.needs args rows
  -- where the arguments aren't dependent, the sets are the same on every view
  pub independent_sets_are_fixed : (args : Args) (v w : Rows Row) → dependent args ≡ false → m.needs args v ≡ m.needs args w
  -- each set has at most so many keys, sixteen at most, and no table above
  pub bounded_reads : (args : Args) (v : Rows Row) → IsBounded most_keys top_table (m.needs args v).reads
  pub bounded_writes : (args : Args) (v : Rows Row) → IsBounded most_keys top_table (m.needs args v).writes
  pub at_most_sixteen : most_keys ≤ MOST_KEYS

-- the first reads, which are needed where no row is known, show all rows that the sets depend on
abbrev pub SettlesAtOnce : {Args Row Reply : Type 0} → Meaning Args Row Reply → Type 0
SettlesAtOnce {Args} {Row} m = (args : Args) (rows : Rows Row) → m.needs args (view rows (m.needs args empty).reads) ≡ m.needs args rows

abbrev pub IsExact : {T : Type 0} → (T → T → Bool) → Type 0
IsExact {T} eq = (a b : T) → eq a b ≡ true → a ≡ b
