-- What a log tells of its bytes, what a crash leaves of them, and what its calls make of them. The notions are of this
-- project; that bytes are sure to outlive a crash only once they are synced is what systems promise of files.
--     Disk      the bytes that every crash leaves, those that stand there, and those that a crash may leave at most
--     MayLeave disk left      a crash may leave these bytes
--     IsInOrder disk      what every crash leaves is a beginning of what stands there, and that of what may be left at most
--     IsSettled disk      nothing was cut off since the last sync
--     Leads step old new      a log tells its bytes always or never, and the step leads from the former to the latter
--     Appended, AppendedInPart bytes old new      the bytes were added at the end; or a beginning of them, which may be none
--     Synced, SyncedInPart old new      every crash leaves what stands there, and nothing else; or something between
--     CutTo, CutInPart size old new      the bytes behind so many were cut off; or a part of them, which may be none
use Rattle.std.specs.Prelude.{◌≡◌, ℕ, List, ◌++◌, take, Option, Some, None}
use mathlib.Core.List.{IsPrefix}

-- A crash, during a call or between two, leaves no less than the first and no more than the last.
pub record Disk : Type 0 where
  pub kept : List ℕ
  pub seen : List ℕ
  pub most : List ℕ

abbrev pub MayLeave : Disk → List ℕ → Type 0
MayLeave disk left = IsPrefix disk.kept left × IsPrefix left disk.most

abbrev pub IsInOrder : Disk → Type 0
IsInOrder disk = IsPrefix disk.kept disk.seen × IsPrefix disk.seen disk.most

-- bytes that were cut off may come back until the next sync
abbrev pub IsSettled : Disk → Type 0
IsSettled disk = disk.most ≡ disk.seen

abbrev pub Leads : (Disk → Disk → Type 0) → Option Disk → Option Disk → Type 0
Leads step None None = Unit {0}
Leads step None (Some new) = ⊥
Leads step (Some old) None = ⊥
Leads step (Some old) (Some new) = step old new

-- ---- what the calls make of them

abbrev pub Appended : List ℕ → Disk → Disk → Type 0
Appended bytes old new = new ≡ record { kept = old.kept; seen = old.seen ++ bytes; most = old.seen ++ bytes }

pub record AppendedInPart (bytes : List ℕ) (old new : Disk) : Type 0 where
  pub kept : new.kept ≡ old.kept
  pub seen : IsPrefix old.seen new.seen
  pub no_more : IsPrefix new.most (old.seen ++ bytes)

abbrev pub Synced : Disk → Disk → Type 0
Synced old new = new ≡ record { kept = old.seen; seen = old.seen; most = old.seen }

pub record SyncedInPart (old new : Disk) : Type 0 where
  pub kept : IsPrefix old.kept new.kept
  pub seen : new.seen ≡ old.seen
  pub no_more : IsPrefix new.most old.most

abbrev pub CutTo : ℕ → Disk → Disk → Type 0
CutTo size old new = new ≡ record { kept = take size old.kept; seen = take size old.seen; most = old.most }

pub record CutInPart (size : ℕ) (old new : Disk) : Type 0 where
  pub kept : IsPrefix (take size old.kept) new.kept
  pub no_more : IsPrefix new.most old.most
