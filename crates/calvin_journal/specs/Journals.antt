-- Journals: a first line, the heading, and then a line an epoch. The form is of this project.
--     epochs_in heading bytes      the lines of the epochs in a file that may be left of a journal with this heading, where it may
--     synced bytes      every crash leaves these bytes, and nothing else
--     IsGathered bytes disk      what stands there and these bytes behind it are whole lines, and nothing was cut off since the last sync
--     MayBecome answered taken disk      after each crash the whole lines are all that were answered, and nothing but those that were taken, in order
--     Becomes bounds told      the same of a log that tells its bytes, and goes on telling them
--     AddedAll, AddedInPart bytes old new      the bytes were added and are synced; or nothing that was kept is lost, and no more than these came to be there
--     ClosedAt, ClosedInPart size old new      what stands behind the first so many bytes is gone for good; or maybe
--     OpensInPart heading old new      nothing that was kept is lost, and nothing may come to be there but what might have been, or the heading
use Rattle.std.specs.Prelude.{◌≡◌, ℕ, List, [], ◌∷◌, ◌++◌, Option, Some, None, if◌then◌else◌, bytes_eq, ◌⊎◌, take, nat_eq}
use Rattle.std.specs.List.{starts_with}
use mathlib.Core.List.{IsPrefix}
use Rattle.calvin_journal_log.specs.Disks.{Disk, MayLeave, IsSettled}
use Rattle.calvin_journal.specs.Lines.{lines_of, text}

abbrev pub epochs_behind : List ℕ → List ℕ → List (List ℕ) → Option (List (List ℕ))
epochs_behind heading bytes [] = if starts_with nat_eq heading bytes then Some [] else None
epochs_behind heading bytes (line ∷ lines) = if bytes_eq line heading then Some lines else None

-- the lines behind the heading; none yet where the heading itself was torn
abbrev pub epochs_in : List ℕ → List ℕ → Option (List (List ℕ))
epochs_in heading bytes = epochs_behind heading bytes (lines_of bytes)

abbrev pub synced : List ℕ → Disk
synced bytes = record { kept = bytes; seen = bytes; most = bytes }

abbrev pub IsGathered : List ℕ → Disk → Type 0
IsGathered bytes disk = IsSettled disk × (disk.seen ++ bytes ≡ text (lines_of (disk.seen ++ bytes)))

abbrev pub MayBecome : List (List ℕ) → List (List ℕ) → Disk → Type 0
MayBecome answered taken disk = (left : List ℕ) → MayLeave disk left → IsPrefix answered (lines_of left) × IsPrefix (lines_of left) taken

-- these bounds, of lines that were answered and of those that were taken, hold where they are told
abbrev pub Becomes : Option (List (List ℕ) × List (List ℕ)) → Option Disk → Type 0
Becomes None None = Unit {0}
Becomes None (Some disk) = ⊥
Becomes (Some bounds) None = ⊥
Becomes (Some bounds) (Some disk) = MayBecome bounds.0 bounds.1 disk

-- ---- what calls make of a synced log

abbrev pub AddedAll : List ℕ → Disk → Disk → Type 0
AddedAll bytes old new = new ≡ synced (old.seen ++ bytes)

pub record AddedInPart (bytes : List ℕ) (old new : Disk) : Type 0 where
  pub kept : IsPrefix old.kept new.kept
  pub no_more : IsPrefix new.most (old.seen ++ bytes)

abbrev pub ClosedAt : ℕ → Disk → Disk → Type 0
ClosedAt size old new = new ≡ synced (take size old.seen)

pub record ClosedInPart (size : ℕ) (old new : Disk) : Type 0 where
  pub kept : IsPrefix (take size old.seen) new.kept
  pub no_more : IsPrefix new.most old.seen

pub record OpensInPart (heading : List ℕ) (old new : Disk) : Type 0 where
  pub kept : IsPrefix old.kept new.kept
  pub no_more : IsPrefix new.most old.most ⊎ IsPrefix new.most (heading ++ 10 ∷ [])
