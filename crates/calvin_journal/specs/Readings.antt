-- How far a journal is read, and what it tells. The notions are of this project.
--     Part      the bytes that were handed out as whole lines, and those ahead
--     part_at size disk      the first so many bytes were handed out
--     Hands line old new      this whole line was handed out
--     BeginsWith line bytes      the first line of the bytes is this one, which is whole
--     IsStill disk      every crash leaves what stands there, and nothing else
--     IsRead done found disk      of a synced log so many bytes were handed out, and these are read and stand behind them
--     Lines      the lines that were handed out, and those ahead
--     lines_at part      the lines of the two parts
--     HandsOut line old new      the first of the lines ahead was handed out; a journal tells its lines always or never
--     Opens heading bytes lines      the bytes may be left of a journal with this heading, which was handed out
--     Progress, Standing      a journal that is read, and one that stands open: its lines, where the log tells its bytes, and how many of its calls were refused
use Rattle.std.specs.Prelude.{◌≡◌, ◌≤◌, ℕ, List, [], ◌∷◌, ◌++◌, Option, Some, None, length, take, drop}
use Rattle.calvin_journal_log.specs.Disks.{Disk}
use Rattle.calvin_journal.specs.Lines.{lines_of}
use Rattle.calvin_journal.specs.Journals.{epochs_in}

pub record Part : Type 0 where
  pub done : List ℕ
  pub ahead : List ℕ

abbrev pub part_at : ℕ → Disk → Part
part_at size disk = record { done = take size disk.seen; ahead = drop size disk.seen }

pub record Hands (line : List ℕ) (old new : Part) : Type 0 where
  pub ahead : old.ahead ≡ line ++ 10 ∷ new.ahead
  pub done : new.done ≡ old.done ++ (line ++ 10 ∷ [])

abbrev pub BeginsWith : List ℕ → List ℕ → Type 0
BeginsWith line bytes = (rest : List ℕ) × (bytes ≡ line ++ 10 ∷ rest)

abbrev pub IsStill : Disk → Type 0
IsStill disk = (disk.kept ≡ disk.seen) × (disk.most ≡ disk.seen)

abbrev pub IsRead : ℕ → List ℕ → Disk → Type 0
IsRead done found disk = IsStill disk × (done ≤ length disk.seen) × (take (length found) (drop done disk.seen) ≡ found)

pub record Lines : Type 0 where
  pub done : List (List ℕ)
  pub ahead : List (List ℕ)

abbrev pub lines_at : Part → Lines
lines_at part = record { done = lines_of part.done; ahead = lines_of part.ahead }

abbrev pub HandsOut : List ℕ → Option Lines → Option Lines → Type 0
HandsOut line None None = Unit {0}
HandsOut line None (Some new) = ⊥
HandsOut line (Some old) None = ⊥
HandsOut line (Some old) (Some new) = (old.ahead ≡ line ∷ new.ahead) × (new.done ≡ old.done ++ line ∷ [])

-- the heading was handed out, and the lines of the epochs are ahead
abbrev pub Opens : List ℕ → List ℕ → Option Lines → Type 0
Opens heading bytes lines = (epochs : List (List ℕ)) × (epochs_in heading bytes ≡ Some epochs) × (lines ≡ Some (record { done = heading ∷ []; ahead = epochs }))

pub record Progress : Type 0 where
  pub lines : Option Lines
  pub failures : ℕ

pub record Standing : Type 0 where
  pub lines : Option (List (List ℕ))
  pub failures : ℕ
