-- Journals that begin with the rows of a desk. The notions are of this project.
--     Compacts form heading desk lines      the lines are this heading and, behind it, the desk's rows at the number of its next epoch; no epoch is listed
--     For private clauses:
--     SaysRows heading epoch count told lines      the lines are the heading and a line that says that so many rows follow, before this epoch
--     KeepsRows form rows old new      behind the old lines there are lines that keep these rows, each in its turn
use Rattle.std.specs.Prelude.{◌≡◌, ℕ, List, [], ◌∷◌, ◌++◌, length, Option, Some, option_map, Ok}
use Rattle.serde_json.specs.Data.{Data}
use Rattle.calvin_types.specs.declared.key.Key.{Key}
use Rattle.calvin_journal_log.specs.Disks.{Disk}
use Rattle.calvin_serve_rows.specs.Starts.{start_in, rows_in, starts}
use Rattle.calvin_serve_desk.specs.Desks.{Standing}

pub record Compacts {Row : Type 0} (form : Data → Option Row) (heading : List ℕ) (desk : Standing Row) (lines : List (List ℕ)) : Type 0 where
  pub later : List (List ℕ)
  pub whole : lines ≡ heading ∷ later
  pub same : starts form later ≡ Ok (record { epoch = desk.epoch; rows = desk.rows }, [])

-- ---- for private clauses

pub record SaysRows (heading : List ℕ) (epoch count : ℕ) (told : Option Disk) (lines : Option (List (List ℕ))) : Type 0 where
  pub line : List ℕ
  pub says : start_in line ≡ Ok (Some (epoch, count))
  pub both : lines ≡ option_map (λ _. heading ∷ line ∷ []) told

pub record KeepsRows {Row : Type 0} (form : Data → Option Row) (rows : List (Key × Row)) (old new : Option (List (List ℕ))) : Type 0 where
  pub kept : List (List ℕ)
  pub as_many : length kept ≡ length rows
  pub read : rows_in form kept ≡ Ok rows
  pub added : new ≡ option_map (λ ls. ls ++ kept) old
