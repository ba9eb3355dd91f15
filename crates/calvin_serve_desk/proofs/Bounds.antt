-- What a crash leaves where less was written than may have been, or more is kept than has to be.
use Rattle.std.proofs.Common.{ℕ, List, [], ◌∷◌, ◌++◌, refl, Option, Some, None, option_map}
use Rattle.calvin_journal_log.specs.Disks.{Disk}
use Rattle.calvin_journal.specs.Lines.{lines_of}
use Rattle.calvin_journal.specs.Journals.{Becomes}
use Rattle.calvin_journal.proofs.Splits.{prefix_trans}

module _ (line : List ℕ) where
  pub not_written : (told : Option (List (List ℕ))) (disk : Option Disk) → Becomes (option_map (λ ls. (ls, ls)) told) disk → Becomes (option_map (λ ls. (ls, ls ++ line ∷ [])) told) disk
  not_written None None left = tt
  not_written None (Some disk) left = absurd left
  not_written (Some ls) None left = absurd left
  not_written (Some ls) (Some disk) left = λ bytes may. ((left bytes may).0, prefix_trans (lines_of bytes) ls (ls ++ line ∷ []) (left bytes may).1 (line ∷ [], refl))

  pub is_kept : (told : Option (List (List ℕ))) (disk : Option Disk)
      → Becomes (option_map (λ ls. (ls, ls)) (option_map (λ ls. ls ++ line ∷ []) told)) disk → Becomes (option_map (λ ls. (ls, ls ++ line ∷ [])) told) disk
  is_kept None None left = tt
  is_kept None (Some disk) left = absurd left
  is_kept (Some ls) None left = absurd left
  is_kept (Some ls) (Some disk) left = λ bytes may. (prefix_trans ls (ls ++ line ∷ []) (lines_of bytes) (line ∷ [], refl) (left bytes may).0, (left bytes may).1)
