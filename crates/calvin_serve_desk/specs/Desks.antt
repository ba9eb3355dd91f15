-- A desk: a journal, and a store where its epochs leave it. The notions are of this project.
--     Standing Row      the journal's lines, where its log tells its bytes; how many calls of the log were refused; the number of the next epoch; the rows
--     Commits m show setting old line epoch new text longer      one epoch more: its line is the journal's last one, it was run, and a line for each request was added to the text
use Rattle.std.specs.Prelude.{◌≡◌, ℕ, ◌+◌, List, [], ◌∷◌, ◌++◌, Option, option_map, Ok}
use Rattle.calvin_app.specs.Rows.{Rows}
use Rattle.calvin_app.specs.Meaning.{Meaning}
use Rattle.calvin_script.specs.Scripts.{Listed}
use Rattle.calvin_serve_desk.specs.declared.setting.Setting.{Setting}
use Rattle.calvin_serve_desk.specs.Epochs.{epoch_answers}

pub record Standing (Row : Type 0) : Type 0 where
  pub setting : Setting
  pub lines : Option (List (List ℕ))
  pub failures : ℕ
  pub epoch : ℕ
  pub rows : Rows Row

module _ {Args Row Reply : Type 0} (m : Meaning Args Row Reply) (show : Reply → List ℕ) where
  pub record Commits (old : Standing Row) (line : List ℕ) (epoch : List (Listed Args)) (new : Standing Row) (text longer : List ℕ) : Type 0 where
    pub here : List ℕ
    pub answered : epoch_answers m show old.setting old.epoch old.rows epoch ≡ Ok (new.rows, here)
    pub added : longer ≡ text ++ here
    pub stands : new ≡ record { setting = old.setting; lines = option_map (λ ls. ls ++ line ∷ []) old.lines; failures = old.failures; epoch = old.epoch + 1; rows = new.rows }
