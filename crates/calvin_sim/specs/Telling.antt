-- What is told of a world. The text is of this project; what it tells is the serial run of the merged order of the
-- batches that were chosen (Thomson et al. 2012, section 3).
--     IsToldUpTo m show v last text      the lines of the serial run of the epochs up to the last one, if there is one, and then that one
--     IsTold m show v text      the same of the last epoch at whose end every node stands
use Rattle.std.specs.Prelude.{◌≡◌, ℕ, List, ◌++◌, map, Option}
use Rattle.std.specs.FinMap.{empty}
use Rattle.calvin_app.specs.Meaning.{Meaning}
use Rattle.calvin_app.specs.Serial.{serial}
use Rattle.calvin_order.specs.Configs.{order}
use Rattle.calvin_order.specs.Merged.{Assignment}
use Rattle.calvin_text.specs.Texts.{lines, finished}
use Rattle.calvin_world.specs.Worlds.{WorldState}
use Rattle.calvin_world.specs.Promises.{IsChosenUpTo}
use Rattle.calvin_report.specs.Replies.{epochs_upto}
use Rattle.calvin_report.specs.Reports.{least_standing}

module _ {Args Row Reply : Type 0} (m : Meaning Args Row Reply) (show : Reply → List ℕ) where
  -- a line for each request of a number of epochs, with its answer on no rows, and then the last epoch
  abbrev pub run_text : WorldState Args Row Reply → Assignment Args → ℕ → List ℕ
  run_text v B n = lines show (order v.config B n) (serial m (map (λ e. e.1) (order v.config B n)) empty).1 ++ finished n

  pub record IsToldUpTo (v : WorldState Args Row Reply) (last : Option ℕ) (text : List ℕ) : Type 0 where
    pub batches : Assignment Args
    pub chosen : IsChosenUpTo v batches (epochs_upto last)
    pub told : text ≡ run_text v batches (epochs_upto last)

  abbrev pub IsTold : WorldState Args Row Reply → List ℕ → Type 0
  IsTold v text = IsToldUpTo v (least_standing v) text
