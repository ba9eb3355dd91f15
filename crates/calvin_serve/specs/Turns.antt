-- What a service makes of its input, turn by turn. The notions and the text are of this project.
--     Turn      requests that are one epoch, in the order in which they came; or a line that is no request, with its fault
--     lines_in turns      what the input's lines were read as
--     epoch_in_order partitions asked      the epoch of these requests
--     refusal k fault      `line K refused NUMBER NAME`
--     told m show setting k e rows turns      what is printed of turns, of which the first line is the input's line k and the first epoch has the number e, on these rows; and the rows after them
--     AreSpelled grammar partitions turns lines      the lines of a journal are those of the turns' epochs, in order, and each of these has a request
use Rattle.std.specs.Prelude.{◌≡◌, ◌≢◌, ℕ, suc, ◌+◌, List, [], ◌∷◌, ◌++◌, map, length, codes, decimal, Result, Ok, Err}
use Rattle.calvin_types.specs.declared.fault.Fault.{Fault}
use Rattle.calvin_types.specs.Faults.{number_of, name_of}
use Rattle.calvin_app.specs.Rows.{Rows}
use Rattle.calvin_app.specs.Meaning.{Meaning}
use Rattle.calvin_script.specs.Grammar.{Grammar}
use Rattle.calvin_script.specs.Reading.{and_then}
use Rattle.calvin_script.specs.Scripts.{Listed}
use Rattle.calvin_serve_desk.specs.declared.setting.Setting.{Setting}
use Rattle.calvin_serve_desk.specs.Epochs.{epoch_answers}
use Rattle.calvin_serve_lines.specs.Asking.{Asked}
use Rattle.calvin_serve_lines.specs.Epochs.{epoch_in}
use Rattle.calvin_serve_lines.specs.Gathered.{gathered, batches_of}

pub data Turn (Args : Type 0) : Type 0 where
  Epoch : (asked : List (Asked Args)) → Turn Args
  Refusal : (fault : Fault) → Turn Args

abbrev pub refusal : ℕ → Fault → List ℕ
refusal k fault = codes "line " ++ decimal k ++ codes " refused " ++ decimal (number_of fault) ++ codes " " ++ name_of fault ++ codes "\n"

module _ {Args : Type 0} where
  abbrev pub lines_in : List (Turn Args) → List (Result (Asked Args) Fault)
  lines_in [] = []
  lines_in (Epoch asked ∷ turns) = map Ok asked ++ lines_in turns
  lines_in (Refusal fault ∷ turns) = Err fault ∷ lines_in turns

  abbrev pub epoch_of_asked : ℕ → List (Asked Args) → List (Listed Args)
  epoch_of_asked partitions asked = batches_of (gathered partitions asked)

  abbrev pub AreSpelled : Grammar Args → ℕ → List (Turn Args) → List (List ℕ) → Type 0
  AreSpelled grammar partitions [] lines = lines ≡ []
  AreSpelled grammar partitions (Refusal fault ∷ turns) lines = AreSpelled grammar partitions turns lines
  AreSpelled grammar partitions (Epoch asked ∷ turns) [] = ⊥
  AreSpelled grammar partitions (Epoch asked ∷ turns) (line ∷ lines) =
      (asked ≢ []) × (epoch_in grammar partitions line ≡ Ok (epoch_of_asked partitions asked)) × AreSpelled grammar partitions turns lines

module _ {Args Row Reply : Type 0} (m : Meaning Args Row Reply) (show : Reply → List ℕ) (setting : Setting) where
  abbrev pub told : ℕ → ℕ → Rows Row → List (Turn Args) → Result (Rows Row × List ℕ) Fault
  told k e rows [] = Ok (rows, [])
  told k e rows (Refusal fault ∷ turns) = and_then (told (suc k) e rows turns) (λ later. Ok (later.0, refusal k fault ++ later.1))
  told k e rows (Epoch asked ∷ turns) = and_then (epoch_answers m show setting e rows (epoch_of_asked setting.partitions asked)) (λ here.
      and_then (told (k + length asked) (suc e) here.0 turns) (λ later. Ok (later.0, here.1 ++ later.1)))
