-- What the epochs of a journal are answered, one after another. The text is of this project; what it tells is the serial run of
-- the merged order (Thomson et al. 2012, sections 3.1 and 3.2).
--     Setting      what a journal is of, beside its application: the partitions, and which sets a request has that declares none
--     in_order partitions e epoch      the requests of epoch e in merged order, each with its place
--     epoch_answers m show setting e rows epoch      the rows after epoch e is run on these rows, and a line for each request
--     answers m show setting e rows epochs      the same of epochs from e on, one after another
use Rattle.std.specs.Prelude.{ℕ, suc, List, [], ◌∷◌, ◌++◌, map, Result, Ok, None}
use Rattle.calvin_types.specs.declared.fault.Fault.{Fault}
use Rattle.calvin_types.specs.declared.place.Place.{Place}
use Rattle.calvin_app.specs.Rows.{Rows}
use Rattle.calvin_app.specs.Meaning.{Meaning}
use Rattle.calvin_app.specs.Serial.{serial}
use Rattle.calvin_order.specs.Configs.{store_config, merged}
use Rattle.calvin_script.specs.declared.contents.Request.{Request}
use Rattle.calvin_script.specs.Scripts.{Listed, requests_of}
use Rattle.calvin_script.specs.Reading.{and_then}
use Rattle.calvin_text.specs.Texts.{lines}
use Rattle.calvin_serial.specs.Scouting.{with_sets}
use Rattle.calvin_serve_desk.specs.declared.setting.Setting.{Setting}

-- no epoch of a journal is woven
abbrev pub in_order : {Args : Type 0} → ℕ → ℕ → List (Listed Args) → List (Place × Request Args)
in_order partitions e epoch = merged (store_config partitions 1 0 None) (λ slot. requests_of slot.group epoch) e

module _ {Args Row Reply : Type 0} (m : Meaning Args Row Reply) (show : Reply → List ℕ) (setting : Setting) where
  abbrev pub epoch_answers : ℕ → Rows Row → List (Listed Args) → Result (Rows Row × List ℕ) Fault
  epoch_answers e rows epoch = and_then (with_sets m setting.sets rows (in_order setting.partitions e epoch)) (λ placed.
      Ok ((serial m (map (λ p. p.1) placed) rows).0, lines show placed (serial m (map (λ p. p.1) placed) rows).1))

  abbrev pub answers : ℕ → Rows Row → List (List (Listed Args)) → Result (Rows Row × List ℕ) Fault
  answers e rows [] = Ok (rows, [])
  answers e rows (epoch ∷ epochs) = and_then (epoch_answers e rows epoch) (λ here.
      and_then (answers (suc e) here.0 epochs) (λ later. Ok (later.0, here.1 ++ later.1)))
