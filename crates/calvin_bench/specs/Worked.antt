-- A worked list of steps, of any application: one partition, and one request that declares that it writes one key. It is
-- admitted, begins and is finished, and then the partition stands.
--     worked_request args, worked_order args, worked_steps      the request, the order and the steps
--     Stood m args      where they lead
use Rattle.std.specs.Prelude.{◌≡◌, List, [], ◌∷◌, Some, Ok, slice_get}
use Rattle.std.specs.FinMap.{empty}
use Rattle.calvin_types.specs.declared.key.Key.{Key}
use Rattle.calvin_types.specs.declared.place.Place.{Place}
use Rattle.calvin_types.specs.declared.txn.Txn.{Txn}
use Rattle.calvin_types.specs.Orders.{Order}
use Rattle.calvin_app.specs.Meaning.{Meaning}
use Rattle.calvin_app.specs.Rows.{view}
use Rattle.calvin_app.specs.Serial.{nameless, answer_on}
use Rattle.calvin_bench.specs.Steps.{Part, first_parts, Ran}
use Rattle.calvin_bench.specs.Replicas.{stands_in}
use Rattle.calvin_bench.specs.declared.step.Step.{Step}
use Rattle.calvin_bench.specs.declared.step.Step.TheVariants.{Admit, Begin, Finish}
use Rattle.calvin_bench.specs.declared.step.Outcome.TheVariants.{Admitted, Served, Answered}

abbrev pub worked_place : Place
worked_place = record { epoch = 0; n = 0 }

abbrev pub worked_key : Key
worked_key = record { table = 0; id = 1 }

abbrev pub worked_steps : List Step
worked_steps = Admit 0 ∷ Begin 0 worked_place ∷ Finish 0 worked_place ∷ []

module _ {Args : Type 0} where
  abbrev pub worked_request : Args → Txn Args
  worked_request args = nameless args (record { reads = []; writes = worked_key ∷ [] })

  abbrev pub worked_order : Args → Order Args
  worked_order args = (worked_place, worked_request args) ∷ []

-- the partition serves no rows, answers, and stands at the end of epoch 0
pub record Stood {Args Row Reply : Type 0} (m : Meaning Args Row Reply) (args : Args) : Type 0 where
  pub new : List (Part Args Row)
  pub ran : Ran m (worked_order args) (first_parts 1) worked_steps (Ok Admitted ∷ Ok (Served (view empty [])) ∷ Ok (Answered (answer_on m (worked_request args) empty)) ∷ []) new
  pub stands : stands_in (worked_order args) (slice_get new 0) ≡ Ok (Some 0)
