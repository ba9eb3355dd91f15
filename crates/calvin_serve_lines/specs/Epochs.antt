-- The line of an epoch in a journal: the epoch as a script lists it. The form is of this project.
--     fitting partitions batches      the batches, where each group is one of the partitions and none is listed twice
--     epoch_of grammar partitions d      the batches of `[{"group":G,"txns":[TXN, ..]}, ..]`, where they fit
--     epoch_in grammar partitions line      those that the line lists, or BadJson, or BadScript
use Rattle.std.specs.Prelude.{ℕ, List, Option, Some, Result, ok_or}
use Rattle.serde_json.specs.Data.{Data}
use Rattle.calvin_types.specs.declared.fault.Fault.{Fault}
use Rattle.calvin_types.specs.declared.fault.Fault.TheVariants.{BadScript}
use Rattle.calvin_script.specs.Spelling.{◌>>=◌, only_if, list}
use Rattle.calvin_script.specs.Grammar.{Grammar}
use Rattle.calvin_script.specs.Reading.{json, and_then}
use Rattle.calvin_script.specs.Scripts.{Listed, batch, groups_fit}

module _ {Args : Type 0} where
  abbrev pub fitting : ℕ → List (Listed Args) → Option (List (Listed Args))
  fitting partitions batches = only_if (groups_fit partitions batches) (Some batches)

  abbrev pub epoch_of : Grammar Args → ℕ → Data → Option (List (Listed Args))
  epoch_of grammar partitions d = list (batch grammar) d >>= fitting partitions

  unfoldable pub epoch_in : Grammar Args → ℕ → List ℕ → Result (List (Listed Args)) Fault
  epoch_in grammar partitions line = and_then (json line) (λ d. ok_or (epoch_of grammar partitions d) BadScript)
