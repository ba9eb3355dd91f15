-- What an application adds to the form of scripts. The form of scripts is of this project.
--     Grammar Args      its name, how its operations are written, the sets of each on the empty view, and how declared sets are completed
--     as_declared      declared sets are complete
use Rattle.std.specs.Prelude.{ℕ, List, Option, Some}
use Rattle.serde_json.specs.Data.{Data}
use Rattle.calvin_types.specs.declared.key_set.Sets.{Sets}
use Rattle.calvin_types.specs.declared.place.RequestId.{RequestId}

pub record Grammar (Args : Type 0) : Type 0 where
  pub app_name : List ℕ
  -- the operation of the request with this name
  pub operation : RequestId → Data → Option Args
  pub first_needs : Args → Sets
  -- the declared sets with the keys that the application adds itself, if they have room
  pub completed : Args → Sets → Option Sets

-- an application that adds none
abbrev pub as_declared : {Args : Type 0} → Args → Sets → Option Sets
as_declared args sets = Some sets
