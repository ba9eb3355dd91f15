-- What stands inside an array or an object, in the words of the proofs alone.
--     ReadsMembers deep ts found ms rest      the tokens are those of what stands in an object of which members were found before
--     SpellsEach f deep ts xs rest      the tokens are those of what stands in an array and spells the list xs
use Rattle.std.specs.Prelude.{◌≡◌, ◌≤◌, ℕ, List, length, Option, Some}
use Rattle.json.specs.Token.{Token}
use Rattle.json.specs.Json as json
use Rattle.serde_json.specs.Data.{Data, Items, Members}
use Rattle.serde_json.specs.Read.{of_members, converted}
use Rattle.calvin_script.specs.Spelling.{each}
use Rattle.calvin_script_tokens.specs.Spelled.{ReadsItems}

pub record ReadsMembers (deep : ℕ) (ts : List Token) (found ms : Members) (rest : List Token) : Type 0 where
  pub at : (depth n : ℕ) → deep ≤ depth → length ts ≤ n → converted (λ l. of_members l found) (json.members (json.value depth) n ts) ≡ Some (ms, rest)

pub record SpellsEach {A : Type 0} (f : Data → Option A) (deep : ℕ) (ts : List Token) (xs : List A) (rest : List Token) : Type 0 where
  pub pieces : Items
  pub reads : ReadsItems deep ts pieces rest
  pub means : each f pieces ≡ Some xs
