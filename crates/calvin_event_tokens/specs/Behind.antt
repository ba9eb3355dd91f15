-- What tokens behind the node of an event spell. The notion is of this project; the tokens are those of the kit's json.
--     SpellsBehindNode f deep ts x rest      the tokens are those of what follows a name and the two numbers of a node in an array that spells x, whatever these are, and then the rest
use Rattle.std.specs.Prelude.{◌≡◌, ℕ, List, Option, Some}
use Rattle.json.specs.Token.{Token}
use Rattle.serde_json.specs.Data.{Data, array, Items, item}
use Rattle.calvin_script_tokens.specs.Spelled.{ReadsItems}

pub record SpellsBehindNode {A : Type 0} (f : Data → Option A) (deep : ℕ) (ts : List Token) (x : A) (rest : List Token) : Type 0 where
  pub pieces : Items
  pub reads : ReadsItems deep ts pieces rest
  pub means : (name r p : Data) → f (array (item name (item r (item p pieces)))) ≡ Some x
