-- What the tokens of a reader spell: the data that serde_json reads from them, and what that data spells in a script. The
-- notion is of this project; the tokens are those of the kit's json.
--     Reads deep ts d rest      the tokens are those of d, which nests at most `deep` levels, and then the rest
--     ReadsItems deep ts ds rest      the same of what stands in an array
--     Spells f deep ts x rest      the tokens are those of data that spells x, and then the rest
--     SpellsBehind f deep ts x rest      the tokens are those of what follows a name in an array that spells x, whatever the name is, and then the rest
--     SpellsOneMore f deep ts before after rest      the same of one thing, which was put behind a list
--     key_or_end name      the name of a member, or the brace that closes its object
--     MemberRead holds deep found name ts x rest      a member was read, and what was gathered is x
--     ObjectRead holds deep ts x rest      an object was read, and what was gathered of its members is x
use Rattle.std.specs.Prelude.{◌≡◌, ◌≤◌, ℕ, List, [], ◌∷◌, ◌++◌, length, Option, Some, None}
use Rattle.json.specs.Token.{Token}
use Rattle.json.specs.Json as json
use Rattle.serde_json.specs.Data.{Data, array, object, Items, item, Members, put}
use Rattle.serde_json.specs.Read.{of_json, of_items, converted}

pub record Reads (deep : ℕ) (ts : List Token) (d : Data) (rest : List Token) : Type 0 where
  pub at : (depth : ℕ) → deep ≤ depth → converted of_json (json.value depth ts) ≡ Some (d, rest)

pub record ReadsItems (deep : ℕ) (ts : List Token) (ds : Items) (rest : List Token) : Type 0 where
  pub at : (depth n : ℕ) → deep ≤ depth → length ts ≤ n → converted of_items (json.items (json.value depth) n ts) ≡ Some (ds, rest)

pub record Spells {A : Type 0} (f : Data → Option A) (deep : ℕ) (ts : List Token) (x : A) (rest : List Token) : Type 0 where
  pub piece : Data
  pub reads : Reads deep ts piece rest
  pub means : f piece ≡ Some x

pub record SpellsBehind {A : Type 0} (f : Data → Option A) (deep : ℕ) (ts : List Token) (x : A) (rest : List Token) : Type 0 where
  pub pieces : Items
  pub reads : ReadsItems deep ts pieces rest
  pub means : (name : Data) → f (array (item name pieces)) ≡ Some x

pub record SpellsOneMore {A : Type 0} (f : Data → Option A) (deep : ℕ) (ts : List Token) (before after : List A) (rest : List Token) : Type 0 where
  pub one : A
  pub spells : Spells f deep ts one rest
  pub more : after ≡ before ++ one ∷ []

abbrev pub key_or_end : Option (List ℕ) → Token
key_or_end None = Token.end_object
key_or_end (Some name) = Token.key name

pub record MemberRead {A : Type 0} (holds : Members → A → Type 0) (deep : ℕ) (found : Members) (name : List ℕ) (ts : List Token) (x : A) (rest : List Token) : Type 0 where
  pub piece : Data
  pub reads : Reads deep ts piece rest
  pub held : holds (put name piece found) x

pub record ObjectRead {A : Type 0} (holds : Members → A → Type 0) (deep : ℕ) (ts : List Token) (x : A) (rest : List Token) : Type 0 where
  pub members : Members
  pub reads : Reads deep ts (object members) rest
  pub held : holds members x
