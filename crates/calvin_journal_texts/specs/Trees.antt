-- The JSON of a script, and its text, without spaces. The form is of this project.
--     printed j      the text of JSON
--     script_json      the same as `{"partitions":P,"app":NAME,"epochs":[..]}`
use Rattle.std.specs.Prelude.{ℕ, List, [], ◌∷◌, codes, decimal}
use Rattle.json.specs.Json.{Json, number, string, array, object, Items, no_items, item, no_members, member}
use Rattle.json.specs.Print.{print}
use Rattle.json.specs.Tree.{json_tokens}

abbrev pub printed : Json → List ℕ
printed j = print (json_tokens j)

abbrev pub items_list : List Json → Items
items_list [] = no_items
items_list (j ∷ js) = item j (items_list js)

abbrev pub script_json : ℕ → List ℕ → List Json → Json
script_json partitions app epochs =
    object (member (codes "partitions") (number (decimal partitions)) (member (codes "app") (string app) (member (codes "epochs") (array (items_list epochs)) no_members)))
