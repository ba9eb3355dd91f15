-- What is written of a script. The form is of this project.
--     items_of texts      lists of bytes, apart from where they lie in memory
--     script_text      `{"partitions":P,"app":"NAME","epochs":[..]}`
use Rattle.std.specs.Prelude.{ℕ, List, ◌++◌, map, codes, decimal, Vec}
use Rattle.std.specs.declared.alloc.Global.{Global}
use Rattle.calvin_journal_texts.specs.Joined.{joined}

abbrev pub items_of : List (Vec ℕ Global) → List (List ℕ)
items_of texts = map (λ t. t.items) texts

abbrev pub script_front : ℕ → List ℕ → List ℕ
script_front partitions app = codes "{\"partitions\":" ++ decimal partitions ++ codes ",\"app\":\"" ++ app ++ codes "\",\"epochs\":["

abbrev pub script_text : ℕ → List ℕ → List (List ℕ) → List ℕ
script_text partitions app epochs = script_front partitions app ++ joined epochs ++ codes "]}"
