-- What is joined of texts is what a writer prints of their JSON.
use Rattle.std.proofs.Common.{ℕ, ◌≡◌, List, [], ◌∷◌, ◌++◌, false, map, codes, decimal, refl, sym, ◌∙◌, ap, append_assoc, append-nil, ◌≤◌, option_and_then}
use Rattle.json.specs.Token.{Token}
use Rattle.json.specs.Json.{Json, value, if_last}
use Rattle.json.specs.Print.{print_from, escape, escape_byte}
use Rattle.json.specs.Tree.{json_tokens, items_tokens, HasNumbers, depth}
use Rattle.json.proofs.Printed.Tokens.{tokens-print}
use Rattle.json.proofs.Printed.Trees.{ArePrintable-json_tokens, value-json_tokens}
use Rattle.serde_json.specs.Read.{read, of_json, max_depth}
use Rattle.calvin_journal_texts.specs.Joined.{joined}
use Rattle.calvin_journal_texts.specs.Texts.{script_front, script_text}
use Rattle.calvin_journal_texts.specs.Trees.{printed, items_list, script_json}
use Rattle.calvin_journal_texts.proofs.Wrapped.{print_from-append, items_end, joined_items}

-- an array and what closes the object round it
closed : (js : List Json) → print_from false (items_tokens (items_list js) ++ Token.end_object ∷ []) ≡ joined (map printed js) ++ codes "]}"
unfolding print_from
closed js =
    print_from-append false (items_tokens (items_list js)) (Token.end_object ∷ [])
    ∙ ap (λ b. print_from false (items_tokens (items_list js)) ++ print_from b (Token.end_object ∷ [])) (items_end false (items_list js))
    ∙ ap (λ w. w ++ 125 ∷ []) (joined_items js) ∙ append_assoc (joined (map printed js)) (93 ∷ []) (125 ∷ [])

to_right : (a b c d e : List ℕ) → (((a ++ b) ++ c) ++ d) ++ e ≡ a ++ (b ++ (c ++ (d ++ e)))
to_right a b c d e = append_assoc ((a ++ b) ++ c) d e ∙ append_assoc (a ++ b) c (d ++ e) ∙ append_assoc a b (c ++ (d ++ e))

module _ (partitions : ℕ) (app : List ℕ) (js : List Json) (plain : escape app ≡ app) where
  abbrev rest : List ℕ
  rest = print_from false (items_tokens (items_list js) ++ Token.end_object ∷ [])

  -- what stands behind the front, behind all of the front
  front_to_right : (w : List ℕ) → script_front partitions app ++ w ≡ codes "{\"partitions\":" ++ (decimal partitions ++ (codes ",\"app\":\"" ++ (app ++ (codes "\",\"epochs\":[" ++ w))))
  front_to_right w =
      append_assoc (((codes "{\"partitions\":" ++ decimal partitions) ++ codes ",\"app\":\"") ++ app) (codes "\",\"epochs\":[") w
      ∙ to_right (codes "{\"partitions\":") (decimal partitions) (codes ",\"app\":\"") app (codes "\",\"epochs\":[" ++ w)

  quoted_app : app ++ (34 ∷ (codes ",\"epochs\":[" ++ rest)) ≡ (escape app ++ 34 ∷ []) ++ (codes ",\"epochs\":[" ++ rest)
  quoted_app = sym (append_assoc app (34 ∷ []) (codes ",\"epochs\":[" ++ rest)) ∙ ap (λ a. (a ++ 34 ∷ []) ++ (codes ",\"epochs\":[" ++ rest)) (sym plain)

  pub script_printed : (epochs : List (List ℕ)) → epochs ≡ map printed js → script_text partitions app epochs ≡ printed (script_json partitions app js)
  unfolding print_from escape_byte
  script_printed epochs is =
      ap (script_text partitions app) is ∙ append_assoc (script_front partitions app) (joined (map printed js)) (codes "]}")
      ∙ ap (λ w. script_front partitions app ++ w) (sym (closed js)) ∙ front_to_right rest
      ∙ ap (λ w. codes "{\"partitions\":" ++ (decimal partitions ++ (codes ",\"app\":\"" ++ w))) quoted_app

-- printed JSON is read as it is, where it nests no deeper than is read
pub read-printed : (j : Json) → HasNumbers j → depth j ≤ max_depth → read (printed j) ≡ of_json j
read-printed j numbers shallow =
    ap (λ r. option_and_then of_json (option_and_then (λ p. if_last p.0 p.1) r))
    (ap (value max_depth) (tokens-print (json_tokens j) (ArePrintable-json_tokens j numbers) ∙ sym (append-nil (json_tokens j))) ∙ value-json_tokens j max_depth [] shallow)
