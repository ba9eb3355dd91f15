-- Printed values, joined by commas, are the printed items of an array.
use Rattle.std.proofs.Common.{◌≡◌, List, [], ◌∷◌, ◌++◌, Bool, true, false, map, refl, sym, ◌∙◌, ap, append_assoc}
use Rattle.json.specs.Token.{Token}
use Rattle.json.specs.Json.{Json, null, boolean, number, string, array, object, Items, no_items, item, Members, no_members, member}
use Rattle.json.specs.Print.{print, print_from, separator, token_text, ends}
use Rattle.json.specs.Tree.{json_tokens, items_tokens, members_tokens}
use Rattle.calvin_journal_texts.specs.Joined.{joined, continued}
use Rattle.calvin_journal_texts.specs.Trees.{printed, items_list}

-- whether the last token ends a value
abbrev pub ends_after : Bool → List Token → Bool
ends_after after [] = after
ends_after after (t ∷ ts) = ends_after (ends t) ts

pub print_from-append : (after : Bool) (ts us : List Token) → print_from after (ts ++ us) ≡ print_from after ts ++ print_from (ends_after after ts) us
unfolding print_from
print_from-append after [] us = refl
print_from-append after (t ∷ ts) us =
    ap (λ w. separator after t ++ (token_text t ++ w)) (print_from-append (ends t) ts us)
    ∙ ap (λ w. separator after t ++ w) (sym (append_assoc (token_text t) (print_from (ends t) ts) (print_from (ends_after (ends t) ts) us)))
    ∙ sym (append_assoc (separator after t) (token_text t ++ print_from (ends t) ts) (print_from (ends_after (ends t) ts) us))

ends_after-append : (after : Bool) (ts us : List Token) → ends_after after (ts ++ us) ≡ ends_after (ends_after after ts) us
ends_after-append after [] us = refl
ends_after-append after (t ∷ ts) us = ends_after-append (ends t) ts us

mutual
  json_ends : (after : Bool) (j : Json) → ends_after after (json_tokens j) ≡ true
  json_ends after null = refl
  json_ends after (boolean b) = refl
  json_ends after (number s) = refl
  json_ends after (string s) = refl
  json_ends after (array js) = items_end false js
  json_ends after (object ms) = members_end false ms

  pub items_end : (after : Bool) (js : Items) → ends_after after (items_tokens js) ≡ true
  items_end after no_items = refl
  items_end after (item j js) = ends_after-append after (json_tokens j) (items_tokens js) ∙ items_end (ends_after after (json_tokens j)) js

  members_end : (after : Bool) (ms : Members) → ends_after after (members_tokens ms) ≡ true
  members_end after no_members = refl
  members_end after (member k j ms) = ends_after-append false (json_tokens j) (members_tokens ms) ∙ members_end (ends_after false (json_tokens j)) ms

-- a value behind another has a comma before it
comma_before : (j : Json) → print_from true (json_tokens j) ≡ 44 ∷ print_from false (json_tokens j)
unfolding print_from
comma_before null = refl
comma_before (boolean b) = refl
comma_before (number s) = refl
comma_before (string s) = refl
comma_before (array js) = refl
comma_before (object ms) = refl

more_items : (js : List Json) → print_from true (items_tokens (items_list js)) ≡ continued (map printed js) ++ 93 ∷ []
unfolding print_from
more_items [] = refl
more_items (j ∷ js) =
    print_from-append true (json_tokens j) (items_tokens (items_list js))
    ∙ ap (λ w. w ++ print_from (ends_after true (json_tokens j)) (items_tokens (items_list js))) (comma_before j)
    ∙ ap (λ b. (44 ∷ print (json_tokens j)) ++ print_from b (items_tokens (items_list js))) (json_ends true j)
    ∙ ap (λ w. (44 ∷ print (json_tokens j)) ++ w) (more_items js)
    ∙ sym (append_assoc (44 ∷ print (json_tokens j)) (continued (map printed js)) (93 ∷ []))

-- the items of an array, as they are printed behind its bracket
pub joined_items : (js : List Json) → print_from false (items_tokens (items_list js)) ≡ joined (map printed js) ++ 93 ∷ []
unfolding print_from
joined_items [] = refl
joined_items (j ∷ js) =
    print_from-append false (json_tokens j) (items_tokens (items_list js))
    ∙ ap (λ b. print (json_tokens j) ++ print_from b (items_tokens (items_list js))) (json_ends false j)
    ∙ ap (λ w. print (json_tokens j) ++ w) (more_items js)
    ∙ sym (append_assoc (print (json_tokens j)) (continued (map printed js)) (93 ∷ []))
