-- Requests that wait for the epoch to come, by groups. The notions are of this project.
--     waiting_for group asked      the requests of a group, in the order in which they came
--     gathered partitions asked      those of each group
--     has_room waiting group      the group is one of the partitions, and fewer requests wait for it than a batch has
--     batch_if group requests      the batch of a group, where it has a request
--     batches_of waiting      the batches of the groups that have requests, in ascending order of groups
use Rattle.std.specs.Prelude.{ℕ, ◌+◌, ◌&&◌, ◌==◌, List, [], ◌∷◌, ◌++◌, length, map, get_or, Bool, nat_lt, nat_eq}
use Rattle.std.specs.List.{filter, list_all, range_with_len}
use Rattle.calvin_types.specs.declared.limits.TheConstants.{MOST_REQUESTS}
use Rattle.calvin_script.specs.declared.contents.Request.{Request}
use Rattle.calvin_script.specs.Scripts.{Listed}
use Rattle.calvin_serve_lines.specs.Asking.{Asked}

module _ {Args : Type 0} where
  abbrev pub waiting_for : ℕ → List (Asked Args) → List (Request Args)
  waiting_for group asked = map (λ a. a.request) (filter (λ a. nat_eq a.group group) asked)

  abbrev pub gathered : ℕ → List (Asked Args) → List (List (Request Args))
  gathered partitions asked = map (λ group. waiting_for group asked) (range_with_len 0 partitions)

  abbrev pub has_room : List (List (Request Args)) → ℕ → Bool
  has_room waiting group = nat_lt group (length waiting) && nat_lt (length (get_or waiting group [])) MOST_REQUESTS

  abbrev pub is_empty : List (List (Request Args)) → Bool
  is_empty waiting = list_all (λ requests. length requests == 0) waiting

  abbrev pub batch_if : ℕ → List (Request Args) → List (Listed Args)
  batch_if group [] = []
  batch_if group (r ∷ rs) = record { group = group; requests = r ∷ rs } ∷ []

  abbrev pub batches_from : ℕ → List (List (Request Args)) → List (Listed Args)
  batches_from group [] = []
  batches_from group (requests ∷ waiting) = batch_if group requests ++ batches_from (group + 1) waiting

  abbrev pub batches_of : List (List (Request Args)) → List (Listed Args)
  batches_of waiting = batches_from 0 waiting
