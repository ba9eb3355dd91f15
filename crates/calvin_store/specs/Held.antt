-- The pairs of a snapshot, of which there is a list only where there are some. The notion is of this project.
--     pairs_in o      the pairs of the list, if there is one
--     held pairs      these pairs, in a list where there are some
--     AreHeld o      the pairs stand by ascending key, and a list isn't empty
use Rattle.std.specs.Prelude.{◌≢◌, List, [], ◌∷◌, Option, Some, None}
use Rattle.calvin_types.specs.declared.key.Key.{Key}
use Rattle.calvin_app.specs.Entries.{rising}

module _ {Row : Type 0} where
  abbrev pub pairs_in : Option (List (Key × Row)) → List (Key × Row)
  pairs_in None = []
  pairs_in (Some pairs) = pairs

  abbrev pub held : List (Key × Row) → Option (List (Key × Row))
  held [] = None
  held (p ∷ pairs) = Some (p ∷ pairs)

pub record AreHeld {Row : Type 0} (o : Option (List (Key × Row))) : Type 0 where
  pub rise : rising (pairs_in o)
  pub some : o ≢ Some []
