-- The log of a history: an entry is an event, or the end. The notions are of this project.
--     events_of log      the events of a log, up to its end
--     as_log events      the log of these events, which has not ended
--     IsLegal log      nothing stands after the end
use Rattle.std.specs.Prelude.{◌≡◌, List, [], ◌∷◌, Option, Some, None}

module _ {E : Type 0} where
  abbrev pub events_of : List (Option E) → List E
  events_of [] = []
  events_of (Some event ∷ log) = event ∷ events_of log
  events_of (None ∷ log) = []

  abbrev pub as_log : List E → List (Option E)
  as_log [] = []
  as_log (event ∷ events) = Some event ∷ as_log events

  abbrev pub IsLegal : List (Option E) → Type 0
  IsLegal [] = Unit {0}
  IsLegal (Some event ∷ log) = IsLegal log
  IsLegal (None ∷ log) = log ≡ []
