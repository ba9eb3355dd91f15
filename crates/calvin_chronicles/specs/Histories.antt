-- The log of nodes' histories, and the history of one node, whose entries are its events, and then the end. The notions are of
-- this project.
--     entry_at node entry      what an entry of the log is in the node's history: an event, the end, or nothing
--     part_at node log      the node's history in a log
--     nodes_of log      how many nodes there are, as the first entry says
--     events_of history      the events of a history, up to its end
--     as_log events      the history of these events, which has not ended
--     IsLegal history      nothing stands after the end
use Rattle.std.specs.Prelude.{ℕ, ◌≡◌, ◌==◌, List, [], ◌∷◌, ◌++◌, Option, Some, None, if◌then◌else◌}
use Rattle.calvin_chronicles.specs.declared.law.Entry.{Entry}
use Rattle.calvin_chronicles.specs.declared.law.Entry.TheVariants.{Nodes, Did, Ended}

module _ {E : Type 0} where
  abbrev pub entry_at : ℕ → Entry E → List (Option E)
  entry_at node (Nodes count) = []
  entry_at node (Did at event) = if at == node then Some event ∷ [] else []
  entry_at node (Ended at) = if at == node then None ∷ [] else []

  abbrev pub part_at : ℕ → List (Entry E) → List (Option E)
  part_at node [] = []
  part_at node (entry ∷ log) = entry_at node entry ++ part_at node log

  abbrev pub nodes_of : List (Entry E) → ℕ
  nodes_of (Nodes count ∷ log) = count
  nodes_of _ = 0

  abbrev pub events_of : List (Option E) → List E
  events_of [] = []
  events_of (Some event ∷ history) = event ∷ events_of history
  events_of (None ∷ history) = []

  abbrev pub as_log : List E → List (Option E)
  as_log [] = []
  as_log (event ∷ events) = Some event ∷ as_log events

  abbrev pub IsLegal : List (Option E) → Type 0
  IsLegal [] = Unit {0}
  IsLegal (Some event ∷ history) = IsLegal history
  IsLegal (None ∷ history) = history ≡ []
