-- For private clauses: the JSON of batches.
--     batch_data group requests      `{"group":G,"txns":[..]}`
--     IsSpelled grammar ds batches      the items spell these batches, and nest no deeper than a line's requests allow
use Rattle.std.specs.Prelude.{◌≡◌, ◌+◌, ◌≤◌, ℕ, List, Some, codes}
use Rattle.serde_json.specs.Data.{Data, number, array, object, unsigned, Items, no_members, member, items_depth}
use Rattle.calvin_script.specs.Spelling.{each}
use Rattle.calvin_script.specs.Grammar.{Grammar}
use Rattle.calvin_script.specs.Scripts.{Listed, batch}
use Rattle.calvin_serve_lines.specs.declared.limits.TheConstants.{MOST_LEVELS}

abbrev pub batch_data : ℕ → Items → Data
batch_data group requests = object (member (codes "group") (number (unsigned group)) (member (codes "txns") (array requests) no_members))

abbrev pub IsSpelled : {Args : Type 0} → Grammar Args → Items → List (Listed Args) → Type 0
IsSpelled grammar ds batches = (each (batch grammar) ds ≡ Some batches) × (items_depth ds ≤ MOST_LEVELS + 2)
