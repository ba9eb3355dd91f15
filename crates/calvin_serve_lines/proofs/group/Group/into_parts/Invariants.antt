use Rattle.std.proofs.Common.{◌≡◌, ◌≤◌, ◌++◌, map, true, Some}
use Rattle.std.specs.Vec.Iter.{into_iter_items}
use Rattle.serde_json.specs.Data.{items_depth}
use Rattle.serde_json.specs.View.{items_view}
use Rattle.calvin_script.specs.Requests.{request}
use Rattle.calvin_script.specs.Scripts.{are_taken}
use Rattle.calvin_script.specs.Spelling.{each}
use Rattle.calvin_serve_lines.specs.declared.limits.TheConstants.{MOST_LEVELS}
use Rattle.calvin_serve_lines.proofs.group.Group.into_parts.Given as goal

abbrev pub invariant-loop-asked : goal.invariant-loop-asked
invariant-loop-asked g l =
    (each (request g.Op.Operation.grammar) (items_view l.json.items) ≡ Some l.requests.items) × (items_depth (items_view l.json.items) ≤ MOST_LEVELS)
    × (are_taken l.requests.items ≡ true) × (l.requests.items ++ map (λ a. a.request) (into_iter_items l.asked-iterator) ≡ l.fn.self)
