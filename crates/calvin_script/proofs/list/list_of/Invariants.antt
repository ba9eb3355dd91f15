use Rattle.std.proofs.Common.{◌≡◌, map}
use Rattle.std.specs.Vec.Iter.{into_iter_items}
use Rattle.serde_json.specs.View.{view, items_view}
use Rattle.calvin_script.specs.Spelling.{list, each}
use Rattle.calvin_script.proofs.Lists.{with_front}
use Rattle.calvin_script.proofs.list.list_of.Given as goal

abbrev pub invariant-loop-item : goal.invariant-loop-item
invariant-loop-item g l =
    let one = g.T.Spelled in
    with_front (map one.meaning l.found.items) (each one.spelled (items_view (into_iter_items l.item-iterator))) ≡ list one.spelled (view l.fn.value)
