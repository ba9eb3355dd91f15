use Rattle.std.proofs.Common.{◌≡◌, map, drop, string_bytes}
use Rattle.serde_json.specs.Find.{as_str}
use Rattle.serde_json.specs.View.{view, items_view}
use Rattle.calvin_script.specs.Spelling.{each}
use Rattle.calvin_script.proofs.Lists.{with_front}
use Rattle.calvin_script_events.specs.EventScripts.{texts}
use Rattle.calvin_script_events.proofs.texts.texts_of.Given as goal

abbrev pub invariant-loop-item : goal.invariant-loop-item
invariant-loop-item l =
    with_front (map string_bytes l.found.items) (each as_str (items_view (drop l.item-index l.item-items))) ≡ texts (view l.value)
