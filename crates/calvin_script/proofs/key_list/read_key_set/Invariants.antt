use Rattle.std.proofs.Common.{◌≡◌, ◌≤◌, length, drop}
use Rattle.serde_json.specs.View.{view, items_view}
use Rattle.calvin_script.specs.KeyLists.{key_set}
use Rattle.calvin_script.proofs.KeySets.{grown}
use Rattle.calvin_script.proofs.key_list.read_key_set.Given as goal

abbrev pub invariant-loop-item : goal.invariant-loop-item
invariant-loop-item g l = record {
  grown : grown g.F.KeyForm.form (items_view (drop l.item-index l.item-items)) l.keys ≡ key_set g.F.KeyForm.form (view l.value);
  at_most : length l.keys ≤ 16;
}
