use Rattle.std.proofs.Common.{◌≡◌, drop}
use Rattle.std.specs.FinMap as map
use Rattle.calvin_types.specs.Keys.{key_cmp}
use Rattle.calvin_app.proofs.view.View.get_from.Given as goal

abbrev pub invariant-loop-i : goal.invariant-loop-i
invariant-loop-i g l = map.find key_cmp l.key (drop l.i l.self-inside.entries) ≡ map.find key_cmp l.key (drop l.fn.place l.self-inside.entries)
