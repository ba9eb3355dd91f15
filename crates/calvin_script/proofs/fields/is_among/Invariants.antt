use Rattle.std.proofs.Common.{◌≡◌, map, drop, bytes_eq}
use Rattle.std.specs.List.{list_any}
use Rattle.calvin_script.proofs.fields.is_among.Given as goal

abbrev pub invariant-loop-name : goal.invariant-loop-name
invariant-loop-name l = list_any (bytes_eq l.key) (map (λ name. name.now) (drop l.name-index l.names)) ≡ list_any (bytes_eq l.key) (map (λ name. name.now) l.names)
