use Rattle.std.proofs.Common.{◌≡◌, map}
use Rattle.serde_json.specs.View.{members_view}
use Rattle.calvin_script.specs.Spelling.{are_named}
use Rattle.calvin_script.proofs.fields.are_among.Given as goal

abbrev pub invariant-loop-key : goal.invariant-loop-key
invariant-loop-key l = are_named (map (λ name. name.now) l.names) (members_view l.key-iterator) ≡ are_named (map (λ name. name.now) l.names) (members_view l.members.entries)
