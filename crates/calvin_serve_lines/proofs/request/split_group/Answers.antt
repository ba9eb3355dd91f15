use Rattle.std.proofs.Common.{◌∙◌, codes, option_map, sym, ap}
use Rattle.serde_json.specs.Find.{get}
use Rattle.serde_json.specs.View.{view}
use Rattle.calvin_serve_lines.proofs.Objects.{group_out}
use Rattle.calvin_serve_lines.proofs.request.split_group.Goals as goal

pub returns-in-Object-clause-group : goal.returns-in-Object-clause-group
returns-in-Object-clause-group c = ap (option_map view) c.remove-group.ensures.value ∙ group_out c.in-Object.members ∙ sym (ap (λ v. get (codes "group") (view v)) c.in-Object.is)
