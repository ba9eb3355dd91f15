use Rattle.serde_json.specs.Data.{object}
use Rattle.calvin_script_tokens.proofs.request.request_at.Goals as goal

pub returns : goal.returns
returns g c =
    let o = c.in_ok-read_object.ensures in
    record { piece = object o.members; reads = o.reads; means = c.in_ok-kept.ensures o.members o.held }
