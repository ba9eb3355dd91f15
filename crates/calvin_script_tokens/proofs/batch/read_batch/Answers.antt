use Rattle.std.proofs.Common.{Some, option_map, sym, ap, ◌∙◌}
use Rattle.serde_json.specs.Data.{object}
use Rattle.calvin_script.specs.Scripts.{listed}
use Rattle.calvin_script_tokens.proofs.Found.{if_some}
use Rattle.calvin_script_tokens.proofs.Whole.{batch_spelled}
use Rattle.calvin_script_tokens.proofs.batch.read_batch.Goals as goal

pub returns : goal.returns
returns g c =
    let o = c.in_ok-read_object.ensures in
    if_some _ c.new.result (λ b is. record {
      piece = object o.members;
      reads = o.reads;
      means = batch_spelled g.Op.Operation.grammar o.members c.read_object.new.object c.in_ok-group.group c.in_ok-requests.requests.items (listed b) o.held
          (ap (option_map Some) c.in_ok-group.was) (ap (option_map (λ v. Some v.items)) c.in_ok-requests.was) (sym c.new.ensures ∙ ap (option_map listed) is);
    })
