use Rattle.std.proofs.Common.{Some, map, option_map, sym, ap, ◌∙◌}
use Rattle.serde_json.specs.Data.{object}
use Rattle.calvin_script.specs.Scripts.{all_listed, contents}
use Rattle.calvin_script_tokens.proofs.Found.{if_some}
use Rattle.calvin_script_tokens.proofs.Whole.{script_spelled}
use Rattle.calvin_script_tokens.proofs.script.read_script.Goals as goal

pub returns : goal.returns
returns g c =
    let o = c.in_ok-read_object.ensures in
    let m = c.read_object.new.object in
    if_some _ c.new.result (λ s is. record {
      piece = object o.members;
      reads = o.reads;
      means = script_spelled g.Op.Operation.grammar o.members m c.in_ok-partitions.partitions (map all_listed c.in_ok-epochs.epochs.items) (contents s) o.held c.if-not-members.false
          (ap (option_map Some) c.in_ok-partitions.was) (ap (option_map (λ v. Some (map all_listed v.items))) c.in_ok-epochs.was) (sym c.new.ensures ∙ ap (option_map contents) is);
    })
