use Rattle.std.proofs.Common.{Some, map, option_map, ap}
use Rattle.serde_json.specs.Data.{object}
use Rattle.calvin_script_events.specs.EventForms.{event_of}
use Rattle.calvin_event_tokens.proofs.Whole.{script_spelled}
use Rattle.calvin_event_tokens.proofs.script.read_script.Goals as goal

pub returns : goal.returns
returns g c =
    let o = c.in_ok-read_object.ensures in
    record {
      piece = object o.members;
      reads = o.reads;
      means = script_spelled g.Op.Operation.grammar o.members c.read_object.new.object c.in_ok-partitions.partitions c.in_ok-replicas.replicas (map event_of c.in_ok-events.events.items) o.held c.if-not-members.false
          (ap (option_map Some) c.in_ok-partitions.was) (ap (option_map Some) c.in_ok-replicas.was) (ap (option_map (λ v. Some (map event_of v.items))) c.in_ok-events.was);
    }
