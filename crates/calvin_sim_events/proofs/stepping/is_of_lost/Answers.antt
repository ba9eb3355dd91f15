-- Whether it is lost is told by who sent it; a packet that isn't there isn't lost.
use Rattle.std.proofs.Common.{◌≡◌, ℕ, ◌≤◌, List, None, slice_get, sym, ap, subst, ◌∙◌}
use Rattle.std.proofs.lemmas.Bool.{le-ltb}
use Rattle.std.proofs.lemmas.Option.{slice_get_past}
use Rattle.calvin_node_packets.specs.declared.packet.Packet.{Packet}
use Rattle.calvin_report.specs.Reports.{is_lost}
use Rattle.calvin_sim_events.specs.Quiet.{is_of_lost}
use Rattle.calvin_sim_events.proofs.Looking.{lost_by}
use Rattle.calvin_sim_events.proofs.stepping.is_of_lost.Goals as goal

pub returns-then-number-len : goal.returns-then-number-len
returns-then-number-len g c =
    let sent = c.packets-packets.result.now.packets in
    c.is_lost.ensures ∙ lost_by (is_lost c.args.lost) (slice_get sent c.args.number) c.sender.result c.sender.ensures
    ∙ ap (λ (ps : List (Packet g.row.A-Args.Denot g.row.A-Row.Denot g.row.A-Reply.Denot)). is_of_lost (is_lost c.args.lost) (slice_get ps c.args.number)) c.packets-packets.ensures

pub returns-else-number-len : goal.returns-else-number-len
returns-else-number-len g c =
    let sent = c.packets-packets.result.now.packets in
    let past = slice_get_past sent c.args.number (subst (λ (n : ℕ). n ≤ c.args.number) c.len.ensures c.if-number-len.false) in
    le-ltb c.args.number c.len.result c.if-number-len.false ∙ sym (ap (is_of_lost (is_lost c.args.lost)) (subst (λ (ps : List (Packet g.row.A-Args.Denot g.row.A-Row.Denot g.row.A-Reply.Denot)). slice_get ps c.args.number ≡ None) c.packets-packets.ensures past))
