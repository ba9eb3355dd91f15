use Rattle.std.proofs.Common.{Err, subst}
use Rattle.calvin_synod.specs.Cases as cases
use Rattle.calvin_synod.specs.Cases.{message_grows}
use Rattle.calvin_synod.specs.Deeds.{Did}
use Rattle.calvin_node_packets.proofs.MemberSteps.{not_taken}
use Rattle.calvin_node_packets.proofs.outbox.Outbox.post_letters.Goals as goal

pub returns-in-Err : goal.returns-in-Err
returns-in-Err g c =
    let m = c.args.member.now in
    let message = c.args.message.now in
    let deed = cases.handle m.size c.args.from message m.replica in
    let did = subst (λ k. Did (message_grows k) (Err c.in-Err.fault) (cases.handle m.size c.args.from k m.replica) m c.take.new.self) c.in_ok-message.ensures.ok c.in-Err.ensures in
    record { did = not_taken c.args.config.now.replicas c.args.config.now.partitions c.args.me m c.args.self.now.packets (message_grows message) (message_grows message) deed c.in_ok-answer.answer c.in-Err.fault c.take.new.self c.in_ok-answer.ensures did _ c.post.new.self.packets c.take_back.new.self.packets c.in_ok-post.ensures.sent c.len-sent.result c.len-sent.ensures c.take_back.ensures.packets }
