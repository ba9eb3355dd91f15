use Rattle.std.proofs.Common.{true, false, Ok, Err, subst}
use Rattle.calvin_synod.specs.Cases as cases
use Rattle.calvin_synod.specs.Deeds.{Did}
use Rattle.calvin_node_packets.proofs.MemberSteps.{none_begun, not_taken, taken}
use Rattle.calvin_node_packets.proofs.outbox.Outbox.post_ballot.Goals as goal

pub returns-in-Ok : goal.returns-in-Ok
returns-in-Ok g c =
    let m = c.args.member.now in
    let deed = cases.propose m.me c.args.slot c.args.batch.now m.replica in
    let did = subst (λ b. Did true (Ok c.in-Ok.given) (cases.propose m.me c.args.slot b m.replica) m c.propose.new.self) c.in_ok-batch.ensures.ok c.in-Ok.ensures in
    record { did = taken _ c.args.config.now.partitions _ m _ false true deed c.in_ok-mail.mail c.in-Ok.given c.propose.new.self (none_begun m.me c.args.slot c.args.batch.now m.replica) (c.in_ok-mail.ensures c.args.batch.now) did c.post.new.self.packets c.in_ok-post.ensures.sent }

pub returns-in-Err : goal.returns-in-Err
returns-in-Err g c =
    let m = c.args.member.now in
    let deed = cases.propose m.me c.args.slot c.args.batch.now m.replica in
    let did = subst (λ b. Did true (Err c.in-Err.fault) (cases.propose m.me c.args.slot b m.replica) m c.propose.new.self) c.in_ok-batch.ensures.ok c.in-Err.ensures in
    record { did = not_taken c.args.config.now.replicas c.args.config.now.partitions c.args.me m c.args.self.now.packets false true deed c.in_ok-mail.mail c.in-Err.fault c.propose.new.self (c.in_ok-mail.ensures c.args.batch.now) did _ c.post.new.self.packets c.take_back.new.self.packets c.in_ok-post.ensures.sent c.len-sent.result c.len-sent.ensures c.take_back.ensures.packets }
