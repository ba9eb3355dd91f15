-- One packet more goes to the next replica.
use Rattle.calvin_synod_group.proofs.Sent.{one_more_sent}
use Rattle.calvin_synod_group.proofs.sending.post_to_all.Goals as goal

pub loop-to-preserved : goal.loop-to-preserved
loop-to-preserved g c = one_more_sent _ _ _ _ _ _ _ c.loop-to.invariant c.in_ok-message.ensures.ok c.in_ok-push.ensures.items
