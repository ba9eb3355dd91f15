-- It is the deed of the replica there.
use Rattle.std.proofs.lemmas.Option.{slice_get-get_or}
use Rattle.calvin_synod_group.proofs.Carried.{restarted_group, ends_restarted}
use Rattle.calvin_synod_group.proofs.happening.restart.Goals as goal

pub returns-clause-step : goal.returns-clause-step
returns-clause-step g c packets = ends_restarted _ _ packets c.requires _ _ _ (slice_get-get_or _ _ _ c.if-at-members.false) c.restart.ensures

pub returns-clause-same : goal.returns-clause-same
returns-clause-same g c = restarted_group _ _ c.requires _ _ _ (slice_get-get_or c.args.members.now c.args.replica c.index-members-at.result c.if-at-members.false) c.restart.ensures
