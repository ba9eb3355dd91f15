-- The round of one ballot leads there.
use Rattle.calvin_synod_group.proofs.Round.{round_chooses}
use Rattle.calvin_synod_group.proofs.law.can_choose.Goals as goal

pub returns : goal.returns
returns g c = round_chooses
