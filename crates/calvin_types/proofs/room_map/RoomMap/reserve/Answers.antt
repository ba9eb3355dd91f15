use Rattle.std.proofs.Common.{ap, ◌∙◌}
use Rattle.calvin_types.specs.RoomMaps.{by}
use Rattle.calvin_types.proofs.RoomMaps.{same}
use Rattle.calvin_types.proofs.room_map.RoomMap.reserve.Goals as goal

pub returns-in_ok-reserve-clause-same : goal.returns-in_ok-reserve-clause-same
returns-in_ok-reserve-clause-same g c =
    same g.K.PartialEq.eq g.K.Ord.cmp g.met.K.Ord.total g.met.K.RoomKey.exact g.met.K.Eq.laws g.met.K.Ord.matches_eq c.self.inside.entries.entries c.reserve.new.self.entries c.reserve.ensures.entries.2
    ∙ ap (λ m. by g.K.Ord.cmp m) c.self.view_is
