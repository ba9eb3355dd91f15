use Rattle.std.proofs.Common.{sym, ap, ◌∙◌}
use Rattle.std.specs.FinMap as map
use Rattle.calvin_types.specs.RoomMaps.{by}
use Rattle.calvin_types.proofs.RoomMaps.{got}
use Rattle.calvin_types.proofs.room_map.RoomMap.get.Goals as goal

pub returns : goal.returns
returns g c = c.get.ensures.value ∙ sym (got g.K.PartialEq.eq g.K.Ord.cmp g.met.K.Ord.total g.met.K.RoomKey.exact g.met.K.Eq.laws g.met.K.Ord.matches_eq c.self.inside.entries.entries c.args.key) ∙ ap (λ m. map.get (by g.K.Ord.cmp m) c.args.key) c.self.view_is
