use Rattle.std.proofs.Common.{sym, ap, ◌∙◌}
use Rattle.std.specs.FinMap as map
use Rattle.calvin_types.specs.RoomMaps.{by}
use Rattle.calvin_types.proofs.RoomMaps.{got, removed}
use Rattle.calvin_types.proofs.room_map.RoomMap.remove.Goals as goal

pub returns-clause-value : goal.returns-clause-value
returns-clause-value g c =
    c.remove.ensures.value
    ∙ sym (got g.K.PartialEq.eq g.K.Ord.cmp g.met.K.Ord.total g.met.K.RoomKey.exact g.met.K.Eq.laws g.met.K.Ord.matches_eq c.self.inside.entries.entries c.args.key)
    ∙ ap (λ m. map.get (by g.K.Ord.cmp m) c.args.key) c.self.view_is

pub returns-clause-removed : goal.returns-clause-removed
returns-clause-removed g c =
    removed g.K.PartialEq.eq g.K.Ord.cmp g.met.K.Ord.total g.met.K.RoomKey.exact g.met.K.Eq.laws g.met.K.Ord.matches_eq c.self.inside.entries.entries c.remove.new.self.entries c.args.key c.remove.ensures.updates.0
    ∙ ap (λ m. map.remove (by g.K.Ord.cmp m) c.args.key) c.self.view_is
