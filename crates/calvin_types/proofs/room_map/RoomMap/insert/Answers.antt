use Rattle.std.proofs.Common.{sym, ap, ◌∙◌}
use Rattle.std.specs.FinMap as map
use Rattle.calvin_types.specs.RoomMaps.{by}
use Rattle.calvin_types.proofs.RoomMaps.{got, put}
use Rattle.calvin_types.proofs.room_map.RoomMap.insert.Goals as goal

pub returns-in-Err-clause-absent : goal.returns-in-Err-clause-absent
returns-in-Err-clause-absent g c = sym (ap (λ m. map.get (by g.K.Ord.cmp m) c.args.key) c.self.view_is)
    ∙ got g.K.PartialEq.eq g.K.Ord.cmp g.met.K.Ord.total g.met.K.RoomKey.exact g.met.K.Eq.laws g.met.K.Ord.matches_eq c.self.inside.entries.entries c.args.key ∙ c.in-Err.ensures.absent

pub returns-clause-ok : goal.returns-clause-ok
returns-clause-ok g c =
    put g.K.PartialEq.eq g.K.Ord.cmp g.met.K.Ord.total g.met.K.RoomKey.exact g.met.K.Eq.laws g.met.K.Ord.matches_eq c.self.inside.entries.entries c.insert.new.self.entries c.args.key c.args.value c.in-Ok.ensures.updates.0
    ∙ ap (λ m. map.insert (by g.K.Ord.cmp m) c.args.key c.args.value) c.self.view_is
