use Rattle.std.proofs.Common.{refl, sym, ap, ◌∙◌}
use Rattle.std.specs.FinMap as map
use Rattle.calvin_types.specs.RoomMaps.{by}
use Rattle.calvin_types.proofs.RoomMaps.{got, put, on_lent}
use Rattle.calvin_types.proofs.room_map.RoomMap.get_mut.Goals as goal

pub returns : goal.returns
returns g c =
    let es = c.self.inside.entries.entries in
    let found = got g.K.PartialEq.eq g.K.Ord.cmp g.met.K.Ord.total g.met.K.RoomKey.exact g.met.K.Eq.laws g.met.K.Ord.matches_eq es c.args.key in (
      (
        refl,
        λ w. on_lent c.get_mut.result _ c.get_mut.ensures.value (λ h. (
          put g.K.PartialEq.eq g.K.Ord.cmp g.met.K.Ord.total g.met.K.RoomKey.exact g.met.K.Eq.laws g.met.K.Ord.matches_eq es (c.get_mut.follows.lender w).entries c.args.key w ((c.get_mut.follows.holds w).3 h).0
              ∙ ap (λ m. map.insert (by g.K.Ord.cmp m) c.args.key w) c.self.view_is,
          ap (λ m. m.room) c.self.view_is,
        )),
        ap (λ m. record { list = m.entries; room = c.self.inside.room }) c.get_mut.follows.holds-at-none ∙ c.self.view_is,
      ),
      record { lends = tt; value = c.get_mut.ensures.value ∙ sym found ∙ ap (λ m. map.get (by g.K.Ord.cmp m) c.args.key) c.self.view_is },
    )
