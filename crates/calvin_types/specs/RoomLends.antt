-- What a map with room ends as, where a `&mut` to one of its values is lent.
--     lends_at key r      the key has the last value behind r, and the room stays; with none lent the map stays as it is
use Rattle.std.specs.Prelude.{◌≡◌, Option, OnSome}
use Rattle.std.specs.Borrow.{Fml, RattleType, MutBor, LendsSo}
use Rattle.std.specs.declared.cmp.Ordering.{Ordering}
use Rattle.std.specs.FinMap.{insert}
use Rattle.std.specs.HashMap.Lent.{HashMembers}
use Rattle.calvin_types.specs.RoomMaps.{Roomy, by}
use Rattle.calvin_types.specs.contracts.room_map.RoomMap.{the_row}

module _ (K V : RattleType) (key : HashMembers K.Denot) (R : K.Denot → K.Denot → Ordering) where
  abbrev pub lends_at : MutBor (Roomy K.Denot V.Denot) → K.Denot → Option (MutBor V.Denot) → Fml
  lends_at m k r = LendsSo (the_row K V (record { eq = key.eq }) (record { hash_input = key.hash_input })) V m r
      (λ n w. OnSome r ((by R n ≡ insert (by R m.now) k w) × (n.room ≡ m.now.room))) (λ n. n ≡ m.now)
