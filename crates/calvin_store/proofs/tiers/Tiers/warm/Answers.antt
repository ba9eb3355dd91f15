use Rattle.std.proofs.Common.{◌≡◌, ◌++◌, min, sym, ap, ◌∙◌, arith}
use Rattle.std.proofs.lemmas.Bool.{false≢true}
use Rattle.calvin_app.specs.Stores.{without}
use Rattle.calvin_store.specs.Tiers.{both, names_of, cold_of}
use Rattle.calvin_store.proofs.ColdKeys.{none-cold, cold-fewer}
use Rattle.calvin_store.proofs.PutsInTurn.{without-append}
use Rattle.calvin_store.proofs.tiers.Tiers.warm.Goals as goal

pub warm-requires-clause-room : goal.warm-requires-clause-room
warm-requires-clause-room g c = omega (arith, c.in-Some.ensures, ap (λ t. t.room) c.in_ok-reserve.ensures.ok, c.count_cold.ensures.count, c.count_cold-2.ensures.count)

pub warm-requires-2-clause-room : goal.warm-requires-2-clause-room
warm-requires-2-clause-room g c =
    let fewer = cold-fewer (names_of c.self.inside.cold.rows) (names_of c.warm.new.cold.rows) c.args.sets.now.reads c.args.sets.now.writes c.warm.ensures.cold in
    omega (arith, c.in-Some.ensures, ap (λ t. t.room) c.in_ok-reserve.ensures.ok, c.warm.ensures.room, c.count_cold.ensures.count, c.count_cold-2.ensures.count, fewer)

pub returns-in_default-clause-succeeds : goal.returns-in_default-clause-succeeds
returns-in_default-clause-succeeds g c none =
    let reads = c.args.sets.now.reads in
    let writes = c.args.sets.now.writes in
    let zero = none-cold (names_of c.self.inside.cold.rows) reads writes (ap (λ t. cold_of t.cold (reads ++ writes)) c.self.view_is ∙ none) in
    absurd (c.in_default.ensures (omega (arith, c.room-room.type_inv, c.count_cold.ensures.count, c.count_cold-2.ensures.count, zero)))

pub returns-in_err-reserve-clause-succeeds : goal.returns-in_err-reserve-clause-succeeds
returns-in_err-reserve-clause-succeeds g c none =
    let reads = c.args.sets.now.reads in
    let writes = c.args.sets.now.writes in
    let zero = none-cold (names_of c.self.inside.cold.rows) reads writes (ap (λ t. cold_of t.cold (reads ++ writes)) c.self.view_is ∙ none) in
    absurd (false≢true (c.in_err-reserve.ensures.succeeds (omega (arith, c.in-Some.ensures, c.room-room.ensures, c.count_cold.ensures.count, c.count_cold-2.ensures.count, zero))))

pub returns-clause-ok : goal.returns-clause-ok
returns-clause-ok g c =
    let reads = c.args.sets.now.reads in
    let writes = c.args.sets.now.writes in
    let cold = c.self.inside.cold.rows in
    let rows = (λ i. both (c.limit_room.ensures i).rows c.warm-2.new.cold.rows) ∙ c.warm-2.ensures.rows ∙ c.warm.ensures.rows ∙ ap (λ t. both t.rows cold) c.in_ok-reserve.ensures.ok ∙ ap (λ t. t.rows) c.self.view_is in
    let names = c.warm-2.ensures.cold ∙ ap (λ n. without n writes) c.warm.ensures.cold ∙ sym (without-append (names_of cold) reads writes) ∙ ap (λ t. without t.cold (reads ++ writes)) c.self.view_is in
    let fewer = cold-fewer (names_of cold) (names_of c.warm.new.cold.rows) reads writes c.warm.ensures.cold in
    let enough : min c.room-room.result c.warm-2.new.hot.room ≡ c.self.inside.hot.room = omega (arith, c.room-room.ensures, c.in-Some.ensures, ap (λ t. t.room) c.in_ok-reserve.ensures.ok, c.warm.ensures.room, c.warm-2.ensures.room, c.count_cold.ensures.count, c.count_cold-2.ensures.count, fewer) in
    let room = ap (λ t. t.room) c.limit_room.ensures ∙ enough ∙ ap (λ t. t.room) c.self.view_is in
    λ i. record { rows = rows i; cold = names i; room = room i }
