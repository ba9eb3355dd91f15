use Rattle.std.proofs.Common.{◌-◌, cond, sym, ap, ◌∙◌}
use Rattle.std.specs.Prelude.{is_some}
use Rattle.std.specs.FinMap as map
use Rattle.calvin_synod.specs.Roles.{vote_in}
use Rattle.calvin_types.proofs.RoomMaps.{of_lent}
use Rattle.calvin_synod.proofs.by_slot.BySlot+Recorded+B.promise.Goals as goal

pub returns-in-Some-clause-promised : goal.returns-in-Some-clause-promised
returns-in-Some-clause-promised g c =
    let recorded = record c.in-Some.recorded.now { promise = c.args.ballot } in
    let written = of_lent c.in-Some.is (c.get_mut.follows.holds recorded) in
    let there = sym (ap (λ m. map.get m.entries c.args.slot) c.self.view_is) ∙ sym c.in-Some.ensures.value in
    written.0
    ∙ ap (λ m. map.insert m.entries c.args.slot recorded) c.self.view_is
    ∙ ap (λ v. map.insert c.args.self.now.entries c.args.slot (record { promise = c.args.ballot; vote = v })) (sym (ap vote_in there))

pub returns-in-Some-clause-room : goal.returns-in-Some-clause-room
returns-in-Some-clause-room g c =
    let written = of_lent c.in-Some.is (c.get_mut.follows.holds (record c.in-Some.recorded.now { promise = c.args.ballot })) in
    let there = sym (ap (λ m. map.get m.entries c.args.slot) c.self.view_is) ∙ sym c.in-Some.ensures.value in
    written.1 ∙ ap (λ m. m.room) c.self.view_is ∙ sym (ap (λ o. cond (is_some o) c.args.self.now.room (c.args.self.now.room - 1)) there)
