use Rattle.std.proofs.Common.{◌++◌, ◌∷◌, [], sym, ap, ◌∙◌}
use Rattle.std.specs.FinMap as map
use Rattle.std.proofs.lemmas.Option.{same_Some}
use Rattle.calvin_types.proofs.RoomMaps.{of_lent}
use Rattle.calvin_synod.proofs.by_slot.BySlot+Attempt+B.count.Goals as goal

pub push-requires : goal.push-requires
push-requires g c = c.requires.few c.in-Some.attempt.now (sym (ap (λ m. map.get m.entries c.args.slot) c.self.view_is) ∙ sym c.in-Some.ensures.value)

pub returns : goal.returns
returns g c = record {
  counted = λ t e.
      let after = record c.in-Some.attempt.now { counted = c.push.new.self } in
      let written = of_lent c.in-Some.is (c.get_mut.follows.holds after) in
      let is = same_Some _ _ (sym (sym (ap (λ m. map.get m.entries c.args.slot) c.self.view_is) ∙ sym c.in-Some.ensures.value) ∙ e) in
      let counted = c.push.ensures ∙ ap (λ u. u.counted ++ c.args.report ∷ []) is in
      let entries =
      written.0
      ∙ ap (λ m. map.insert m.entries c.args.slot after) c.self.view_is
      ∙ (λ i. map.insert c.args.self.now.entries c.args.slot (record { ballot = (is i).ballot; own = (is i).own; counted = counted i })) in
      let room = written.1 ∙ ap (λ m. m.room) c.self.view_is in
      λ i. record { entries = entries i; room = room i };
}
