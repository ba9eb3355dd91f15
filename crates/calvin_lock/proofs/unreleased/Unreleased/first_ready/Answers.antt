use Rattle.std.proofs.Common.{◌↔◌, ◌≤◌, ℕ, ◌≡◌, Some, length, slice_get, refl, subst, sym, arith}
use Rattle.std.proofs.lemmas.Option.{slice_get_read}
use Rattle.calvin_types.specs.declared.place.Place.{Place}
use Rattle.calvin_lock.specs.Ready.{IsPast}
use Rattle.calvin_lock.specs.Marks.{is_marked}
use Rattle.calvin_lock.specs.Unreleased.{SplitsAt, IsFirstReadyIn}
use Rattle.calvin_lock.proofs.ReadyPlaces.{ready_within, first_none, first_some, past_split, past_none}
use Rattle.calvin_lock.proofs.unreleased.Unreleased.first_ready.Goals as goal
use Rattle.calvin_lock.proofs.unreleased.Unreleased.first_ready.Goals.{in-Some, in-None}

pub returns-in_err-number : goal.returns-in_err-number
returns-in_err-number c =
    let xs = c.args.self.now.order.items in
    let past : (k : ℕ) (p : Place) → slice_get xs k ≡ Some p → (c.match-after.from ≤ k) ↔ IsPast c.args.after p = elim c.match-after.branch [
      | in-Some w ↦ past_split c.args.after xs c.match-after.from w.count_up_to-from.result w.in-Some.after w.in-Some.is w.from-is (subst (λ l. SplitsAt l w.in-Some.after w.count_up_to-from.result) w.as_slice.ensures.value w.count_up_to-from.ensures)
      | in-None w ↦ past_none c.args.after xs c.match-after.from w.in-None.is w.from-is
    ] in
    subst (IsFirstReadyIn c.args.self.now.places.entries c.args.after) (sym c.from_residual.ensures)
    (first_none c.args.self.now.places.entries xs (is_marked c.args.self.now.marks) c.requires.rises c.requires.listed c.requires.marked c.args.after c.match-after.from past c.in_err-number.ensures)

pub index-requires : goal.index-requires
index-requires c =
    let within = ready_within c.args.self.now.order.items c.args.self.now.places.entries c.in_ok-number.number ((c.requires.marked c.in_ok-number.number).0 c.in_ok-number.ensures.1) in
    omega (arith, within, c.args.self.now.order.ok.0)

pub returns : goal.returns
returns c =
    let xs = c.args.self.now.order.items in
    let past : (k : ℕ) (p : Place) → slice_get xs k ≡ Some p → (c.match-after.from ≤ k) ↔ IsPast c.args.after p = elim c.match-after.branch [
      | in-Some w ↦ past_split c.args.after xs c.match-after.from w.count_up_to-from.result w.in-Some.after w.in-Some.is w.from-is (subst (λ l. SplitsAt l w.in-Some.after w.count_up_to-from.result) w.as_slice.ensures.value w.count_up_to-from.ensures)
      | in-None w ↦ past_none c.args.after xs c.match-after.from w.in-None.is w.from-is
    ] in
    let next = c.in_ok-number.ensures in
    let within = ready_within xs c.args.self.now.places.entries c.in_ok-number.number ((c.requires.marked c.in_ok-number.number).0 next.1) in
    let here = slice_get_read xs (length xs) c.in_ok-number.number c.index.result.now refl within c.index.ensures in
    first_some c.args.self.now.places.entries xs (is_marked c.args.self.now.marks) c.requires.rises c.requires.listed c.requires.marked c.args.after c.match-after.from past c.in_ok-number.number c.index.result.now here next.0 next.1 next.2
