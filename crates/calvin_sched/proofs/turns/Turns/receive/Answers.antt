use Rattle.std.proofs.Common.{rules, ◌-◌, ◌<◌, ◌≡◌, None, sym, ap, subst, ◌∙◌, arith}
use Rattle.std.specs.FinMap as map
use Rattle.std.proofs.lemmas.Option.{none-some, same_Some, slice_get_within}
use Rattle.calvin_types.specs.Places.{place_cmp}
use Rattle.calvin_sched.specs.Steps.{with_rows}
use Rattle.calvin_sched.specs.Seating.{IsAt}
use Rattle.calvin_sched.proofs.Seatings.{got_at, missing_there, seat_is, written, written_rises}
use Rattle.calvin_sched.proofs.turns.Turns.receive.Goals as goal

pub returns-in_default : goal.returns-in_default
returns-in_default g c = λ k e.
    let missing = subst (λ es. map.find place_cmp c.args.place es ≡ None) c.deref.ensures.value c.in_default.ensures in
    absurd (none-some k (sym (missing_there c.self.inside.turns.items c.args.place c.self.invariant.0 missing) ∙ ap (λ t. map.get t.kept c.args.place) c.self.view_is ∙ e))

pub index_mut-requires : goal.index_mut-requires
index_mut-requires g c =
    let at = subst (λ es. IsAt c.args.place es c.in-Some.number) c.deref.ensures.value c.in-Some.ensures in
    omega (arith, slice_get_within c.self.inside.turns.items c.in-Some.number _ at.1, c.self.inside.turns.ok.0)

pub receive-requires : goal.receive-requires
receive-requires g c =
    let es = c.self.inside.turns.items in
    let at = subst (λ es. IsAt c.args.place es c.in-Some.number) c.deref.ensures.value c.in-Some.ensures in
    let there = sym (ap (λ t. map.get t.kept c.args.place) c.self.view_is) ∙ got_at es c.in-Some.number c.args.place at.0 c.self.invariant.0 at.1 in
    let old = ap (λ (p : _ × _). p.1) (seat_is es c.in-Some.number c.args.place at.0 c.self.invariant.0 at.1 c.index_mut.result.now c.index_mut.ensures.value at.0) in
    (search rules, subst (λ k. 0 < k.room) (sym old) (c.requires at.0 there))

pub invariant_of-self : goal.invariant_of-self
invariant_of-self g c =
    let at = subst (λ es. IsAt c.args.place es c.in-Some.number) c.deref.ensures.value c.in-Some.ensures in
    (written_rises c.self.inside.turns.items c.in-Some.number c.args.place at.0 c.self.invariant.0 at.1 c.index_mut.result.now c.index_mut.ensures.value c.receive.new.self, c.self.invariant.1)

pub returns : goal.returns
returns g c = λ k e.
    let es = c.self.inside.turns.items in
    let i = c.in-Some.number in
    let seat = c.index_mut.result.now in
    let at = subst (λ es. IsAt c.args.place es i) c.deref.ensures.value c.in-Some.ensures in
    let there = sym (ap (λ t. map.get t.kept c.args.place) c.self.view_is) ∙ got_at es i c.args.place at.0 c.self.invariant.0 at.1 in
    let old = ap (λ (p : _ × _). p.1) (seat_is es i c.args.place at.0 c.self.invariant.0 at.1 seat c.index_mut.ensures.value c.receive.new.self) ∙ same_Some _ _ (sym there ∙ e) in
    let after = c.receive.new.self in
    let now = (λ j. record { turn = c.receive.ensures.turn j; room = c.receive.ensures.room j }) ∙ ap (λ t. record { turn = with_rows c.args.from c.args.rows.now t.turn; room = t.room - 1 }) old in
    let kept = written es i c.args.place at.0 c.self.invariant.0 at.1 seat c.index_mut.ensures.value after ∙ ap (λ t. map.insert t.kept c.args.place after) c.self.view_is ∙ ap (map.insert c.args.self.now.kept c.args.place) now in
    let room = ap (λ t. t.room) c.self.view_is in
    λ j. record { kept = kept j; room = room j }
