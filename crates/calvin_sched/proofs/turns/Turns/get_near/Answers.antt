use Rattle.std.proofs.Common.{◌≡◌, None, Some, sym, ap, subst, ◌∙◌, arith}
use Rattle.std.specs.FinMap as map
use Rattle.std.specs.Option.{option_copied}
use Rattle.std.proofs.lemmas.Option.{slice_get_within}
use Rattle.calvin_types.specs.Places.{place_cmp}
use Rattle.calvin_sched.specs.Seating.{IsAt}
use Rattle.calvin_sched.proofs.Seatings.{got_at, missing_there, seat_is}
use Rattle.calvin_sched.proofs.turns.Turns.get_near.Goals as goal

pub returns-in_err-number : goal.returns-in_err-number
returns-in_err-number g c =
    let missing = subst (λ es. map.find place_cmp c.args.place es ≡ None) c.deref.ensures.value c.in_err-number.ensures in
    ap option_copied c.from_residual.ensures ∙ sym (missing_there c.self.inside.turns.items c.args.place c.self.invariant.0 missing) ∙ ap (λ t. map.get t.kept c.args.place) c.self.view_is

pub index-requires : goal.index-requires
index-requires g c =
    let at = subst (λ es. IsAt c.args.place es c.in_ok-number.number) c.deref.ensures.value c.in_ok-number.ensures in
    omega (arith, slice_get_within c.self.inside.turns.items c.in_ok-number.number _ at.1, c.self.inside.turns.ok.0)

pub returns : goal.returns
returns g c =
    let es = c.self.inside.turns.items in
    let i = c.in_ok-number.number in
    let at = subst (λ es. IsAt c.args.place es i) c.deref.ensures.value c.in_ok-number.ensures in
    ap (λ (p : _ × _). Some p.1) (seat_is es i c.args.place at.0 c.self.invariant.0 at.1 c.index.result.now c.index.ensures at.0)
    ∙ sym (got_at es i c.args.place at.0 c.self.invariant.0 at.1) ∙ ap (λ t. map.get t.kept c.args.place) c.self.view_is
