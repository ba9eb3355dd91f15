use Rattle.std.proofs.Common.{◌-◌, sym, ap, subst, ◌∙◌, arith}
use Rattle.std.specs.FinMap as map
use Rattle.calvin_sched.specs.Seating.{rising, seated, IsPastAll}
use Rattle.calvin_sched.proofs.Seatings.{put_last, rising_put, seated_put}
use Rattle.calvin_sched.proofs.turns.Turns.insert.Goals as goal

pub invariant_of-self : goal.invariant_of-self
invariant_of-self g c =
    let es = c.self.inside.turns.items in
    let past = subst (IsPastAll c.args.place) (sym (ap (λ t. t.kept) c.self.view_is)) c.requires.past in
    let put = c.push_reserved.ensures.items ∙ put_last es c.args.place c.args.turn c.self.invariant.0 past in (
      subst rising (sym put) (rising_put es c.args.place c.args.turn c.self.invariant.0),
      omega (arith, c.push_reserved.ensures.len, c.push_reserved.ensures.capacity, c.self.invariant.1),
    )

pub returns : goal.returns
returns g c =
    let es = c.self.inside.turns.items in
    let past = subst (IsPastAll c.args.place) (sym (ap (λ t. t.kept) c.self.view_is)) c.requires.past in
    let put = c.push_reserved.ensures.items ∙ put_last es c.args.place c.args.turn c.self.invariant.0 past in
    let kept = ap seated put ∙ seated_put es c.args.place c.args.turn c.self.invariant.0 ∙ ap (λ t. map.insert t.kept c.args.place c.args.turn) c.self.view_is in
    λ i. record { kept = kept i; room = (c.self.view_is i).room - 1 }
