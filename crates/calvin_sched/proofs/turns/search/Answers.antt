use Rattle.std.proofs.Common.{◌≡◌, ℕ, Option, None, MatchOption, rules, sym, subst}
use Rattle.std.specs.FinMap as map
use Rattle.std.proofs.lemmas.List.Sorted.{answers_always}
use Rattle.calvin_types.specs.Places.{place_cmp}
use Rattle.calvin_sched.specs.Seating.{IsAt}
use Rattle.calvin_sched.proofs.Seatings.{searched}
use Rattle.calvin_sched.proofs.turns.search.Goals as goal

-- the closure gives a request's place
pub returns : goal.returns
returns g c =
    let es = c.args.turns.now in
    let facts = c.binary_search_by_key.ensures in
    subst (λ (o : Option ℕ). MatchOption o (map.find place_cmp c.args.place es ≡ None) (IsAt c.args.place es)) (sym c.ok.ensures.value)
    (searched es c.args.place c.binary_search_by_key.result c.requires facts.bound (facts.position (λ seat. seat.0) (answers_always _ _ _ (λ f a r h called. search rules))))
