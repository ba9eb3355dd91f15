use Rattle.std.proofs.Common.{◌≡◌, ℕ, Some, slice_get, refl, sym, ap, ◌∙◌, arith, rules}
use Rattle.std.proofs.lemmas.Option.{same_Some, slice_get_read}
use Rattle.calvin_types.specs.declared.key_set.Sets.{Sets}
use Rattle.calvin_types.specs.declared.place.Place.{Place}
use Rattle.calvin_lock.proofs.Requests.{next_below, unfound_anywhere}
use Rattle.calvin_lock.proofs.list_locks.position_of.Goals as goal

pub returns-then-eq : goal.returns-then-eq
returns-then-eq c =
    let here = slice_get_read c.args.requests.now _ c.loop-i.i _ refl c.loop-i-test.true c.index-requests-i.is in
    let same : c.index-requests-i.result.0 ≡ c.args.place = search rules in
    (c.index-requests-i.result.1, here ∙ (λ i. Some (same i, c.index-requests-i.result.1)))

pub loop-i-preserved : goal.loop-i-preserved
loop-i-preserved c =
    let here = slice_get_read c.args.requests.now _ c.loop-i.i _ refl c.loop-i-test.true c.index-requests-i.is in
    let P : ℕ → Type 0 = λ k. (e : Place × Sets) → slice_get c.args.requests.now k ≡ Some e → ¬ (e.0 ≡ c.args.place) in
    let other : ¬ (c.index-requests-i.result.0 ≡ c.args.place) = search rules in
    let all = next_below P c.loop-i.i (λ k less e. c.loop-i.invariant k e less) (λ e at same. other (ap (λ y. y.0) (same_Some _ e (sym here ∙ at)) ∙ same)) in
    λ k e less. all k less e

pub returns : goal.returns
returns c = unfound_anywhere c.args.requests.now c.args.place c.loop-i.i (omega arith) c.loop-i.invariant
