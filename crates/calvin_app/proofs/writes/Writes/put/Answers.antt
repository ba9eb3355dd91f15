use Rattle.std.proofs.Common.{◌≡◌, true, ◌≢◌, refl, sym, ◌∙◌, ap, subst, length, arith}
use Rattle.calvin_types.specs.Keys.{has, are_distinct}
use Rattle.calvin_app.specs.Writing.{keys_of}
use Rattle.calvin_app.proofs.Distinct.{distinct-with_write}
use Rattle.calvin_app.proofs.writes.Writes.put.Goals as goal

pub invariant_of-self : goal.invariant_of-self
invariant_of-self g c = subst (λ ws. are_distinct (keys_of ws) ≡ true) (c.in-Some.ensures.put_is c.args.row ∙ sym c.set.ensures) (distinct-with_write c.args.key c.args.row c.self.inside.pairs c.self.invariant)

pub invariant_of-self-in-None : goal.invariant_of-self-in-None
invariant_of-self-in-None g c = subst (λ ws. are_distinct (keys_of ws) ≡ true) (c.in-None.ensures.put_is c.args.row ∙ sym c.push.ensures) (distinct-with_write c.args.key c.args.row c.self.inside.pairs c.self.invariant)

pub returns-then-len-eq-MOST_KEYS-clause-full : goal.returns-then-len-eq-MOST_KEYS-clause-full
returns-then-len-eq-MOST_KEYS-clause-full g c =
    (λ _. (omega (arith, ap length c.self.view_is, c.len.ensures.len), ap (λ ws. has (keys_of ws) c.args.key) (sym c.self.view_is) ∙ c.in-None.ensures.missing), λ _. refl)

pub returns-else-len-eq-MOST_KEYS-clause-full : goal.returns-else-len-eq-MOST_KEYS-clause-full
returns-else-len-eq-MOST_KEYS-clause-full g c =
    let other : length c.args.self.now ≢ 16 = omega (arith, ap length c.self.view_is, c.len.ensures.len) in
    (λ h. absurd (let e = h in cc), λ h. absurd (other h.0))
