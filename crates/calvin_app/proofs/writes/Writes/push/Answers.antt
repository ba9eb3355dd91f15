use Rattle.std.proofs.Common.{rules, ◌≡◌, ◌<◌, ◌++◌, ◌∷◌, [], true, false, length, sym, subst, ap, ◌∙◌}
use Rattle.calvin_types.specs.declared.limits.TheConstants.{MOST_KEYS}
use Rattle.calvin_types.specs.Keys.{has, are_distinct}
use Rattle.calvin_app.specs.Writing.{keys_of}
use Rattle.calvin_app.proofs.Distinct.{distinct_push}
use Rattle.calvin_app.proofs.writes.Writes.push.Goals as goal

pub push-requires : goal.push-requires
push-requires g c = (search rules, subst (λ ws. length ws < MOST_KEYS) (sym c.self.view_is) c.requires.room)

pub invariant_of-self : goal.invariant_of-self
invariant_of-self g c = subst (λ ws. are_distinct (keys_of ws) ≡ true) (sym c.push.ensures) (distinct_push c.args.key c.args.row c.self.inside.pairs c.self.invariant (subst (λ ws. has (keys_of ws) c.args.key ≡ false) (sym c.self.view_is) c.requires.absent))

pub returns : goal.returns
returns g c = c.push.ensures ∙ ap (λ ws. ws ++ (c.args.key, c.args.row) ∷ []) c.self.view_is
