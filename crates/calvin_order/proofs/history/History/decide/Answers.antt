use Rattle.std.proofs.Common.{rules, ◌≡◌, ◌-◌, ◌^◌, ◌∷◌, ◌++◌, [], sym, ap, subst, ◌∙◌, arith}
use Rattle.std.specs.Option.{unwrap_or}
use Rattle.calvin_order.specs.Keeping.{history_of, closed_len, IsHistory}
use Rattle.calvin_order.specs.Sequencing.{is_decided}
use Rattle.calvin_order.proofs.Histories.{settled, decided_at_next, decided_elsewhere}
use Rattle.calvin_order.proofs.history.History.decide.Goals as goal

pub overflow_sub-self : goal.overflow_sub-self
overflow_sub-self g c =
    let i = c.self.inside in
    let out = ap (λ v. is_decided v.state c.args.epoch) c.self.view_is ∙ c.requires.new in
    let some = settled (unwrap_or i.opening (2 ^ 64)) i.closed.entries i.decided.keys _ i.undecided c.args.epoch c.self.invariant out in
    let len = c.closed_len.ensures.len ∙ ap (λ v. closed_len v.state.closed c.args.epoch) (sym c.self.view_is) in
    omega (arith, some, len)

pub invariant_of-self : goal.invariant_of-self
invariant_of-self g c =
    let i = c.self.inside in
    let out = ap (λ v. is_decided v.state c.args.epoch) c.self.view_is ∙ c.requires.new in
    let told : c.insert-put.new.self.keys ≡ i.decided.keys ++ c.args.epoch ∷ [] = search (rules, out) in
    let len = c.closed_len.ensures.len ∙ ap (λ v. closed_len v.state.closed c.args.epoch) (sym c.self.view_is) in
    subst (λ n. IsHistory (unwrap_or c.after-self-inside.result (2 ^ 64)) (i.undecided - n) (history_of (unwrap_or i.opening (2 ^ 64)) i.closed.entries c.insert-put.new.self.keys)) (sym len)
    (decided_at_next (unwrap_or i.opening (2 ^ 64)) i.closed.entries i.decided.keys i.next i.undecided c.args.epoch c.self.invariant out (omega arith) (search rules) c.insert-put.new.self.keys told
    c.after-self-inside.result c.after-self-inside.ensures.from c.after-self-inside.ensures.passed c.after-self-inside.ensures.free)

pub invariant_of-self-else-eq : goal.invariant_of-self-else-eq
invariant_of-self-else-eq g c =
    let i = c.self.inside in
    let out = ap (λ v. is_decided v.state c.args.epoch) c.self.view_is ∙ c.requires.new in
    let told : c.insert-put.new.self.keys ≡ i.decided.keys ++ c.args.epoch ∷ [] = search (rules, out) in
    let len = c.closed_len.ensures.len ∙ ap (λ v. closed_len v.state.closed c.args.epoch) (sym c.self.view_is) in
    subst (λ n. IsHistory (unwrap_or i.next (2 ^ 64)) (i.undecided - n) (history_of (unwrap_or i.opening (2 ^ 64)) i.closed.entries c.insert-put.new.self.keys)) (sym len)
    (decided_elsewhere (unwrap_or i.opening (2 ^ 64)) i.closed.entries i.decided.keys i.next i.undecided c.args.epoch c.self.invariant out (omega arith) (search rules) c.insert-put.new.self.keys told)
