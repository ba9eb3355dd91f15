use Rattle.std.proofs.Common.{rules, ◌≡◌, ◌+◌, ◌^◌, ◌∷◌, ◌++◌, [], nat_eq, length, map, sym, ap, subst, ◌∙◌}
use Rattle.std.specs.List.{IsDistinct}
use Rattle.std.specs.Option.{unwrap_or}
use Rattle.indexmap.proofs.CallerLemmas.{insert_entry-new}
use Rattle.indexmap.specs.IndexMap.{insert_entry}
use Rattle.calvin_order.specs.Keeping.{history_of, IsHistory}
use Rattle.calvin_order.specs.Sequencing.{next_epoch}
use Rattle.calvin_order.proofs.Histories.{no_entry, closed_history}
use Rattle.calvin_order.proofs.history.History.close.Goals as goal

pub returns-clause-state : goal.returns-clause-state
returns-clause-state g c =
    let i = c.self.inside in
    let at = c.requires.next ∙ sym (ap (λ v. next_epoch v.state) c.self.view_is) in
    let put : c.insert-put.new.self.entries ≡ insert_entry nat_eq i.closed.entries c.args.epoch c.args.batch = search rules in
    let all = put ∙ insert_entry-new nat_eq i.closed c.args.epoch c.args.batch (no_entry (unwrap_or i.opening (2 ^ 64)) i.closed.entries i.decided.keys c.args.epoch at) in
    ap (λ es. history_of (unwrap_or i.opening (2 ^ 64)) es i.decided.keys) all ∙ ap (λ v. record v.state { closed = v.state.closed ++ (c.args.epoch, c.args.batch) ∷ [] }) c.self.view_is

pub invariant_of-self : goal.invariant_of-self
invariant_of-self g c =
    let i = c.self.inside in
    let at = c.requires.next ∙ sym (ap (λ v. next_epoch v.state) c.self.view_is) in
    let put : c.insert-put.new.self.entries ≡ insert_entry nat_eq i.closed.entries c.args.epoch c.args.batch = search rules in
    let all = put ∙ insert_entry-new nat_eq i.closed c.args.epoch c.args.batch (no_entry (unwrap_or i.opening (2 ^ 64)) i.closed.entries i.decided.keys c.args.epoch at) in
    let count = c.len.ensures.len in
    subst (λ n. IsHistory (unwrap_or c.after-self-inside.result (2 ^ 64)) (i.undecided + n) (history_of (unwrap_or i.opening (2 ^ 64)) c.insert-put.new.self.entries i.decided.keys)) (sym count)
    (subst (λ es. IsHistory (unwrap_or c.after-self-inside.result (2 ^ 64)) (i.undecided + length c.args.batch) (history_of (unwrap_or i.opening (2 ^ 64)) es i.decided.keys)) (sym all)
    (closed_history (unwrap_or i.opening (2 ^ 64)) i.closed.entries i.decided.keys _ i.undecided c.args.epoch c.after-self-inside.result c.args.batch c.self.invariant at
    (subst (λ es. IsDistinct nat_eq (map (λ e. e.0) es)) all c.insert-put.ensures.unique)
    c.after-self-inside.ensures.from c.after-self-inside.ensures.passed c.after-self-inside.ensures.free))
