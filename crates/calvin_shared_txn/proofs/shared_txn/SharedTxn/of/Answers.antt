use Rattle.std.proofs.Common.{◌++◌, ◌∷◌, [], ap, ◌∙◌}
use Rattle.std.specs.List.{slice_get}
use Rattle.calvin_shared_txn.proofs.ElementLaws.{element_found}
use Rattle.calvin_shared_txn.proofs.shared_txn.SharedTxn.of.Goals as goal

pub returns-clause-ok : goal.returns-clause-ok
returns-clause-ok g c =
    let one = c.in_ok-requests.ensures.ok ∙ c.push_reserved.ensures.items ∙ ap (λ xs. xs ++ c.args.txn.now ∷ []) c.in_ok-copied.ensures.items in
    element_found c.in_ok-requests.requests 0 _ c.args.txn.now (ap (λ xs. slice_get xs 0) one)
