use Rattle.std.proofs.Common.{Some, get_or, sym, ap, ◌∙◌}
use Rattle.std.proofs.lemmas.Option.{slice_get-get_or}
use Rattle.calvin_shared_txn.proofs.ElementLaws.{element_found}
use Rattle.calvin_shared_txn.proofs.shared_txn.SharedTxn.get.Goals as goal

pub returns : goal.returns
returns g c =
    let s = c.self.inside in
    let it = c.index-as_slice-self.result in
    sym (element_found s.requests s.number s.within it (slice_get-get_or s.requests s.number it s.within ∙ ap Some (sym (c.index-as_slice-self.is ∙ ap (λ xs. get_or xs s.number it) c.as_slice.ensures)))) ∙ c.self.view_is
