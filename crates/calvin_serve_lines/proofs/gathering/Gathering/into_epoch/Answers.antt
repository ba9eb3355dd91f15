use Rattle.std.proofs.Common.{rules, ◌≡◌, ◌++◌, [], ◌∙◌, ap, sym, length, append-nil, Ok}
use Rattle.std.proofs.lemmas.List.{nil_from_length}
use Rattle.std.proofs.lemmas.Result.{IfOk-weaker}
use Rattle.std.specs.Vec.Iter.{into_iter_items}
use Rattle.calvin_script.specs.Scripts.{groups_fit}
use Rattle.calvin_serve_lines.specs.Gathered.{batches_from, batches_of}
use Rattle.calvin_serve_lines.proofs.Batches.{batches_fit}
use Rattle.calvin_serve_lines.proofs.gathering.Gathering.into_epoch.Goals as goal

pub returns-clause-reads : goal.returns-clause-reads
returns-clause-reads g c =
    let groups = length c.args.self in
    let l = c.loop-group in
    let count : length (into_iter_items l.group-iterator) ≡ 0 = search rules in
    let none = nil_from_length (into_iter_items l.group-iterator) count in
    let done : l.written ≡ batches_of c.args.self = sym (append-nil l.written) ∙ ap (λ gs. l.written ++ batches_from l.number gs) (sym none) ∙ l.invariant.0 in
    IfOk-weaker c.into_line.result _ _ (λ p reads. reads groups (ap (groups_fit groups) done ∙ batches_fit c.args.self) ∙ ap Ok done) c.into_line.ensures.reads
