use Rattle.std.proofs.Common.{rules, ◌≡◌, ◌∙◌, Some, Ok, option_map, codes, ap, sym}
use Rattle.serde_json.specs.Find.{get}
use Rattle.serde_json.specs.View.{view}
use Rattle.serde_json.proofs.Views.{view_of_ref}
use Rattle.calvin_serve_lines.specs.Asking.{group_of, spelled}
use Rattle.calvin_serve_lines.proofs.Asks.{asks, not_taken}
use Rattle.calvin_serve_lines.proofs.request.asked_of.Goals as goal

pub returns-then-is_taken : goal.returns-then-is_taken
returns-then-is_taken g c =
    let grammar = g.Op.Operation.grammar in
    let r = c.in_ok-request.request in
    let rest = view c.split_group-group.result.1 in
    let given = option_map (λ v. view v.now) c.as_ref.result in
    let is : spelled grammar rest ≡ Some r = search rules in
    let out : given ≡ get (codes "group") (view c.args.value) = view_of_ref c.as_ref.result ∙ ap (option_map view) c.as_ref.ensures.value ∙ c.split_group-group.ensures.group in
    let some : group_of c.args.partitions r.txn.id.client given ≡ Some c.in_ok-group.group = search rules in
    asks grammar c.args.partitions (view c.args.value) rest c.split_group-group.ensures.rest r is given out c.in_ok-group.group some (sym c.if-is_taken.ensures) ∙ ap Ok (sym c.new.ensures)

pub returns : goal.returns
returns g c =
    let grammar = g.Op.Operation.grammar in
    let r = c.in_ok-request.request in
    let rest = view c.split_group-group.result.1 in
    let given = option_map (λ v. view v.now) c.as_ref.result in
    let is : spelled grammar rest ≡ Some r = search rules in
    let out : given ≡ get (codes "group") (view c.args.value) = view_of_ref c.as_ref.result ∙ ap (option_map view) c.as_ref.ensures.value ∙ c.split_group-group.ensures.group in
    let some : group_of c.args.partitions r.txn.id.client given ≡ Some c.in_ok-group.group = search rules in
    not_taken grammar c.args.partitions (view c.args.value) rest c.split_group-group.ensures.rest r is given out c.in_ok-group.group c.why_not_taken.result some (sym c.if-is_taken.ensures) c.why_not_taken.ensures
