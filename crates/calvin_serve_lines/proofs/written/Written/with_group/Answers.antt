use Rattle.std.proofs.Common.{rules, ◌≡◌, ◌≤◌, ◌<◌, ◌+◌, ◌^◌, ◌++◌, ◌∷◌, [], ◌∙◌, Some, false, ◌==◌, ap, sym, subst, map, length}
use Rattle.std.proofs.lemmas.List.{map-append}
use Rattle.serde_json.specs.Data.{depth, items_depth}
use Rattle.serde_json.specs.View.{items_view}
use Rattle.calvin_script.specs.Scripts.{listed, batch}
use Rattle.calvin_script.specs.Spelling.{each}
use Rattle.calvin_serve_lines.specs.declared.limits.TheConstants.{MOST_LEVELS}
use Rattle.calvin_serve_lines.proofs.Batches.{one_batch}
use Rattle.calvin_serve_lines.proofs.Spells.{each_with, depth_with, batch_spelled, batch_depth}
use Rattle.calvin_serve_lines.proofs.written.Written.with_group.Goals as goal

pub invariant_of-self : goal.invariant_of-self
invariant_of-self g c =
    let grammar = g.Op.Operation.grammar in
    let number = c.args.number in
    let old = c.self.inside in
    let value = c.in_ok-batch_json.field-0 in
    let requests = items_view c.in_ok-json.json.items in
    let values : c.push.new.self.items ≡ old.json.items ++ value ∷ [] = search rules in
    let batches : map listed c.push-2.new.self.items ≡ map listed old.batches.items ++ record { group = number; requests = c.args.group } ∷ [] =
    ap (map listed) c.in_ok-push-2.ensures.items ∙ map-append listed old.batches.items _ ∙ ap (λ rs. map listed old.batches.items ++ record { group = number; requests = rs } ∷ []) c.in_ok-json.ensures.requests in
    let narrow : number < 2 ^ 8 = search rules in
    let one = ap (batch grammar) c.in_ok-batch_json.ensures ∙ batch_spelled grammar number requests c.args.group narrow c.in_ok-json.ensures.spelled c.into_parts.ensures.few c.in_ok-json.ensures.taken in
    let shallow = subst (λ d. depth d ≤ MOST_LEVELS + 2) (sym c.in_ok-batch_json.ensures) (batch_depth number requests c.in_ok-json.ensures.shallow) in (
      ap (λ vs. each (batch grammar) (items_view vs)) values ∙ each_with (batch grammar) old.json.items value (map listed old.batches.items) _ c.self.invariant.0 one ∙ ap Some (sym batches),
      subst (λ vs. items_depth (items_view vs) ≤ MOST_LEVELS + 2) (sym values) (depth_with old.json.items value (MOST_LEVELS + 2) c.self.invariant.1 shallow),
    )

pub returns-clause-ok : goal.returns-clause-ok
returns-clause-ok g c =
    let number = c.args.number in
    let old = c.self.inside in
    let some : (length c.args.group == 0) ≡ false = sym c.is_empty.ensures ∙ c.if-is_empty.false in
    ap (map listed) c.in_ok-push-2.ensures.items ∙ map-append listed old.batches.items _ ∙ ap (λ rs. map listed old.batches.items ++ record { group = number; requests = rs } ∷ []) c.in_ok-json.ensures.requests
    ∙ ap (λ bs. bs ++ record { group = number; requests = c.args.group } ∷ []) c.self.view_is ∙ ap (λ bs. c.args.self ++ bs) (sym (one_batch number c.args.group some))
