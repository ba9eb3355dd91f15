use Rattle.std.proofs.Common.{rules, ◌≡◌, ◌≤◌, ◌++◌, ◌∷◌, [], ◌∙◌, Some, ap, sym, subst, map, append_assoc}
use Rattle.std.specs.Vec.Iter.{into_iter_items}
use Rattle.serde_json.specs.Data.{items_depth}
use Rattle.serde_json.specs.View.{items_view}
use Rattle.calvin_script.specs.Requests.{request}
use Rattle.calvin_script.specs.Scripts.{are_taken}
use Rattle.calvin_script.specs.Spelling.{each}
use Rattle.calvin_serve_lines.specs.declared.limits.TheConstants.{MOST_LEVELS}
use Rattle.calvin_serve_lines.proofs.Spells.{each_with, depth_with, taken_with}
use Rattle.calvin_serve_lines.proofs.group.Group.into_parts.Goals as goal

pub loop-asked-preserved : goal.loop-asked-preserved
loop-asked-preserved g c =
    let grammar = g.Op.Operation.grammar in
    let l = c.loop-asked in
    let one = c.into_parts-request in
    let rest = into_iter_items c.next.new.self in
    let values : c.push.new.self.items ≡ l.json.items ++ one.result.1 ∷ [] = search rules in
    let requests : c.push-in-loop-asked.new.self.items ≡ l.requests.items ++ one.result.0 ∷ [] = search rules in
    let steps : into_iter_items l.asked-iterator ≡ c.in-Some.asked ∷ rest = search rules in (
      ap (λ vs. each (request grammar) (items_view vs)) values ∙ each_with (request grammar) l.json.items one.result.1 l.requests.items one.result.0 l.invariant.0 one.ensures.spelled ∙ ap Some (sym requests),
      subst (λ vs. items_depth (items_view vs) ≤ MOST_LEVELS) (sym values) (depth_with l.json.items one.result.1 MOST_LEVELS l.invariant.1 one.ensures.shallow),
      ap are_taken requests ∙ taken_with l.requests.items one.result.0 l.invariant.2 one.ensures.taken,
      ap (λ rs. rs ++ map (λ a. a.request) rest) requests ∙ append_assoc l.requests.items (one.result.0 ∷ []) (map (λ a. a.request) rest) ∙ ap (λ r. l.requests.items ++ r ∷ map (λ a. a.request) rest) one.ensures.request
          ∙ ap (λ xs. l.requests.items ++ map (λ a. a.request) xs) (sym steps) ∙ l.invariant.3,
    )
