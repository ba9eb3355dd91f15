use Rattle.std.proofs.Common.{arith, rules, ◌≡◌, ◌<◌, ◌∷◌, length, sym, ◌∙◌, ap, []}
use Rattle.calvin_serve_input.specs.Inputs.{coming}
use Rattle.calvin_serve_input.proofs.Cut.{at_end}
use Rattle.calvin_serve_input.proofs.input.Input.last_line.Goals as goal

pub returns-clause-line : goal.returns-clause-line
returns-clause-line c = λ _.
    let inside = c.self.inside in
    let held = c.self.invariant in
    let some : 0 < length inside.begin.items = search rules in
    let none = ap (λ w. w.ahead) c.self.view_is ∙ c.requires.none in
    ap (λ w. coming w []) (sym c.self.view_is) ∙ at_end inside.most inside.begin.items _ none held.1 held.2 some ∙ ap (λ w. w.items ∷ []) (sym c.swap.ensures.x_after)
