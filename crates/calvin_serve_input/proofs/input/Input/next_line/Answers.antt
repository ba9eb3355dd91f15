use Rattle.std.proofs.Common.{arith, rules, ◌≡◌, ◌≤◌, ◌+◌, ◌-◌, ◌∷◌, ◌++◌, ℕ, List, [], false, length, take, drop, sym, ◌∙◌, ap, length-take}
use Rattle.std.proofs.lemmas.List.{drop-drop, drop_all, drop-take}
use Rattle.calvin_journal.specs.Lines.{has_break}
use Rattle.calvin_journal.proofs.Reading.{no_break_in, no_break_before, cut_at}
use Rattle.calvin_serve_input.specs.Inputs.{coming}
use Rattle.calvin_serve_input.proofs.Cut.{free_take, free_append, handed, read_through}
use Rattle.calvin_serve_input.proofs.input.Input.next_line.Goals as goal

-- a piece of a block, from its start to its end
piece : (start end : ℕ) (block bytes : List ℕ) → start ≤ end → bytes ≡ block → take (end - start) (drop start bytes) ≡ drop start (take end block)
piece start end block bytes order is =
    let fits : start + (end - start) ≡ end = omega (arith, order) in
    sym (drop-take start (end - start) bytes) ∙ ap (λ n. drop start (take n bytes)) fits ∙ ap (λ w. drop start (take end w)) is

pub invariant_of-self-in-None : goal.invariant_of-self-in-None
invariant_of-self-in-None c =
    let inside = c.self.inside in
    let held = c.self.invariant in
    let ahead = take (inside.end - inside.start) (drop inside.start c.deref.result.now) in
    let free : has_break ahead ≡ false = no_break_in ahead (λ j lt is. c.in-None.ensures j (omega arith) lt is) in
    let is : c.extend-in-None.new.line.items ≡ take inside.most (inside.begin.items ++ ahead) = search rules in
    (held.0, omega (arith, ap length is, length-take inside.most (inside.begin.items ++ ahead)), ap has_break is ∙ free_take inside.most (inside.begin.items ++ ahead) (free_append inside.begin.items ahead held.2 free), omega arith, held.4, held.5)

pub returns-in_ok-extend-in-Some-clause-line : goal.returns-in_ok-extend-in-Some-clause-line
returns-in_ok-extend-in-Some-clause-line c = λ _ left.
    let inside = c.self.inside in
    let held = c.self.invariant in
    let ahead = take (inside.end - inside.start) (drop inside.start c.deref.result.now) in
    let whole = piece inside.start inside.end inside.block.items c.deref.result.now held.3 c.deref.ensures.value in
    let at = c.in-Some.at in
    let before = take at ahead in
    let cut = cut_at ahead at c.in-Some.ensures.0.high c.in-Some.ensures.1 in
    let free = no_break_before ahead at (λ j lt is. c.in-Some.ensures.0.before j (omega arith) lt is) in
    let rest : drop (at + 1) ahead ≡ drop (inside.start + (at + 1)) (take inside.end inside.block.items) = ap (drop (at + 1)) whole ∙ drop-drop (at + 1) inside.start (take inside.end inside.block.items) in
    let line : c.swap.new.x.items ≡ take inside.most (inside.begin.items ++ before) = search rules in
    let none : c.clear.new.self.items ≡ [] = search rules in
    ap (λ w. coming w left) (sym c.self.view_is) ∙ ap (λ w. coming (record { most = inside.most; begin = inside.begin.items; ahead = w }) left) (sym whole)
    ∙ handed inside.most inside.begin.items ahead before (drop (at + 1) ahead) left cut held.2 free
    ∙ (λ i. sym line i ∷ coming (record { most = inside.most; begin = sym none i; ahead = rest i }) left)

pub returns-in_ok-extend-in-None-clause-none : goal.returns-in_ok-extend-in-None-clause-none
returns-in_ok-extend-in-None-clause-none c = λ _.
    let inside = c.self.inside in
    let held = c.self.invariant in
    let ahead = take (inside.end - inside.start) (drop inside.start c.deref.result.now) in
    let whole = piece inside.start inside.end inside.block.items c.deref.result.now held.3 c.deref.ensures.value in
    let free : has_break ahead ≡ false = no_break_in ahead (λ j lt is. c.in-None.ensures j (omega arith) lt is) in
    let is : c.extend-in-None.new.line.items ≡ take inside.most (inside.begin.items ++ ahead) = search rules in
    let empty = drop_all inside.end (take inside.end inside.block.items) (omega (arith, length-take inside.end inside.block.items)) in (
      empty,
      λ left.
          ap (λ w. coming w left) (sym c.self.view_is) ∙ ap (λ w. coming (record { most = inside.most; begin = inside.begin.items; ahead = w }) left) (sym whole)
          ∙ read_through inside.most held.0 inside.begin.items ahead left held.2 free
          ∙ (λ i. coming (record { most = inside.most; begin = sym is i; ahead = sym empty i }) left),
    )
