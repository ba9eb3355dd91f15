use Rattle.std.proofs.Common.{◌≡◌, ◌+◌, ◌<◌, ◌≤◌, ◌∷◌, [], ◌++◌, take, length, sym, ap, ◌∙◌, arith}
use Rattle.std.proofs.lemmas.List.{take_all}
use Rattle.std.specs.FinMap as map
use Rattle.calvin_app.specs.Entries.{shown}
use Rattle.calvin_row_list.proofs.Fronts.{shown-entries}
use Rattle.calvin_sched.specs.Arrivals.{came_by}
use Rattle.calvin_sched.specs.declared.came.Arrival.TheVariants.{Nothing}
use Rattle.calvin_sched.proofs.Arrivals.{came_by-push, first_row, further_row}
use Rattle.calvin_sched.proofs.came.push_view.Goals as goal
use Rattle.calvin_sched.proofs.came.push_view.Goals.{then-i-eq0, else-i-eq0}

pub returns-then-len-eq0-clause-rows : goal.returns-then-len-eq0-clause-rows
returns-then-len-eq0-clause-rows g c =
    let none = map.empty_of_len c.args.view.now (sym c.len.ensures.len ∙ c.if-len-eq0.true) in
    ap came_by c.push_reserved.ensures.items ∙ came_by-push c.args.arrivals.now.items (Nothing c.args.partition)
    ∙ ap (map.insert (came_by c.args.arrivals.now.items) c.args.partition) (sym none)

pub loop-i-preserved : goal.loop-i-preserved
loop-i-preserved g c =
    let es = map.entries c.args.view.now in
    let rise = map.entries_sorted c.args.view.now in
    let came = came_by c.args.arrivals.now.items in
    let arrivals = c.loop-i.arrivals.items in
    let pushed = c.push_reserved-in-loop-i.ensures in
    let grown : came_by c.push_reserved-in-loop-i.new.self.items ≡ map.insert came c.args.partition (shown (take (c.loop-i.i + 1) es)) = elim c.if-i-eq0.branch [
      | then-i-eq0 w ↦ ap came_by pushed.items ∙ ap (λ a. came_by (arrivals ++ a ∷ [])) w.arrival-is
          ∙ first_row arrivals came c.args.partition es c.loop-i.i c.at-row.result.0 c.at-row.result.1 rise c.at-row.ensures w.if-i-eq0.true (c.loop-i.invariant.before w.if-i-eq0.true)
      | else-i-eq0 w ↦ let some : 0 < c.loop-i.i = omega (arith, w.if-i-eq0.false) in
          ap came_by pushed.items ∙ ap (λ a. came_by (arrivals ++ a ∷ [])) w.arrival-is
          ∙ further_row arrivals came c.args.partition es c.loop-i.i c.at-row.result.0 c.at-row.result.1 rise c.at-row.ensures (c.loop-i.invariant.after some)
    ] in
    record {
      before = λ none. absurd (omega (arith, none));
      after = λ _. grown;
      len = omega (arith, pushed.len, c.loop-i.invariant.len);
      capacity = pushed.capacity ∙ c.loop-i.invariant.capacity;
    }

pub returns-clause-rows : goal.returns-clause-rows
returns-clause-rows g c =
    let es = map.entries c.args.view.now in
    let number = map.len-entries c.args.view.now in
    let some : 0 < c.loop-i.i = omega (arith, c.loop-i-test.false, c.len-i-end.ensures.len, c.len.ensures.len, c.if-len-eq0.false) in
    let all : length es ≤ c.loop-i.i = omega (arith, c.loop-i-test.false, c.len-i-end.ensures.len, number) in
    c.loop-i.invariant.after some
    ∙ ap (map.insert (came_by c.args.arrivals.now.items) c.args.partition) (ap shown (take_all c.loop-i.i es all) ∙ shown-entries c.args.view.now)
