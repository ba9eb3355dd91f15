use Rattle.std.proofs.Common.{◌≡◌, ◌∷◌, ◌++◌, ◌∙◌, ℕ, List, ap, sym, Bool, true, false, refl, Err}
use Rattle.calvin_types.specs.Keys.{are_distinct}
use Rattle.calvin_app.specs.Rows.{overwritten}
use Rattle.calvin_app.specs.Writing.{keys_of}
use Rattle.std.specs.FinMap.{empty}
use Rattle.calvin_serve_recovery.specs.Beginnings.{TakesLines, HaveRows, HaveNoRows, AreOnRows, AreOnNoRows}
use Rattle.calvin_serve_recovery.proofs.Beginnings.{takes_behind, takes_so, takes_same, hands_same, hands_not, on_these, on_none, on_repeated}
use Rattle.calvin_serve_recovery.proofs.starting.store_behind.Goals as goal

not_false : (b : Bool) → (b ≡ false → ⊥) → b ≡ true
not_false true h = refl
not_false false h = absurd (h refl)

pub returns-in-Ok-from_rows-clause-ok : goal.returns-in-Ok-from_rows-clause-ok
returns-in-Ok-from_rows-clause-ok g c =
    let form = g.A.Row.StoredRow.form in
    let out = c.in-Ok-true.ensures.line c.in-Ok-true.field-0-test in
    let rows = c.in-Ok.rows.items in
    let same : c.deref.result.now ≡ rows = c.deref.ensures.value in
    let distinct = not_false (are_distinct (keys_of rows)) (λ no. let wrong = c.in-Ok-from_rows.ensures.repeated.1 (ap (λ rs. are_distinct (keys_of rs)) same ∙ no) in cc wrong) in
    takes_behind (HaveRows form c.args.count rows) (AreOnRows form c.args.count c.in-Ok-from_rows.store) c.next_line.new.line.items c.args.opening.now.lines c.next_line.new.self.lines c.rows_ahead.new.opening.lines out c.in-Ok.ensures.ok
    (λ lines have. on_these form c.args.count rows c.in-Ok-from_rows.store distinct (c.in-Ok-from_rows.ensures.ok ∙ ap (overwritten empty) same) c.next_line.new.line.items lines have)

pub returns-in-Err-Repeated-clause-err : goal.returns-in-Err-Repeated-clause-err
returns-in-Err-Repeated-clause-err g c =
    let form = g.A.Row.StoredRow.form in
    let out = c.in-Ok-true.ensures.line c.in-Ok-true.field-0-test in
    takes_same (λ lines. Unit {0}) c.args.opening.now.lines c.rows_ahead.new.opening.lines
    (takes_behind (HaveRows form c.args.count c.in-Ok.rows.items) (λ lines. Unit {0}) c.next_line.new.line.items c.args.opening.now.lines c.next_line.new.self.lines c.rows_ahead.new.opening.lines out c.in-Ok.ensures.ok (λ lines have. tt))

pub returns-in-Ok-clause-err : goal.returns-in-Ok-clause-err
returns-in-Ok-clause-err g c =
    let form = g.A.Row.StoredRow.form in
    let out = c.in-Ok-true.ensures.line c.in-Ok-true.field-0-test in
    takes_same (λ lines. Unit {0}) c.args.opening.now.lines c.rows_ahead.new.opening.lines
    (takes_behind (HaveRows form c.args.count c.in-Ok.rows.items) (λ lines. Unit {0}) c.next_line.new.line.items c.args.opening.now.lines c.next_line.new.self.lines c.rows_ahead.new.opening.lines out c.in-Ok.ensures.ok (λ lines have. tt))

pub returns-in-Err-Repeated-clause-no_rows : goal.returns-in-Err-Repeated-clause-no_rows
returns-in-Err-Repeated-clause-no_rows g c = λ is.
    let form = g.A.Row.StoredRow.form in
    let out = c.in-Ok-true.ensures.line c.in-Ok-true.field-0-test in
    let line = c.next_line.new.line.items in
    let rows = c.in-Ok.rows.items in
    let same : c.deref.result.now ≡ rows = c.deref.ensures.value in
    let repeated : are_distinct (keys_of rows) ≡ false = ap (λ rs. are_distinct (keys_of rs)) (sym same) ∙ c.in-Err-Repeated.ensures.repeated.0 (ap Err c.in-Err-Repeated.field-0-is) in
    hands_not (λ rest. AreOnNoRows form c.args.count (line ∷ rest)) (AreOnNoRows form c.args.count) line c.args.opening.now.lines c.next_line.new.self.lines out
    (takes_so (HaveRows form c.args.count rows) (λ rest. AreOnNoRows form c.args.count (line ∷ rest)) c.next_line.new.self.lines c.rows_ahead.new.opening.lines c.in-Ok.ensures.ok
    (λ lines rest have. on_repeated form c.args.count rows repeated line lines rest have))
    (λ rest none. none)

pub returns-in-Ok-true-clause-err : goal.returns-in-Ok-true-clause-err
returns-in-Ok-true-clause-err g c = c.in-Err-rows_ahead.ensures.err ∙ hands_same c.next_line.new.line.items c.args.opening.now.lines c.next_line.new.self.lines (c.in-Ok-true.ensures.line c.in-Ok-true.field-0-test)

pub returns-in-Ok-true-clause-no_rows : goal.returns-in-Ok-true-clause-no_rows
returns-in-Ok-true-clause-no_rows g c = λ is.
    let form = g.A.Row.StoredRow.form in
    let out = c.in-Ok-true.ensures.line c.in-Ok-true.field-0-test in
    hands_not (HaveNoRows form c.args.count) (AreOnNoRows form c.args.count) c.next_line.new.line.items c.args.opening.now.lines c.next_line.new.self.lines out (c.in-Err-rows_ahead.ensures.no_rows is)
    (λ rest none. on_none form c.args.count c.next_line.new.line.items rest none)
