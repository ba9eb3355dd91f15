use Rattle.std.proofs.Common.{◌≤◌, ◌∙◌, sym, ap, subst, drop, length, arith}
use Rattle.std.proofs.lemmas.List.{drop_all}
use Rattle.std.specs.Prelude.{IsOkAnd, Ok}
use Rattle.calvin_serial.specs.Scouting.{scouted_epoch, RunsOn}
use Rattle.calvin_serial.proofs.Runs.{runs_on}
use Rattle.calvin_serial.proofs.scouted.push_scouted.Goals as goal

pub returns-clause-ok : goal.returns-clause-ok
returns-clause-ok g c =
    let m = g.A.App.meaning in
    let show = g.A.Reply.Printed.printed in
    let all = c.deref-place-items.result.now in
    let at_end : length all ≤ c.loop-place.place-index = omega (arith, c.loop-place-test.false) in
    let runs = runs_on m show all (drop c.loop-place.place-index all) c.args.store.now c.loop-place.store c.args.text.now.items c.loop-place.text.items
    (drop_all c.loop-place.place-index all at_end) c.loop-place.invariant.text c.loop-place.invariant.rows in
    let found = ap (λ rows. scouted_epoch m rows c.args.requests) (sym c.rows.ensures)
    ∙ c.in_ok-scouted.ensures.scouted ∙ ap Ok (sym c.deref-place-items.ensures.value) in
    subst (λ r. IsOkAnd r (λ placed. RunsOn m show placed c.args.store.now c.loop-place.store c.args.text.now.items c.loop-place.text.items)) (sym found) runs
