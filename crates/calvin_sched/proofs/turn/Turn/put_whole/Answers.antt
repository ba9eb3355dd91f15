use Rattle.std.proofs.Common.{rules, ◌≡◌, ◌-◌, ◌+◌, drop, length, sym, ap, ◌∙◌, arith}
use Rattle.std.specs.List.{slice_get}
use Rattle.std.specs.FinMap as map
use Rattle.std.proofs.lemmas.List.{drop_all}
use Rattle.calvin_types.specs.Keys.{key_cmp}
use Rattle.calvin_types.specs.Participants.{site}
use Rattle.calvin_app.proofs.Views.{len-insert-le}
use Rattle.calvin_sched.specs.Scheduling.{gathered, piece}
use Rattle.calvin_sched.proofs.Gathering.{more_row, no_row}
use Rattle.calvin_sched.proofs.turn.Turn.put_whole.Goals as goal
use Rattle.calvin_sched.proofs.turn.Turn.put_whole.Goals.{in-Some, in-None}

pub loop-done-init : goal.loop-done-init
loop-done-init g c = record {
  so_far = c.requires ∙ sym (ap (gathered (piece (site c.args.config.now.partitions c.args.partition) c.args.self.now.turn)) (drop_all (length c.args.self.now.turn.request.sets.reads - 0) c.args.self.now.turn.request.sets.reads (omega arith)));
  number = omega (arith, ap map.len c.requires, map.len-empty key_cmp g.row.A-Row.Denot);
}

pub put-requires : goal.put-requires
put-requires g c = (search rules, omega (arith, len-insert-le c.loop-done.view c.at-key.result c.in-Some.row, c.loop-done.invariant.number, c.loop-done-test.true, c.len-done-end.ensures.len, c.len-done-end.ensures.at_most))

pub loop-done-preserved : goal.loop-done-preserved
loop-done-preserved g c =
    let reads = c.args.self.now.turn.request.sets.reads in
    let same = ap length c.reads-keys.ensures in
    let at = length reads - (c.loop-done.done + 1) in
    let place : at ≡ c.len.result - 1 - c.loop-done.done = omega (arith, same, c.len.ensures.len, c.len-done-end.ensures.len, c.loop-done-test.true) in
    let after : length reads - c.loop-done.done ≡ at + 1 = omega (arith, same, c.len-done-end.ensures.len, c.loop-done-test.true) in
    let here = ap (slice_get reads) place ∙ ap (λ ks. slice_get ks (c.len.result - 1 - c.loop-done.done)) (sym c.reads-keys.ensures) ∙ c.at-key.ensures in
    let next = ap (λ n. gathered (piece (site c.args.config.now.partitions c.args.partition) c.args.self.now.turn) (drop n reads)) after in
    elim c.match-piece.branch [
      | in-Some w ↦ record {
        so_far = w.view-is ∙ w.put.ensures ∙ ap (λ m. map.insert m c.at-key.result w.in-Some.row) (c.loop-done.invariant.so_far ∙ next) ∙ more_row _ reads at c.at-key.result here w.in-Some.row (sym c.piece.ensures ∙ w.in-Some.is);
        number = omega (arith, ap map.len (w.view-is ∙ w.put.ensures), len-insert-le c.loop-done.view c.at-key.result w.in-Some.row, c.loop-done.invariant.number);
      }
      | in-None w ↦ record {
        so_far = w.view-is ∙ c.loop-done.invariant.so_far ∙ next ∙ no_row _ reads at c.at-key.result here (sym c.piece.ensures ∙ w.in-None.is);
        number = omega (arith, ap map.len w.view-is, c.loop-done.invariant.number);
      }
    ]

pub returns : goal.returns
returns g c =
    let reads = c.args.self.now.turn.request.sets.reads in
    let none : length reads - c.loop-done.done ≡ 0 = omega (arith, ap length c.reads-keys.ensures, c.len-done-end.ensures.len, c.loop-done-test.false) in
    c.loop-done.invariant.so_far ∙ ap (λ n. gathered (piece (site c.args.config.now.partitions c.args.partition) c.args.self.now.turn) (drop n reads)) none
