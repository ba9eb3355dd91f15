-- All entries are taken, or the first one left is.
use Rattle.std.proofs.Common.{◌*◌, length, Some, refl, sym, ap, subst, ◌∙◌, arith}
use lib.ListN.{get_or}
use Rattle.std.proofs.lemmas.Option.{slice_get-get_or}
use Rattle.calvin_book.specs.Books.{IsRun}
use Rattle.calvin_histories.proofs.Assembling.{its_id, taken_more, taken_all, is_assembled, is_stuck}
use Rattle.calvin_histories.proofs.assembly.Assembly.end.Goals as goal

pub returns-then-entry-len-clause-err : goal.returns-then-entry-len-clause-err
returns-then-entry-len-clause-err g c =
    let number = (c.requires.number ∙ (λ i. (sym c.requires.config i).replicas * (sym c.requires.config i).partitions)) in
    let history = (get_or c.args.histories.now c.loop-at.at c.index-histories-at.result) in (
      number,
      is_stuck g.A.App.meaning c.args.histories.now c.args.self.book.config c.args.self.book.events c.args.self.taken.items (subst (IsRun g.A.App.meaning c.args.self.book.config c.args.self.book.events) c.world.ensures.after c.world.ensures.run) number c.requires.begun c.requires.stuck c.loop-at.at c.index-entry.result.now c.id_at-node.result history
          (its_id c.args.self.config c.args.self.book c.args.self.book c.requires.config refl c.loop-at.at c.id_at-node.result c.id_at-node.ensures) (slice_get-get_or c.args.self.taken.items c.loop-at.at c.index-entry.result.now (let n = c.requires.begun.number in let less = c.loop-at-test.true in omega (arith, n, less)) ∙ ap Some (sym c.index-entry.ensures)) (slice_get-get_or c.args.histories.now c.loop-at.at c.index-histories-at.result c.loop-at-test.true) (let less = c.if-entry-len.true in let long = c.len.ensures in let same = ap length c.index-histories-at.is in omega (arith, less, long, same)) c.loop-at.invariant,
    )

pub loop-at-preserved : goal.loop-at-preserved
loop-at-preserved g c =
    taken_more g.A.App.meaning c.args.histories.now c.args.self.taken.items c.loop-at.at c.index-entry.result.now (get_or c.args.histories.now c.loop-at.at c.index-histories-at.result) (slice_get-get_or c.args.self.taken.items c.loop-at.at c.index-entry.result.now (let n = c.requires.begun.number in let less = c.loop-at-test.true in omega (arith, n, less)) ∙ ap Some (sym c.index-entry.ensures)) (slice_get-get_or c.args.histories.now c.loop-at.at c.index-histories-at.result c.loop-at-test.true)
    (let past = c.if-entry-len.false in let long = c.len.ensures in let same = ap length c.index-histories-at.is in omega (arith, past, long, same)) c.loop-at.invariant

pub returns-clause-ok : goal.returns-clause-ok
returns-clause-ok g c =
    is_assembled g.A.App.meaning c.args.histories.now c.args.self.book.config c.args.self.book.events c.args.self.taken.items (subst (IsRun g.A.App.meaning c.args.self.book.config c.args.self.book.events) c.world.ensures.after c.world.ensures.run) (c.requires.number ∙ (λ i. (sym c.requires.config i).replicas * (sym c.requires.config i).partitions)) c.requires.begun g.met.A.App.lawful.writes_within_the_sets
    (taken_all g.A.App.meaning c.args.histories.now c.args.self.taken.items c.loop-at.at (let past = c.loop-at-test.false in omega (arith, past)) c.loop-at.invariant)
