-- One more entry of the node is taken, or its next one doesn't fit, or none is left.
use Rattle.std.proofs.Common.{length, ℕ, ◌+◌, Ok, sym, ap, subst, ◌∙◌, arith}
use Rattle.std.specs.Prelude.{slice_get, slice_set}
use lib.ListN.{get_or}
use Rattle.std.proofs.lemmas.Option.{slice_get-get_or, get_or_from_slice_get}
use denote.Memory.{lone}
use Rattle.calvin_bench.proofs.Lists.{set_here}
use Rattle.calvin_book.specs.Books.{Log, world_after}
use Rattle.calvin_histories.specs.Histories.{Fits}
use Rattle.calvin_histories.specs.Assembling.{IsBegun, IsStuckAt, Took}
use Rattle.calvin_histories.proofs.EntrySizes.{an_entry}
use Rattle.calvin_histories.proofs.Assembling.{its_id, next_number, none_taken, begun_more, stuck_next, stuck_past}
use Rattle.calvin_histories.proofs.assembly.Assembly.take_of.Goals as goal

pub get-requires : goal.get-requires
get-requires g c = an_entry (lone g.row.A-Args.mir) (lone g.row.A-Row.mir) (lone g.row.A-Reply.mir) g.met.A.App.work_fits

pub take-requires : goal.take-requires
take-requires g c = (an_entry (lone g.row.A-Args.mir) (lone g.row.A-Row.mir) (lone g.row.A-Reply.mir) g.met.A.App.work_fits, c.loop-number.invariant.listed)

pub returns-then-not-branch-clause-stuck : goal.returns-then-not-branch-clause-stuck
returns-then-not-branch-clause-stuck g c =
    let m = g.A.App.meaning in
    let histories = c.args.histories.now in
    let old = c.loop-number.self.book in
    let taken = c.loop-number.self.taken.items in
    let h = get_or histories c.args.at c.index-histories-at-in-loop-number.result in
    let there = slice_get-get_or histories c.args.at c.index-histories-at-in-loop-number.result c.requires.there in
    let left = c.in_ok-take.ensures.left (ap Ok c.if-not-branch.true) in
    subst (λ log. IsStuckAt m log histories taken c.args.at) (sym left.0)
    (stuck_next m histories old taken c.args.at c.loop-number.number h c.in-Some.entry.now c.loop-number.invariant.taken there (ap (λ hs. slice_get hs c.loop-number.number) (sym c.index-histories-at-in-loop-number.is) ∙ sym c.in-Some.ensures)
    (λ fits. left.1 (subst (λ id. Fits m (world_after m old.config old.events) id c.in-Some.entry.now) (sym (its_id c.args.self.now.config c.args.self.now.book old c.requires.config c.loop-number.invariant.config.1 c.args.at c.id_at-id.result c.id_at-id.ensures)) fits)))

pub loop-number-preserved : goal.loop-number-preserved
loop-number-preserved g c =
    let m = g.A.App.meaning in
    let histories = c.args.histories.now in
    let old = c.loop-number.self.book in
    let taken = c.loop-number.self.taken.items in
    let n = c.loop-number.number in
    let h = get_or histories c.args.at c.index-histories-at-in-loop-number.result in
    let there = slice_get-get_or histories c.args.at c.index-histories-at-in-loop-number.result c.requires.there in
    let took = c.in_ok-take.ensures.took (ap Ok c.if-not-branch.false) in
    let id = its_id c.args.self.now.config c.args.self.now.book old c.requires.config c.loop-number.invariant.config.1 c.args.at c.id_at-id.result c.id_at-id.ensures in
    record {
      config = (c.loop-number.invariant.config.0, ap (λ (log : Log g.row.A-Args.Denot). log.config) took.applied.appended ∙ c.loop-number.invariant.config.1);
      begun = subst (λ (k : ℕ). IsBegun m c.take.new.book histories (slice_set taken c.args.at k)) (next_number n)
          (begun_more m histories old c.take.new.book taken c.args.at n h c.in-Some.entry.now c.loop-number.invariant.begun c.loop-number.invariant.taken there (ap (λ hs. slice_get hs c.loop-number.number) (sym c.index-histories-at-in-loop-number.is) ∙ sym c.in-Some.ensures) (subst (λ id. Took m old id c.in-Some.entry.now c.take.new.book) id took));
      listed = c.in_ok-take.ensures.listed;
      taken = set_here taken c.args.at (n + 1) n c.loop-number.invariant.taken;
      bound = (let b = c.loop-number.invariant.bound in omega (arith, b));
      same = λ e. absurd (let b = c.loop-number.invariant.bound in omega (arith, b, e));
    }

pub returns-clause-stuck : goal.returns-clause-stuck
returns-clause-stuck g c =
    let histories = c.args.histories.now in
    let h = get_or histories c.args.at c.index-histories-at.result in
    stuck_past g.A.App.meaning histories c.loop-number.self.book c.loop-number.self.taken.items c.args.at c.loop-number.number h c.loop-number.invariant.taken (slice_get-get_or histories c.args.at c.index-histories-at.result c.requires.there)
    (let past = c.loop-number-test.false in let long = c.len-number-end.ensures in let same = ap length c.index-histories-at.is in omega (arith, past, long, same))

pub returns-clause-same : goal.returns-clause-same
returns-clause-same g c = λ e. c.loop-number.invariant.same
    (none_taken c.loop-number.number c.index-first.result.now c.index.result.now (c.index.ensures ∙ get_or_from_slice_get c.loop-number.self.taken.items c.args.at c.loop-number.number c.index.result.now c.loop-number.invariant.taken) c.loop-number.invariant.bound e)
