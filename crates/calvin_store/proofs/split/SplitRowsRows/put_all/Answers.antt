use Rattle.std.proofs.Common.{◌+◌, drop, sym, ◌∙◌, ap, arith}
use Rattle.std.proofs.lemmas.List.{drop_all}
use Rattle.calvin_types.proofs.Fews.{drop_at}
use Rattle.calvin_app.specs.Stores.{put_at}
use Rattle.calvin_store.specs.Kept.{split_store}
use Rattle.calvin_store.proofs.PutsInTurn.{put_at-nil, put_at-cons}
use Rattle.calvin_store.proofs.split.SplitRowsRows.put_all.Goals as goal

pub put-requires : goal.put-requires
put-requires g c = omega (arith, c.loop-i.invariant.room, c.requires, c.loop-i-test.true, c.len-i-end.ensures.len)

pub loop-i-preserved : goal.loop-i-preserved
loop-i-preserved g c =
    let q = c.args.place in
    let left = drop (c.loop-i.i + 1) c.args.writes.now in record {
      so_far = ap (put_at q left) c.put.ensures.store ∙ sym (put_at-cons q c.at-row.result left (split_store c.loop-i.self))
          ∙ ap (λ ws. put_at q ws (split_store c.loop-i.self)) (sym (drop_at c.args.writes.now c.loop-i.i c.at-row.result c.at-row.ensures))
          ∙ c.loop-i.invariant.so_far;
      room = omega (arith, c.put.ensures.room, c.loop-i.invariant.room, c.requires, c.loop-i-test.true, c.len-i-end.ensures.len);
    }

pub returns-clause-store : goal.returns-clause-store
returns-clause-store g c =
    let q = c.args.place in
    sym (put_at-nil q (split_store c.loop-i.self))
    ∙ ap (λ ws. put_at q ws (split_store c.loop-i.self)) (sym (drop_all c.loop-i.i c.args.writes.now (omega (arith, c.loop-i-test.false, c.len-i-end.ensures.len))))
    ∙ c.loop-i.invariant.so_far

pub returns-clause-room : goal.returns-clause-room
returns-clause-room g c = omega (arith, c.loop-i.invariant.room, c.loop-i-test.false, c.loop-i.auto.i-end, c.len-i-end.ensures.len)
