use Rattle.std.proofs.Common.{◌+◌, drop, sym, ◌∙◌, ap, arith}
use Rattle.std.proofs.lemmas.List.{drop_all}
use Rattle.calvin_types.proofs.Fews.{drop_at}
use Rattle.calvin_app.specs.Rows.{overwritten}
use Rattle.calvin_app.specs.Stores.{loaded}
use Rattle.calvin_app.proofs.StoreLaws.{put_at-loaded}
use Rattle.calvin_store.proofs.plain.PlainRowsRows.put_all.Goals as goal

pub put-requires : goal.put-requires
put-requires g c = omega (arith, c.loop-i.invariant.room, c.requires, c.loop-i-test.true, c.len-i-end.ensures.len)

pub loop-i-preserved : goal.loop-i-preserved
loop-i-preserved g c = record {
  so_far = ap (λ k. overwritten k.rows (drop (c.loop-i.i + 1) c.args.writes.now)) c.put.ensures.new
      ∙ ap (overwritten c.loop-i.self-inside.table.rows) (sym (drop_at c.args.writes.now c.loop-i.i c.at-row.result c.at-row.ensures))
      ∙ c.loop-i.invariant.so_far;
  room = omega (arith, ap (λ k. k.room) c.put.ensures.new, c.loop-i.invariant.room, c.requires, c.loop-i-test.true, c.len-i-end.ensures.len);
}

pub returns-clause-store : goal.returns-clause-store
returns-clause-store g c =
    ap loaded (ap (overwritten c.loop-i.self-inside.table.rows) (sym (drop_all c.loop-i.i c.args.writes.now (omega (arith, c.loop-i-test.false, c.len-i-end.ensures.len)))) ∙ c.loop-i.invariant.so_far)
    ∙ sym (put_at-loaded c.args._place c.args.writes.now c.args.self.now.rows)

pub returns-clause-room : goal.returns-clause-room
returns-clause-room g c = omega (arith, c.loop-i.invariant.room, c.loop-i-test.false, c.len-i-end.ensures.len)
