use Rattle.std.proofs.Common.{◌++◌, ap, map}
use Rattle.calvin_app.specs.Serial.{serial}
use Rattle.calvin_text.specs.Texts.{lines}
use Rattle.calvin_serial.specs.Scouting.{placed_txn}
use Rattle.calvin_serial.proofs.Runs.{one_line, one_row}
use Rattle.calvin_serial.proofs.text.push_requests.Goals as goal

pub loop-place-init : goal.loop-place-init
loop-place-init g c =
    let m = g.A.App.meaning in
    let show = g.A.Reply.Printed.printed in
    let all = ap (map placed_txn) c.into_iter-place-iterator.ensures.into_iter_gives in
    record {
      text = ap (λ placed. c.args.text.now.items ++ lines show placed (serial m (map (λ e. e.1) placed) c.args.store.now).1) all;
      rows = ap (λ placed. (serial m (map (λ e. e.1) placed) c.args.store.now).0) all;
    }

pub loop-place-preserved : goal.loop-place-preserved
loop-place-preserved g c =
    let m = g.A.App.meaning in
    let show = g.A.Reply.Printed.printed in
    let t = c.in-Some.kept.now.txn in
    let order = map placed_txn c.loop-place.place-iterator in
    let rest = map placed_txn c.next.new.self in
    let here = ap (map placed_txn) c.in-Some.ensures.steps in
    let pushed = c.in_ok-push_kept.ensures in
    let new = c.push_kept.new in
    record {
      text = one_line m show c.in-Some.place t order rest here c.loop-place.store new.store pushed.rows c.loop-place.text.items new.text.items _ pushed.line c.loop-place.invariant.text;
      rows = one_row m show c.in-Some.place t order rest here c.loop-place.store new.store pushed.rows _ c.loop-place.invariant.rows;
    }
