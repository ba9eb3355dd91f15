use Rattle.std.proofs.Common.{◌≡◌, ◌++◌, map}
use Rattle.calvin_app.specs.Serial.{serial}
use Rattle.calvin_text.specs.Texts.{lines}
use Rattle.calvin_serial.specs.Scouting.{placed_txn}
use Rattle.calvin_serial.proofs.text.push_requests.Given as goal

-- the lines so far and those of the requests to come are those of all requests
abbrev pub invariant-loop-place : goal.invariant-loop-place
invariant-loop-place g l =
    let m = g.A.App.meaning in
    let show = g.A.Reply.Printed.printed in
    let all = map placed_txn l.fn.requests in
    let rest = map placed_txn l.place-iterator in
    record {
      text : l.text.items ++ lines show rest (serial m (map (λ e. e.1) rest) l.store).1 ≡ l.fn.text.items ++ lines show all (serial m (map (λ e. e.1) all) l.fn.store).1;
      rows : (serial m (map (λ e. e.1) rest) l.store).0 ≡ (serial m (map (λ e. e.1) all) l.fn.store).0;
    }
