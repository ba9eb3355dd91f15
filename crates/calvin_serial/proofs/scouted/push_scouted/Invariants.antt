use Rattle.std.proofs.Common.{◌≡◌, ◌++◌, drop, map}
use Rattle.calvin_app.specs.Serial.{serial}
use Rattle.calvin_text.specs.Texts.{lines}
use Rattle.calvin_serial.proofs.scouted.push_scouted.Given as goal

-- the lines so far and those of the requests to come are those of the whole epoch
abbrev pub invariant-loop-place : goal.invariant-loop-place
invariant-loop-place g l =
    let m = g.A.App.meaning in
    let show = g.A.Reply.Printed.printed in
    let rest = drop l.place-index l.place-items in
    record {
      text : l.text.items ++ lines show rest (serial m (map (λ e. e.1) rest) l.store).1 ≡ l.fn.text.items ++ lines show l.place-items (serial m (map (λ e. e.1) l.place-items) l.fn.store).1;
      rows : (serial m (map (λ e. e.1) rest) l.store).0 ≡ (serial m (map (λ e. e.1) l.place-items) l.fn.store).0;
    }
