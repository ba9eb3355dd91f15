use Rattle.std.proofs.Common.{◌++◌, sym, subst, ap, ◌∙◌, map, vec_len, append-nil, arith}
use Rattle.std.specs.Prelude.{OnOk}
use Rattle.std.proofs.lemmas.Bool.{eqb-true}
use Rattle.calvin_app.specs.Serial.{serial}
use Rattle.calvin_script.specs.Scripts.{contents}
use Rattle.calvin_text.specs.Texts.{lines}
use Rattle.calvin_serial.specs.Scouting.{placed_txn, RunsOn}
use Rattle.calvin_serial.proofs.Blanks.{none_listed}
use Rattle.calvin_serial.proofs.Requests.{txns_merged}
use Rattle.calvin_serial.proofs.text.push_epoch.Goals as goal

pub returns-then-is_empty-clause-ok : goal.returns-then-is_empty-clause-ok
returns-then-is_empty-clause-ok g c =
    let m = g.A.App.meaning in
    let none = eqb-true (vec_len c.index.result.now.batches) 0 (sym c.is_empty.ensures ∙ c.if-is_empty.true) in
    let nothing = none_listed c.args.script.now c.args.epoch c.index.result.now c.requires.within c.index.ensures (omega (arith, none, c.index.result.now.batches.ok.0)) in
    record {
      added = sym (append-nil c.args.text.now.items) ∙ ap (λ placed. c.args.text.now.items ++ lines g.A.Reply.Printed.printed placed (serial m (map (λ e. e.1) placed) c.args.store.now).1) (sym nothing);
      after = ap (λ placed. (serial m (map (λ e. e.1) placed) c.args.store.now).0) (sym nothing);
    }

pub returns-then-is_woven-clause-ok : goal.returns-then-is_woven-clause-ok
returns-then-is_woven-clause-ok g c =
    let all = ap (map placed_txn) c.requests_in-requests.ensures ∙ txns_merged (contents c.args.script.now) c.args.epoch in
    let new = c.push_requests.new in
    subst (λ placed. OnOk c.push_requests.result (RunsOn g.A.App.meaning g.A.Reply.Printed.printed placed c.args.store.now new.store c.args.text.now.items new.text.items)) all c.push_requests.ensures.ok

pub returns-clause-ok : goal.returns-clause-ok
returns-clause-ok g c =
    let all = ap (map placed_txn) c.joined_requests-requests.ensures ∙ txns_merged (contents c.args.script.now) c.args.epoch in
    let new = c.push_requests-2.new in
    subst (λ placed. OnOk c.push_requests-2.result (RunsOn g.A.App.meaning g.A.Reply.Printed.printed placed c.args.store.now new.store c.args.text.now.items new.text.items)) all c.push_requests-2.ensures.ok
