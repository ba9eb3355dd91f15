use Rattle.std.proofs.Common.{◌≡◌, ℕ, ◌+◌, ◌-◌, ◌<◌, ◌++◌, ◌∙◌, ap, sym, length, Ok, arith}
use Rattle.std.proofs.lemmas.List.{length-map}
use Rattle.calvin_script.specs.Scripts.{contents, all_listed}
use Rattle.calvin_text.specs.Texts.{finished}
use Rattle.calvin_serial.proofs.Runs.{epoch_order, text_from, epoch_run, all_run}
use Rattle.calvin_serial.proofs.engine.text_of.Goals as goal
use Rattle.calvin_serial.proofs.engine.text_of.Goals.{in-First+in_ok-push_epoch-in-First, in-Scouted+in_ok-push_scouted_epoch-in-Scouted}

pub loop-epoch-preserved : goal.loop-epoch-preserved
loop-epoch-preserved g c =
    let m = g.A.App.meaning in
    let show = g.A.Reply.Printed.printed in
    let script = contents c.args.script.now in
    let sets = c.args.sets in
    let now = c.loop-epoch in
    let e : ℕ = now.epoch in
    let n : ℕ = length c.args.script.now.epochs.items in
    let within : e < n = omega (arith, c.loop-epoch-test.true, c.len-epoch-end.ensures, c.args.script.now.epochs.ok.0) in
    elim c.match-sets.branch [
      | in-First+in_ok-push_epoch-in-First w ↦
          let new = w.push_epoch.new in
          (λ i. text_from m show script sets (w.text-is i).items (w.store-is i) (e + 1) (n - (e + 1)))
          ∙ epoch_run m show script sets now.store new.store now.text.items new.text.items e n _ _ within
          (ap (epoch_order m show script sets now.store e) w.in-First.is) w.in_ok-push_epoch-in-First.ensures.ok now.invariant
      | in-Scouted+in_ok-push_scouted_epoch-in-Scouted w ↦
          let new = w.push_scouted_epoch.new in
          (λ i. text_from m show script sets (w.text-is i).items (w.store-is i) (e + 1) (n - (e + 1)))
          ∙ epoch_run m show script sets now.store new.store now.text.items new.text.items e n _ _ within
          (ap (epoch_order m show script sets now.store e) w.in-Scouted.is) w.in_ok-push_scouted_epoch-in-Scouted.ensures.ok now.invariant
    ]

pub returns-clause-text : goal.returns-clause-text
returns-clause-text g c =
    let script = contents c.args.script.now in
    let n : ℕ = length c.args.script.now.epochs.items in
    let none : n - c.loop-epoch.epoch ≡ 0 = omega (arith, c.loop-epoch-test.false, c.len-epoch-end.ensures, c.args.script.now.epochs.ok.0) in
    let as_many : c.len.result ≡ n = omega (arith, c.len.ensures, c.args.script.now.epochs.ok.0) in
    let listed = sym (length-map c.args.script.now.epochs.items all_listed) in
    all_run g.A.App.meaning g.A.Reply.Printed.printed script c.args.sets c.loop-epoch.text.items c.loop-epoch.store c.loop-epoch.epoch n _ listed none c.loop-epoch.invariant
    ∙ ap Ok (sym (c.in_ok-push_finished.ensures ∙ ap (λ k. c.loop-epoch.text.items ++ finished k) (as_many ∙ listed)))
