-- Each event goes on.
use Rattle.std.proofs.Common.{◌<◌, ◌≤◌, ℕ, map, rules, sym, ap, subst, ◌∙◌}
use Rattle.std.proofs.lemmas.List.{length-map, get_or-map}
use Rattle.calvin_script_events.specs.EventForms.{event_of}
use Rattle.calvin_check.proofs.Steps.{begins, goes_on, ends}
use Rattle.calvin_check.proofs.running.run_events.Goals as goal

pub loop-number-init : goal.loop-number-init
loop-number-init g c = begins g.A.App.meaning c.args.world.now (map event_of c.args.events.now) c.args.text.now.items

pub loop-number-preserved : goal.loop-number-preserved
loop-number-preserved g c =
    goes_on g.A.App.meaning c.args.world.now (map event_of c.args.events.now) c.loop-number.number c.args.text.now.items c.loop-number.world c.loop-number.text.items c.loop-number.invariant
    c.event.result (subst (λ (n : ℕ). c.loop-number.number < n) (sym (length-map c.args.events.now event_of)) c.loop-number-test.true)
    (c.event.ensures ∙ ap event_of c.index-events-number.is ∙ sym (get_or-map event_of c.args.events.now c.loop-number.number c.index-events-number.result c.event.result c.loop-number-test.true))
    _ c.outcome_of-outcome.result c.step.new.self c.step.ensures.step c.outcome_of-outcome.ensures (search rules) c.push_outcome.new.text.items c.in_ok-push_outcome.ensures

pub returns-clause-led : goal.returns-clause-led
returns-clause-led g c =
    ends g.A.App.meaning c.args.world.now (map event_of c.args.events.now) c.loop-number.number c.args.text.now.items c.loop-number.world c.loop-number.text.items c.loop-number.invariant
    (subst (λ (n : ℕ). n ≤ c.loop-number.number) (sym (length-map c.args.events.now event_of)) c.loop-number-test.false)
