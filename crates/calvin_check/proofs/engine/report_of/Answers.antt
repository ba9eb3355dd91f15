-- What is told is told of the world that the events lead to.
use Rattle.std.proofs.Common.{true, map, ap, subst, ◌∙◌, None}
use Rattle.std.specs.Prelude.{option_map, string_bytes}
use Rattle.calvin_order.specs.Configs.{config_of}
use Rattle.calvin_script_events.specs.EventForms.{event_of}
use Rattle.calvin_world.specs.SettledWorlds.{SettledLeads}
use Rattle.calvin_check.specs.Checks.{are_expected}
use Rattle.calvin_check.proofs.Telling.{told_text, told_lines}
use Rattle.calvin_check.proofs.engine.report_of.Goals as goal

pub returns-clause-told : goal.returns-clause-told
returns-clause-told g c =
    let led = c.in_ok-run_events.ensures.led in
    let script = c.args.script.now in
    let world = c.in_ok-world.world in
    let after = c.run_events.new.world in
    let show = g.A.Reply.Printed.printed in
    let config = config_of script.config true true in
    let events = map event_of script.events.items in
    let leads = subst (λ es. SettledLeads g.A.App.meaning world (map event_of es) led.0 after) c.deref.ensures.value led.1 in (
      told_text g.A.App.meaning show config world c.in_ok-world.ensures.ok events led.0 after leads led.2
          c.new-text.result.items c.run_events.new.text.items c.tell_world-told.new.text.items c.new-text.ensures.items led.3 c.in_ok-is_expected.ensures.told,
      c.in_ok-is_expected.ensures.expected
          ∙ ap (are_expected (option_map (λ v. map string_bytes v.items) script.expect)) (told_lines g.A.App.meaning show config world c.in_ok-world.ensures.ok events led.0 after leads led.2),
    )
