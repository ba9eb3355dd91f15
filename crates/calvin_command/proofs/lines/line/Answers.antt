use Rattle.std.proofs.Common.{◌≡◌, ◌∙◌, ap, ap₂, true, rules, codes}
use Rattle.std.proofs.lemmas.Result.{IfOk-weaker}
use Rattle.clap.specs.Words.{App, app_of, new_app, with_subcommand}
use Rattle.calvin_command.specs.Line.{serial_app, check_app, sim_app}
use Rattle.calvin_command.proofs.lines.line.Goals as goal

abbrev program : App
program = let plain = new_app (codes "calvin") in record plain { top = record plain.top { subcommand_required = true } }

pub returns : goal.returns
returns c =
    let program_is : app_of c.subcommand_required.result ≡ program = search rules in
    let serial_is : app_of c.in_ok-subcommand.field-0 ≡ with_subcommand program serial_app.top =
    c.in_ok-subcommand.ensures.shape c.in_ok-serial.ensures.local ∙ ap₂ with_subcommand program_is (ap (λ (a : App). a.top) c.in_ok-serial.ensures.app) in
    let check_is : app_of c.in_ok-subcommand-2.field-0 ≡ with_subcommand (with_subcommand program serial_app.top) check_app.top =
    c.in_ok-subcommand-2.ensures.shape c.check_line.ensures.local ∙ ap₂ with_subcommand serial_is (ap (λ (a : App). a.top) c.check_line.ensures.app) in
    let sim_is : app_of c.in_ok-subcommand-3.field-0 ≡ with_subcommand (with_subcommand (with_subcommand program serial_app.top) check_app.top) sim_app.top =
    c.in_ok-subcommand-3.ensures.shape c.in_ok-sim.ensures.local ∙ ap₂ with_subcommand check_is (ap (λ (a : App). a.top) c.in_ok-sim.ensures.app) in
    IfOk-weaker c.subcommand-4.result _ _
    (λ made adds. adds.shape c.in_ok-run.ensures.local ∙ ap₂ with_subcommand sim_is (ap (λ (a : App). a.top) c.in_ok-run.ensures.app))
    c.subcommand-4.ensures
