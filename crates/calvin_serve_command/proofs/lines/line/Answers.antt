use Rattle.std.proofs.Common.{◌≡◌, ◌∙◌, ap, ap₂, true, rules, codes}
use Rattle.std.proofs.lemmas.Result.{IfOk-weaker}
use Rattle.clap.specs.Words.{App, app_of, new_app, with_subcommand}
use Rattle.calvin_serve_command.proofs.lines.line.Goals as goal

abbrev program : App
program = let plain = new_app (codes "calvin") in record plain { top = record plain.top { subcommand_required = true } }

pub returns : goal.returns
returns c =
    let program_is : app_of c.subcommand_required.result ≡ program = search rules in
    IfOk-weaker c.subcommand.result _ _
    (λ made adds. adds.shape c.in_ok-serve.ensures.local ∙ ap₂ with_subcommand program_is (ap (λ (a : App). a.top) c.in_ok-serve.ensures.app))
    c.subcommand.ensures
