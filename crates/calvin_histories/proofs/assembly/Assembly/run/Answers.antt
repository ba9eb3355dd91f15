-- Some entries more are taken; at the end none fits.
use Rattle.std.proofs.Common.{◌≡◌, Ok, ap, subst, ◌∙◌}
use Rattle.std.specs.Prelude.{IfOk, IfErr}
use Rattle.calvin_order.specs.Configs.{Config}
use Rattle.calvin_histories.specs.Histories.{IsUnassembled}
use Rattle.calvin_histories.proofs.assembly.Assembly.run.Goals as goal

pub end-requires-clause-stuck : goal.end-requires-clause-stuck
end-requires-clause-stuck g c = c.in-Ok-false.ensures.stuck (ap Ok c.in-Ok-false.field-0-test)

pub returns-in-Ok-false-clause-config : goal.returns-in-Ok-false-clause-config
returns-in-Ok-false-clause-config g c = subst (λ (config : Config). IfOk c.end.result (λ book. book.config ≡ config)) (c.in-Ok-false.ensures.config.1 ∙ c.loop.invariant.config.1) c.end.ensures.config

pub returns-in-Ok-false-clause-err : goal.returns-in-Ok-false-clause-err
returns-in-Ok-false-clause-err g c = subst (λ (config : Config). IfErr c.end.result (IsUnassembled g.A.App.meaning config c.args.histories.now)) (c.in-Ok-false.ensures.config.1 ∙ c.loop.invariant.config.1) c.end.ensures.err
