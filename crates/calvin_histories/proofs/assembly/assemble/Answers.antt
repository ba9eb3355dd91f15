-- The configuration is the one that was handed in.
use Rattle.std.proofs.Common.{◌≡◌, subst}
use Rattle.std.specs.Prelude.{IfOk, IfErr}
use Rattle.calvin_order.specs.Configs.{Config}
use Rattle.calvin_histories.specs.Histories.{IsUnassembled}
use Rattle.calvin_histories.proofs.assembly.assemble.Goals as goal

pub returns-in-Ok-clause-config : goal.returns-in-Ok-clause-config
returns-in-Ok-clause-config g c = subst (λ (config : Config). IfOk c.run.result (λ book. book.config ≡ config)) c.in-Ok.ensures.config.1 c.run.ensures.config

pub returns-in-Ok-clause-err : goal.returns-in-Ok-clause-err
returns-in-Ok-clause-err g c = subst (λ (config : Config). IfErr c.run.result (IsUnassembled g.A.App.meaning config c.args.histories.now)) c.in-Ok.ensures.config.1 c.run.ensures.err
