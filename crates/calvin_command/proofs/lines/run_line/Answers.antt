use Rattle.std.proofs.Common.{rules, codes}
use Rattle.std.proofs.lemmas.Result.{IfOk-weaker}
use Rattle.clap.specs.Words.{new_app, with_rule}
use Rattle.calvin_command.specs.Line.{replicas_option, workers_option}
use Rattle.calvin_options.proofs.Added.{AddsTo, added}
use Rattle.calvin_command.proofs.lines.run_line.Goals as goal

none_yet : (c : goal.After-arg-3) → AddsTo (new_app (codes "run")) c.after_help.result
none_yet c = (search rules, search rules)

options_added : (c : goal.After-arg-3) → AddsTo (with_rule (with_rule (new_app (codes "run")) replicas_option) workers_option) c.in_ok-arg-2.field-0
options_added c =
    let replicas = added _ _ _ _ _ c.in_ok-arg.ensures c.replicas_option.ensures.rule c.replicas_option.ensures.local (none_yet c) in
    added _ _ _ _ _ c.in_ok-arg-2.ensures c.workers_option.ensures.rule c.workers_option.ensures.local replicas

pub returns-clause-app : goal.returns-clause-app
returns-clause-app c =
    IfOk-weaker c.arg-3.result _ _ (λ made adds. (added _ _ _ _ _ adds c.wide_flag.ensures.rule c.wide_flag.ensures.local (options_added c)).0) c.arg-3.ensures

pub returns-clause-local : goal.returns-clause-local
returns-clause-local c =
    IfOk-weaker c.arg-3.result _ _ (λ made adds. (added _ _ _ _ _ adds c.wide_flag.ensures.rule c.wide_flag.ensures.local (options_added c)).1) c.arg-3.ensures
