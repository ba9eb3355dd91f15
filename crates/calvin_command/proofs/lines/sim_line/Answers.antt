use Rattle.std.proofs.Common.{rules, codes}
use Rattle.std.proofs.lemmas.Result.{IfOk-weaker}
use Rattle.clap.specs.Words.{new_app, with_rule}
use Rattle.calvin_command.specs.Line.{start_option, steps_option, replicas_option, restarts_flag, repeat_flag}
use Rattle.calvin_options.proofs.Added.{AddsTo, added}
use Rattle.calvin_command.proofs.lines.sim_line.Goals as goal

none_yet : (c : goal.After-arg-6) → AddsTo (new_app (codes "sim")) c.after_help.result
none_yet c = (search rules, search rules)

start_added : (c : goal.After-arg-6) → AddsTo (with_rule (new_app (codes "sim")) start_option) c.in_ok-arg.field-0
start_added c = added _ _ _ _ _ c.in_ok-arg.ensures c.start_option.ensures.rule c.start_option.ensures.local (none_yet c)

replicas_added : (c : goal.After-arg-6) → AddsTo (with_rule (with_rule (with_rule (new_app (codes "sim")) start_option) steps_option) replicas_option) c.in_ok-arg-3.field-0
replicas_added c =
    let steps = added _ _ _ _ _ c.in_ok-arg-2.ensures c.steps_option.ensures.rule c.steps_option.ensures.local (start_added c) in
    added _ _ _ _ _ c.in_ok-arg-3.ensures c.replicas_option.ensures.rule c.replicas_option.ensures.local steps

flags_added : (c : goal.After-arg-6)
    → AddsTo (with_rule (with_rule (with_rule (with_rule (with_rule (new_app (codes "sim")) start_option) steps_option) replicas_option) restarts_flag) repeat_flag) c.in_ok-arg-5.field-0
flags_added c =
    let restarts = added _ _ _ _ _ c.in_ok-arg-4.ensures c.restarts_flag.ensures.rule c.restarts_flag.ensures.local (replicas_added c) in
    added _ _ _ _ _ c.in_ok-arg-5.ensures c.repeat_flag.ensures.rule c.repeat_flag.ensures.local restarts

pub returns-clause-app : goal.returns-clause-app
returns-clause-app c =
    IfOk-weaker c.arg-6.result _ _ (λ made adds. (added _ _ _ _ _ adds c.lose_option.ensures.rule c.lose_option.ensures.local (flags_added c)).0) c.arg-6.ensures

pub returns-clause-local : goal.returns-clause-local
returns-clause-local c =
    IfOk-weaker c.arg-6.result _ _ (λ made adds. (added _ _ _ _ _ adds c.lose_option.ensures.rule c.lose_option.ensures.local (flags_added c)).1) c.arg-6.ensures
