use Rattle.std.proofs.Common.{rules, codes}
use Rattle.std.proofs.lemmas.Result.{IfOk-weaker}
use Rattle.clap.specs.Words.{new_app, with_rule}
use Rattle.calvin_options.proofs.Added.{AddsTo, added}
use Rattle.calvin_serve_command.specs.Line.{journal_option, partitions_option, app_option, scout_flag, compact_flag}
use Rattle.calvin_serve_command.proofs.lines.serve_line.Goals as goal

none_yet : (c : goal.After-arg-6) → AddsTo (new_app (codes "serve")) c.after_help.result
none_yet c = (search rules, search rules)

partitions_added : (c : goal.After-arg-6) → AddsTo (with_rule (with_rule (new_app (codes "serve")) journal_option) partitions_option) c.in_ok-arg-2.field-0
partitions_added c =
    let journal = added _ _ _ _ _ c.in_ok-arg.ensures c.journal_option.ensures.rule c.journal_option.ensures.local (none_yet c) in
    added _ _ _ _ _ c.in_ok-arg-2.ensures c.partitions_option.ensures.rule c.partitions_option.ensures.local journal

scout_added : (c : goal.After-arg-6)
    → AddsTo (with_rule (with_rule (with_rule (with_rule (new_app (codes "serve")) journal_option) partitions_option) app_option) scout_flag) c.in_ok-arg-4.field-0
scout_added c =
    let app = added _ _ _ _ _ c.in_ok-arg-3.ensures c.app_option.ensures.rule c.app_option.ensures.local (partitions_added c) in
    added _ _ _ _ _ c.in_ok-arg-4.ensures c.scout_flag.ensures.rule c.scout_flag.ensures.local app

compact_added : (c : goal.After-arg-6)
    → AddsTo (with_rule (with_rule (with_rule (with_rule (with_rule (new_app (codes "serve")) journal_option) partitions_option) app_option) scout_flag) compact_flag) c.in_ok-arg-5.field-0
compact_added c = added _ _ _ _ _ c.in_ok-arg-5.ensures c.compact_flag.ensures.rule c.compact_flag.ensures.local (scout_added c)

pub returns-clause-app : goal.returns-clause-app
returns-clause-app c = IfOk-weaker c.arg-6.result _ _ (λ made adds. (added _ _ _ _ _ adds c.replay_flag.ensures.rule c.replay_flag.ensures.local (compact_added c)).0) c.arg-6.ensures

pub returns-clause-local : goal.returns-clause-local
returns-clause-local c = IfOk-weaker c.arg-6.result _ _ (λ made adds. (added _ _ _ _ _ adds c.replay_flag.ensures.rule c.replay_flag.ensures.local (compact_added c)).1) c.arg-6.ensures
