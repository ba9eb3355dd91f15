use Rattle.std.proofs.Common.{None, sym, ap, subst, ◌∙◌, ◌≤◌, ◌^◌}
use Rattle.calvin_types.specs.Participants.{site}
use Rattle.calvin_order.specs.Merged.{end_of}
use Rattle.calvin_sched.proofs.Keepers.{keeps_opened, no_turns}
use Rattle.calvin_sched.specs.Keeping.{turns_of, scheduling_of}
use Rattle.calvin_sched.specs.Progress.{left}
use Rattle.calvin_sched.proofs.Progresses.{at_first}
use Rattle.calvin_sched.proofs.scheduler.Scheduler.open.Goals as goal

pub invariant_of-result : goal.invariant_of-result
invariant_of-result g c = (
  keeps_opened (site c.args.config.now.partitions c.args.partition) c.args.epochs (g.S.Rows.store c.args.rows) c.new.result.kept (g.L.Locks.kept c.empty.result) (ap (λ t. t.kept) c.new.ensures) c.empty.ensures,
  at_first c.args.epochs (turns_of c.new.result.kept) (ap (λ t. turns_of t.kept) c.new.ensures ∙ no_turns) c.from_epochs.result.merged c.from_epochs.result.done (subst (λ n. n ≤ 2 ^ 64) (sym c.from_epochs.ensures.merged) c.requires) c.from_epochs.ensures.done c.from_epochs.result.due.items c.from_epochs.ensures.due,
  c.from_epochs.ensures.reserved,
)

pub returns : goal.returns
returns g c =
    let turns = ap (λ t. turns_of t.kept) c.new.ensures ∙ no_turns in
    λ i. record {
      here = site c.args.config.now.partitions c.args.partition;
      scheduling = record { opened_from = end_of c.args.epochs; last = None; turns = turns i; store = g.S.Rows.store c.args.rows };
      room = g.S.Rows.room c.args.rows;
      merged = c.from_epochs.ensures.merged i;
      due = ap (left (scheduling_of c.args.epochs None c.new.result.kept (g.S.Rows.store c.args.rows))) c.from_epochs.ensures.due i;
      due_room = c.from_epochs.ensures.room i;
    }
