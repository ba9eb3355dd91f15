use Rattle.std.proofs.Common.{◌≡◌, sym, subst, ◌∙◌}
use Rattle.calvin_types.specs.Participants.{site}
use Rattle.calvin_sched.specs.Scheduling.{gathered}
use Rattle.calvin_sched.proofs.Gathering.{all_here}
use Rattle.calvin_sched.proofs.turn.Turn.reads_here_alone.Goals as goal

pub returns : goal.returns
returns g c = λ is.
    let x = c.args.self.now.turn in
    all_here (site c.args.config.now.partitions c.args.partition) x x.request.sets.reads (sym c.are_reads_here.ensures ∙ is)
    ∙ subst (λ t. gathered (λ _. t.turn.served) t.turn.request.sets.reads ≡ t.turn.served) c.self.view_is c.self.invariant.0
