use Rattle.std.proofs.Common.{rules, Ok, cond, ◌-◌, false, refl, sym, ap, subst, ◌∙◌}
use Rattle.std.proofs.lemmas.Option.{same_Some}
use Rattle.calvin_types.specs.Participants.{site}
use Rattle.calvin_sched.specs.Keeping.{scheduling_of}
use Rattle.calvin_sched.specs.Scheduling.{turn_at, awaits, with_turn}
use Rattle.calvin_sched.specs.Steps.{on_reads, on_reads_at, with_rows}
use Rattle.calvin_types.specs.declared.fault.Fault.TheVariants as fault
use Rattle.calvin_types.specs.Deeds.{Does, Refuses, Did}
use Rattle.calvin_sched.proofs.Keepers.{kept_turn}
use Rattle.calvin_sched.proofs.Progresses.{progress_stepped, left_stepped}
use Rattle.calvin_sched.proofs.Steps.{after_is, awaited_turn, keeps_fed, has_room}
use Rattle.calvin_sched.proofs.scheduler.Scheduler.on_reads.Goals as goal

pub receive-requires : goal.receive-requires
receive-requires g c = (
  search rules,
  λ k found.
      let here = site c.self.inside.config.partitions c.self.inside.partition in
      let told = awaited_turn c.seek_came.new.self.here (turn_at c.seek_came.new.self.scheduling c.args.place) c.args.from (sym c.awaits.ensures ∙ c.if-not-awaits.false) in
      let kept = kept_turn c.self.inside.turns.kept c.args.place told.0 (ap (λ v. turn_at v.scheduling c.args.place) c.self.view_is ∙ told.1) in
      let same = same_Some k kept.0 (sym found ∙ kept.1) in
      let is = ap (λ i. awaits here i.turn c.args.from) same ∙ ap (λ y. awaits here y c.args.from) kept.2 ∙ ap (λ v. awaits v.here told.0 c.args.from) c.self.view_is ∙ told.2 in
      has_room here c.self.inside.opened c.self.inside.last c.self.inside.turns.kept (g.S.Rows.store c.self.inside.rows) (g.L.Locks.kept c.self.inside.locks) c.self.invariant.0 c.args.place k found c.args.from c.args.rows.now is c.self.inside.config.in_range.some_partition,
)

pub invariant_of-self : goal.invariant_of-self
invariant_of-self g c =
    let here = site c.self.inside.config.partitions c.self.inside.partition in
    let told = awaited_turn c.seek_came.new.self.here (turn_at c.seek_came.new.self.scheduling c.args.place) c.args.from (sym c.awaits.ensures ∙ c.if-not-awaits.false) in
    let kept = kept_turn c.self.inside.turns.kept c.args.place told.0 (ap (λ v. turn_at v.scheduling c.args.place) c.self.view_is ∙ told.1) in
    let is = ap (λ y. awaits here y c.args.from) kept.2 ∙ ap (λ v. awaits v.here told.0 c.args.from) c.self.view_is ∙ told.2 in (
      keeps_fed here c.self.inside.opened c.self.inside.last c.self.inside.turns.kept (g.S.Rows.store c.self.inside.rows) (g.L.Locks.kept c.self.inside.locks) c.self.invariant.0 c.args.place kept.0 kept.1 c.args.from c.args.rows.now is c.self.inside.config.in_range.some_partition
          c.receive.new.self.kept (ap (λ t. t.kept) (c.receive.ensures kept.0 kept.1)),
      progress_stepped c.self.inside.opened c.self.inside.last c.self.inside.turns.kept c.self.inside.progress.merged c.self.inside.progress.done c.self.inside.progress.due.items c.self.invariant.1 c.args.place
          (record { turn = with_rows c.args.from c.args.rows.now kept.0.turn; room = kept.0.room - 1 }) c.receive.new.self.kept (ap (λ t. t.kept) (c.receive.ensures kept.0 kept.1)) kept.0 kept.1 refl,
      c.self.invariant.2,
    )

pub returns-clause-did : goal.returns-clause-did
returns-clause-did g c =
    let here = site c.self.inside.config.partitions c.self.inside.partition in
    let s = scheduling_of c.self.inside.opened c.self.inside.last c.self.inside.turns.kept (g.S.Rows.store c.self.inside.rows) in
    let told = awaited_turn c.seek_came.new.self.here (turn_at c.seek_came.new.self.scheduling c.args.place) c.args.from (sym c.awaits.ensures ∙ c.if-not-awaits.false) in
    let kept = kept_turn c.self.inside.turns.kept c.args.place told.0 (ap (λ v. turn_at v.scheduling c.args.place) c.self.view_is ∙ told.1) in
    let x = told.0 in
    let after = after_is here c.self.inside.opened c.self.inside.last c.self.inside.turns.kept (g.S.Rows.store c.self.inside.rows) (g.L.Locks.kept c.self.inside.locks) c.self.invariant.0 c.args.place kept.0 kept.1
    (record { turn = with_rows c.args.from c.args.rows.now kept.0.turn; room = kept.0.room - 1 }) c.receive.new.self.kept (ap (λ t. t.kept) (c.receive.ensures kept.0 kept.1)) in
    let new = after ∙ ap (λ y. with_turn s c.args.place (with_rows c.args.from c.args.rows.now y)) kept.2 ∙ ap (λ v. with_turn v.scheduling c.args.place (with_rows c.args.from c.args.rows.now x)) c.self.view_is in
    let sought = c.seek_came.new.self in
    let does = ap (on_reads_at sought.here c.args.place c.args.from c.args.rows.now sought.scheduling) told.1
    ∙ ap (λ b. cond b (Does (with_turn sought.scheduling c.args.place (with_rows c.args.from c.args.rows.now x)) tt) (Refuses fault.NotAwaited)) told.2 in
    subst (λ v. Did false (Ok tt) (on_reads v.here c.args.place c.args.from c.args.rows.now v.scheduling) v.scheduling (scheduling_of c.self.inside.opened c.self.inside.last c.receive.new.self.kept (g.S.Rows.store c.self.inside.rows))) c.seek_came.ensures
    (subst (λ d. Did false (Ok tt) d sought.scheduling (scheduling_of c.self.inside.opened c.self.inside.last c.receive.new.self.kept (g.S.Rows.store c.self.inside.rows))) (sym does) (refl, new))

pub returns-clause-rest : goal.returns-clause-rest
returns-clause-rest g c =
    let is = c.self.view_is ∙ c.seek_came.ensures in
    let told = awaited_turn c.seek_came.new.self.here (turn_at c.seek_came.new.self.scheduling c.args.place) c.args.from (sym c.awaits.ensures ∙ c.if-not-awaits.false) in
    let kept = kept_turn c.self.inside.turns.kept c.args.place told.0 (ap (λ v. turn_at v.scheduling c.args.place) c.self.view_is ∙ told.1) in
    let due = left_stepped c.self.inside.opened c.self.inside.last c.self.inside.turns.kept c.self.inside.progress.merged c.self.inside.progress.done c.self.inside.progress.due.items c.self.invariant.1 c.args.place
    (record { turn = with_rows c.args.from c.args.rows.now kept.0.turn; room = kept.0.room - 1 }) c.receive.new.self.kept (ap (λ t. t.kept) (c.receive.ensures kept.0 kept.1)) kept.0 kept.1 refl (g.S.Rows.store c.self.inside.rows)
    ∙ ap (λ v. v.due) is in
    λ i. record {
      here = (is i).here;
      scheduling = scheduling_of c.self.inside.opened c.self.inside.last c.receive.new.self.kept (g.S.Rows.store c.self.inside.rows);
      room = (is i).room;
      merged = (is i).merged;
      due = due i;
      due_room = (is i).due_room;
    }
