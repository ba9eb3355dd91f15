use Rattle.std.proofs.Common.{◌+◌, ◌++◌, ◌∷◌, [], length, length-append, take, get_or, sym, ap, ◌∙◌, arith}
use Rattle.std.proofs.lemmas.List.{take_all, append_assoc}
use Rattle.std.proofs.lemmas.Option.{slice_get-get_or, same_Some}
use Rattle.std.specs.VecDeque.{deque_len, deque_capacity}
use Rattle.calvin_types.specs.Participants.{site, has_local_key}
use Rattle.calvin_sched.specs.Standing.{local_places}
use Rattle.calvin_sched.proofs.DueLists.{places_kept, places_passed, fewer_places}
use Rattle.calvin_sched.proofs.progress.Progress.merge.Goals as goal
use Rattle.calvin_sched.proofs.progress.Progress.merge.Goals.{then-is_participant, else-is_participant}

pub push_back_reserved-requires : goal.push_back_reserved-requires
push_back_reserved-requires g c =
    let here = site c.args.config.now.partitions c.args.partition in
    let e = get_or c.args.entries.now c.loop-i.i c.index-entries-i.result in
    let at = slice_get-get_or c.args.entries.now c.loop-i.i c.index-entries-i.result (omega (arith, c.loop-i-test.true)) in
    let more = ap length (places_kept here c.args.entries.now c.loop-i.i e at (sym c.is_participant.ensures ∙ c.if-is_participant.true)) in
    omega (arith, more, length-append (local_places here (take c.loop-i.i c.args.entries.now)) (e.0 ∷ []), fewer_places here c.args.entries.now (c.loop-i.i + 1), c.loop-i.invariant.len, c.loop-i.invariant.capacity, c.requires.reserved, c.requires.room)

pub loop-i-preserved : goal.loop-i-preserved
loop-i-preserved g c =
    let here = site c.args.config.now.partitions c.args.partition in
    let e = get_or c.args.entries.now c.loop-i.i c.index-entries-i.result in
    let at = slice_get-get_or c.args.entries.now c.loop-i.i c.index-entries-i.result (omega (arith, c.loop-i-test.true)) in
    let all = c.args.entries.now in
    let inv = c.loop-i.invariant in
    elim c.if-is_participant.branch [
      | then-is_participant w ↦
          let pushed = get_or all c.loop-i.i w.index-entries-i-then-is_participant.result in
          let there = slice_get-get_or all c.loop-i.i w.index-entries-i-then-is_participant.result (omega (arith, c.loop-i-test.true)) in
          let local = ap (λ x. has_local_key here x.1) (sym (same_Some e pushed (sym at ∙ there))) ∙ sym c.is_participant.ensures ∙ w.if-is_participant.true in
          let kept = places_kept here all c.loop-i.i pushed there local in
          record {
            merged = ap (λ p. p.merged) w.self-is ∙ inv.merged;
            done = ap (λ p. p.done) w.self-is ∙ inv.done;
            due = ap (λ p. p.due.items) w.self-is ∙ w.push_back_reserved.ensures.items ∙ ap (λ l. l ++ pushed.0 ∷ []) inv.due
                ∙ append_assoc c.args.self.now.due.items (local_places here (take c.loop-i.i all)) (pushed.0 ∷ []) ∙ ap (λ l. c.args.self.now.due.items ++ l) (sym kept);
            len = omega (arith, ap (λ p. deque_len p.due) w.self-is, w.push_back_reserved.ensures.len, inv.len, ap length kept, length-append (local_places here (take c.loop-i.i all)) (pushed.0 ∷ []));
            capacity = ap (λ p. deque_capacity p.due) w.self-is ∙ w.push_back_reserved.ensures.capacity ∙ inv.capacity;
            room = ap (λ p. p.room) w.self-is ∙ inv.room;
          }
      | else-is_participant w ↦
          let same = places_passed here all c.loop-i.i e at (sym c.is_participant.ensures ∙ w.if-is_participant.false) in
          record {
            merged = ap (λ p. p.merged) w.self-is ∙ inv.merged;
            done = ap (λ p. p.done) w.self-is ∙ inv.done;
            due = ap (λ p. p.due.items) w.self-is ∙ inv.due ∙ ap (λ l. c.args.self.now.due.items ++ l) (sym same);
            len = omega (arith, ap (λ p. deque_len p.due) w.self-is, inv.len, ap length same);
            capacity = ap (λ p. deque_capacity p.due) w.self-is ∙ inv.capacity;
            room = ap (λ p. p.room) w.self-is ∙ inv.room;
          }
    ]

pub returns-clause-due : goal.returns-clause-due
returns-clause-due g c =
    c.loop-i.invariant.due ∙ ap (λ es. c.args.self.now.due.items ++ local_places (site c.args.config.now.partitions c.args.partition) es) (take_all c.loop-i.i c.args.entries.now (omega (arith, c.loop-i-test.false)))

pub returns-clause-reserved : goal.returns-clause-reserved
returns-clause-reserved g c = omega (arith, c.loop-i.invariant.len, c.loop-i.invariant.capacity, c.loop-i.invariant.room, fewer_places (site c.args.config.now.partitions c.args.partition) c.args.entries.now c.loop-i.i, c.requires.reserved, c.requires.room)
