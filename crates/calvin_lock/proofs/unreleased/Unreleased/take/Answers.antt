use Rattle.std.proofs.Common.{◌≡◌, Some, None, subst, sym, ◌∙◌, arith}
use Rattle.std.proofs.lemmas.Option.{none-some, same_Some}
use Rattle.calvin_lock.specs.Marks.{is_marked}
use Rattle.calvin_lock.specs.Unreleased.{IsNumberOf}
use Rattle.calvin_lock.proofs.ReadyPlaces.{entry_now, listed_now, marked_at, neither}
use Rattle.calvin_lock.proofs.TakenPlaces.{gone_at}
use Rattle.calvin_lock.proofs.unreleased.Unreleased.take.Goals as goal

pub returns-clause-kept : goal.returns-clause-kept
returns-clause-kept c =
    let es = c.args.self.now.places.entries in
    let xs = c.args.self.now.order.items in
    let now = c.swap_remove_index.new.self.entries in
    let updated = gone_at c.args.self.now.places c.args.place c.in_ok-at.field-0-1.now c.in_ok-at.pending.now c.in_ok-at.at c.in_ok-at.ensures.key c.in_ok-at.ensures.entry c.swap_remove_index.result c.swap_remove_index.ensures.entry c.swap_remove_index.new.self c.swap_remove_index.ensures.updates in
    let number = subst (λ l. IsNumberOf l c.args.place c.in_ok-number.number) c.as_slice.ensures.value c.in_ok-number.ensures in
    record {
      rises = c.requires.rises;
      listed = listed_now es now c.args.place None updated xs (λ p is. absurd (none-some p is)) c.requires.listed;
      kept = c.unmark.ensures.kept;
      fits = omega (arith, c.unmark.ensures.leaves, c.requires.fits);
      marked = marked_at es now c.args.place None updated xs c.in_ok-number.number number (is_marked c.args.self.now.marks) (is_marked c.unmark.new.self) c.requires.marked c.unmark.ensures.others
          (neither c.unmark.ensures.unmarked (λ ready. none-some ready.0 (sym (entry_now es now c.args.place None updated) ∙ ready.1)));
    }

pub returns-clause-taken : goal.returns-clause-taken
returns-clause-taken c =
    let p = c.in_ok-at.pending.now in
    let zero : p.waits ≡ 0 = let few = c.if-pending-gt0.false in omega (arith, few) in
    let same = same_Some (c.in_ok-at.field-0-1.now, p) (c.in_ok-taken.field-0-0, c.in_ok-taken.taken) (sym (c.in_ok-taken.ensures.entry ∙ c.in_ok-at.ensures.entry)) in (
      (p.near, sym c.in_ok-at.ensures.value ∙ (λ i. Some (record { sets = (same i).1.sets; waits = zero i; near = p.near }))),
      gone_at c.args.self.now.places c.args.place c.in_ok-at.field-0-1.now p c.in_ok-at.at c.in_ok-at.ensures.key c.in_ok-at.ensures.entry c.swap_remove_index.result c.swap_remove_index.ensures.entry c.swap_remove_index.new.self c.swap_remove_index.ensures.updates,
    )
