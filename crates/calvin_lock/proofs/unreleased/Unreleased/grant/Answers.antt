use Rattle.std.proofs.Common.{◌≡◌, ◌↔◌, true, is_some, Some, refl, subst, sym, ap, ◌∙◌, arith}
use Rattle.std.proofs.lemmas.Map.Steps.{set_value_same}
use Rattle.std.specs.Map.{lookup}
use Rattle.calvin_lock.specs.Queues.{equal_places}
use Rattle.calvin_lock.specs.Marks.{is_marked}
use Rattle.calvin_lock.specs.Unreleased.{Among, IsNumberOf, IsReadyAt, with_fewer}
use Rattle.calvin_lock.proofs.ReadyPlaces.{entry_now, listed_now, marked_at, marked_now, ready_at, ready_waits_none}
use Rattle.calvin_lock.proofs.unreleased.Unreleased.grant.Goals as goal

pub returns-in-Some-number_of-clause-kept : goal.returns-in-Some-number_of-clause-kept
returns-in-Some-number_of-clause-kept c =
    let es = c.args.self.now.places.entries in
    let xs = c.args.self.now.order.items in
    let p = c.in-Some.pending.now in
    let fewer = with_fewer p in
    let writes = c.get_mut.follows.holds fewer in
    let now = (c.get_mut.follows.lender fewer).entries in
    let found = sym c.in-Some.ensures.value in
    let updated = (writes.3 (ap is_some found)).0 in
    let number = subst (λ l. IsNumberOf l c.args.place c.in-Some-number_of.number) c.as_slice.ensures.value c.in-Some-number_of.ensures in
    record {
      rises = c.requires.rises;
      listed = listed_now es now c.args.place (Some fewer) updated xs (λ r same. c.requires.listed c.args.place p found) c.requires.listed;
      kept = c.mark.ensures.kept;
      fits = omega (arith, c.mark.ensures.leaves, c.requires.fits);
      marked = marked_at es now c.args.place (Some fewer) updated xs c.in-Some-number_of.number number (is_marked c.args.self.now.marks) (is_marked c.mark.new.self) c.requires.marked c.mark.ensures.others
          (λ marked. (fewer, entry_now es now c.args.place (Some fewer) updated, c.if-pending-eq0.true), λ ready. c.mark.ensures.marked);
    }

pub returns-in_default-number_of-clause-kept : goal.returns-in_default-number_of-clause-kept
returns-in_default-number_of-clause-kept c = absurd (c.in_default-number_of.ensures (subst (λ l. Among l c.args.place) (sym c.as_slice.ensures.value) (c.requires.listed c.args.place c.in-Some.pending.now (sym c.in-Some.ensures.value))))

pub returns-else-pending-eq0-clause-kept : goal.returns-else-pending-eq0-clause-kept
returns-else-pending-eq0-clause-kept c =
    let es = c.args.self.now.places.entries in
    let xs = c.args.self.now.order.items in
    let p = c.in-Some.pending.now in
    let fewer = with_fewer p in
    let writes = c.get_mut.follows.holds fewer in
    let now = (c.get_mut.follows.lender fewer).entries in
    let found = sym c.in-Some.ensures.value in
    let updated = (writes.3 (ap is_some found)).0 in
    let waited : ¬ (p.waits ≡ 0) = λ zero. let some = c.if-pending-gt0.true in omega (arith, zero, some) in
    record {
      rises = c.requires.rises;
      listed = listed_now es now c.args.place (Some fewer) updated xs (λ r same. c.requires.listed c.args.place p found) c.requires.listed;
      kept = c.requires.kept;
      fits = c.requires.fits;
      marked = marked_now es now c.args.place (Some fewer) updated xs (is_marked c.args.self.now.marks) (is_marked c.args.self.now.marks) c.requires.marked (λ k apart. refl)
          (λ k there. (
            λ marked. absurd (waited (ready_waits_none es c.args.place p found ((ready_at xs es k c.args.place there).0 ((c.requires.marked k).0 marked)))),
            λ ready. absurd (c.if-pending-eq0.false (ready_waits_none now c.args.place fewer (entry_now es now c.args.place (Some fewer) updated) ready)),
          ));
    }

pub returns-else-pending-gt0-clause-kept : goal.returns-else-pending-gt0-clause-kept
returns-else-pending-gt0-clause-kept c =
    let es = c.args.self.now.places.entries in
    let p = c.in-Some.pending.now in
    let now = c.get_mut.follows.lender p in
    let same = (c.get_mut.follows.holds p).0 ∙ set_value_same (equal_places c.args.place) es p (sym c.in-Some.ensures.value) in
    record {
      rises = c.requires.rises;
      listed = λ q r found. c.requires.listed q r (sym (ap (lookup (equal_places q)) same) ∙ found);
      kept = c.requires.kept;
      fits = c.requires.fits;
      marked = λ k. subst (λ l. (is_marked c.args.self.now.marks k ≡ true) ↔ IsReadyAt c.args.self.now.order.items l k) (sym same) (c.requires.marked k);
    }
