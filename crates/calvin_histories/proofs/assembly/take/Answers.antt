-- It is the next event, or it doesn't fit.
use Rattle.std.proofs.Common.{◌≡◌, Bool, true, false, Result, Ok, sym, subst, refl}
use Rattle.calvin_types.specs.declared.fault.Fault.{Fault}
use Rattle.calvin_histories.specs.Assembling.{IsIndexed}
use Rattle.calvin_histories.proofs.Assembling.{indexed_after, fits_not}
use Rattle.calvin_histories.proofs.assembly.take.Goals as goal

not_true : ◌≡◌ {A = Result Bool Fault} (Ok false) (Ok true) → ⊥
not_true e = cc

pub returns-in-Ok-note_all-clause-listed : goal.returns-in-Ok-note_all-clause-listed
returns-in-Ok-note_all-clause-listed g c =
    indexed_after g.A.App.meaning c.args.book.now c.apply.new.self c.in-Some.event c.args.senders.now c.requires.listed c.in-Ok.ensures.ok c.world-in-Ok.result.now c.world-in-Ok.ensures.after c.packets.result.now.packets c.packets.ensures c.note_all.new.self c.in-Ok-note_all.ensures.listed

pub returns-in_default-fault : goal.returns-in_default-fault
returns-in_default-fault g c = record {
  listed = subst (λ log. IsIndexed g.A.App.meaning log c.args.senders.now) (sym c.in-Err.ensures.err) c.requires.listed;
  only = tt;
  took = λ e. absurd (not_true e);
  left = λ _. (
    c.in-Err.ensures.err,
    fits_not g.A.App.meaning c.args.book.now c.world.result.now c.world.ensures.after c.args.id c.args.entry.now c.in-Some.event c.in-Some.ensures.1 c.in-Err.fault (c.in-Err.ensures.only c.in-Err.fault refl) c.in_default-fault.not-OutOfMemory,
  );
}
