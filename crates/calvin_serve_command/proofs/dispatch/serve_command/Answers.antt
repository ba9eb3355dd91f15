use Rattle.std.proofs.Common.{◌∙◌, sym, refl, subst, map, Ok, Err}
use Rattle.calvin_types.specs.declared.fault.Fault.TheVariants.{OutOfMemory}
use Rattle.calvin_ending.proofs.NeverWell.{never_well}
use Rattle.calvin_serve_command.specs.declared.wishes.Wish.{Wish}
use Rattle.calvin_serve_command.specs.declared.wishes.Refusal.{Refusal}
use Rattle.calvin_serve_command.specs.Wishes.{IsFor, IsServe}
use Rattle.calvin_serve_command.proofs.Left.{leaves_still}
use Rattle.calvin_serve_command.proofs.dispatch.serve_command.Goals as goal

pub returns-in-Ok-clause-serve : goal.returns-in-Ok-clause-serve
returns-in-Ok-clause-serve g c taken asked is =
    (c.in-Ok-Serve.order, (subst (λ (w : Wish). IsFor (map g.W.AsStr.text c.args.words.now) (Ok w)) c.in-Ok-Serve.field-0-is c.in-Ok-Serve.ensures.only).1, record { done = λ well. c.in-Ok.ensures.ok; leaves = c.in-Ok.ensures.leaves; silent = λ well. (refl, refl); no_failure = λ well. c.in-Ok.ensures.no_failure; told = λ not. absurd (not refl) })

pub returns-in-Err-clause-serve : goal.returns-in-Err-clause-serve
returns-in-Err-clause-serve g c taken asked is = (
  c.in-Ok-Serve.order,
  (subst (λ (w : Wish). IsFor (map g.W.AsStr.text c.args.words.now) (Ok w)) c.in-Ok-Serve.field-0-is c.in-Ok-Serve.ensures.only).1,
  record {
    done = λ well. absurd (never_well c.in-Err.fault (sym c.end_with.ensures.status ∙ well));
    leaves = c.in-Err.ensures.leaves;
    silent = λ well. absurd (never_well c.in-Err.fault (sym c.end_with.ensures.status ∙ well));
    no_failure = λ well. absurd (never_well c.in-Err.fault (sym c.end_with.ensures.status ∙ well));
    told = λ not. (c.in-Err.fault, c.end_with.ensures.status, c.end_with.ensures.told, c.in-Err.ensures.blame);
  },
)

pub returns-in-Ok-Help-clause-serve : goal.returns-in-Ok-Help-clause-serve
returns-in-Ok-Help-clause-serve g c taken asked is = absurd (subst (λ (w : Wish). IsServe (Ok w)) c.in-Ok-Help.field-0-is (c.in-Ok-Help.ensures.serve taken asked is))

pub returns-in-Err-BadLine-clause-serve : goal.returns-in-Err-BadLine-clause-serve
returns-in-Err-BadLine-clause-serve g c taken asked is = absurd (subst (λ (r : Refusal). IsServe (Err r)) c.in-Err-BadLine.field-0-is (c.in-Err-BadLine.ensures.serve taken asked is))

pub returns-in-Err-OutOfMemory-clause-serve : goal.returns-in-Err-OutOfMemory-clause-serve
returns-in-Err-OutOfMemory-clause-serve g c taken asked is = (
  asked,
  is,
  record {
    done = λ well. absurd (never_well OutOfMemory (sym c.end_with-in-Err-OutOfMemory.ensures.status ∙ well));
    leaves = leaves_still asked _ _ refl;
    silent = λ well. absurd (never_well OutOfMemory (sym c.end_with-in-Err-OutOfMemory.ensures.status ∙ well));
    no_failure = λ well. absurd (never_well OutOfMemory (sym c.end_with-in-Err-OutOfMemory.ensures.status ∙ well));
    told = λ not. (OutOfMemory, c.end_with-in-Err-OutOfMemory.ensures.status, c.end_with-in-Err-OutOfMemory.ensures.told, (refl, refl));
  },
)
