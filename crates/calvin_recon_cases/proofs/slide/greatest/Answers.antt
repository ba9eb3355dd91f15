use Rattle.std.proofs.Common.{◌≡◌, ◌+◌, ◌≤◌, Some, sym, ap, ◌∙◌, subst, add-one, arith}
use Rattle.std.specs.Prelude.{IfSome}
use Rattle.std.specs.Option.{is_some}
use Rattle.std.specs.FinMap as map
use Rattle.calvin_recon_cases.specs.Slide.{greatest, none_below, found_below, passed_below}
use Rattle.calvin_recon_cases.proofs.slide.greatest.Goals as goal
use Rattle.calvin_recon_cases.proofs.slide.greatest.Goals.{then-is_some, else-is_some}

pub loop-id-init : goal.loop-id-init
loop-id-init c = record { so_far = sym (none_below c.args.view.now); up_to = tt }

pub loop-id-preserved : goal.loop-id-preserved
loop-id-preserved c =
    let seen = c.is_some.ensures ∙ ap is_some (c.get.ensures ∙ ap (map.get c.args.view.now) c.key.ensures) in
    elim c.if-is_some.branch [
      | then-is_some w ↦ record {
        so_far = rw (add-one) (w.found-is ∙ sym (found_below c.loop-id.id c.args.view.now (sym seen ∙ w.if-is_some.true)));
        up_to = subst (λ o. IfSome o (λ id. id ≤ 30)) (sym w.found-is) (omega (arith, c.loop-id-test.true));
      }
      | else-is_some w ↦ record {
        so_far = rw (add-one) (w.found-is ∙ c.loop-id.invariant.so_far ∙ sym (passed_below c.loop-id.id c.args.view.now (sym seen ∙ w.if-is_some.false)));
        up_to = subst (λ o. IfSome o (λ id. id ≤ 30)) (sym w.found-is) c.loop-id.invariant.up_to;
      }
    ]
