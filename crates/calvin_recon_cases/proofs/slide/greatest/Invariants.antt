use Rattle.std.proofs.Common.{◌≡◌, ◌≤◌}
use Rattle.std.specs.Prelude.{IfSome}
use Rattle.calvin_recon_cases.specs.Slide.{greatest}
use Rattle.calvin_recon_cases.proofs.slide.greatest.Given as goal

-- the greatest key so far
abbrev pub invariant-loop-id : goal.invariant-loop-id
invariant-loop-id l = record {
  so_far : l.found ≡ greatest l.id l.view;
  up_to : IfSome l.found (λ id. id ≤ 30);
}
