use Rattle.std.specs.List.{flat_map, range_with_len}
use Rattle.calvin_script.specs.Scripts.{all_listed, requests_of}
use Rattle.calvin_sim.specs.Simulations.{submitting}
use Rattle.calvin_run.specs.Growing.{IsGrown}
use Rattle.calvin_run.proofs.submitting.submit_epoch.Given as goal

-- the batches of the groups so far are
abbrev pub invariant-loop-group : goal.invariant-loop-group
invariant-loop-group g l = IsGrown g.A.App.meaning l.fn.book (flat_map (λ h. submitting h (requests_of h (all_listed l.epoch))) (range_with_len 0 l.group)) l.book
