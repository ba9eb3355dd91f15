use Rattle.std.proofs.Common.{map, take}
use Rattle.calvin_node_acts.specs.declared.act.Act.TheVariants.{Submit}
use Rattle.calvin_world.specs.declared.event.Event.TheVariants.{At}
use Rattle.calvin_sim.specs.Simulations.{sequencer_of}
use Rattle.calvin_run.specs.Growing.{IsGrown}
use Rattle.calvin_run.proofs.submitting.submit_batch.Given as goal

-- the requests so far are submitted
abbrev pub invariant-loop-request : goal.invariant-loop-request
invariant-loop-request g l = IsGrown g.A.App.meaning l.fn.book (map (λ r. At (sequencer_of l.group) (Submit r.txn)) (take l.request-index l.requests)) l.book
