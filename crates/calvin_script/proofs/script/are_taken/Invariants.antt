use Rattle.std.proofs.Common.{◌≡◌, drop}
use Rattle.calvin_script.specs.Scripts.{are_taken}
use Rattle.calvin_script.proofs.script.are_taken.Given as goal

abbrev pub invariant-loop-request : goal.invariant-loop-request
invariant-loop-request g l = are_taken (drop l.request-index l.requests) ≡ are_taken l.requests
