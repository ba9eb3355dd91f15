use Rattle.calvin_bench.proofs.WorkedRun.{stood}
use Rattle.calvin_bench.proofs.a_partition_can_stand.Goals as goal

pub returns : goal.returns
returns g c = λ args. stood _ args
