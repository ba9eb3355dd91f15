use Rattle.calvin_bench.proofs.OneOrder.{runs_serially}
use Rattle.calvin_bench.proofs.one_replica_is_serial.Goals as goal

-- src/lib.rt:46:1
pub returns : goal.returns
returns g c = λ count order rising steps outcomes new ran. runs_serially _ count g.met.A.App.lawful.writes_within_the_sets order rising steps outcomes new ran
