-- The theorem of the world, at the application's law.
use Rattle.calvin_bench.proofs.ManyReplicas.{reached_holds}
use Rattle.calvin_bench.proofs.every_replica_is_serial.Goals as goal

pub returns : goal.returns
returns g c = λ count start opening opens events new reaches. reached_holds _ count start g.met.A.App.lawful.writes_within_the_sets opening opens events new reaches
