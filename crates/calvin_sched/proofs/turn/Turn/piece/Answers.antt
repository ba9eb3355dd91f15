use Rattle.std.proofs.Common.{cond, sym, ap, ◌∙◌}
use Rattle.std.specs.FinMap as map
use Rattle.std.proofs.lemmas.Bool.{ne_eqb}
use Rattle.calvin_types.specs.Keys.{partition_of}
use Rattle.calvin_sched.specs.Arrivals.{rows_from}
use Rattle.calvin_sched.proofs.turn.Turn.piece.Goals as goal

pub returns : goal.returns
returns g c =
    let elsewhere = ne_eqb (partition_of c.args.config.now.partitions c.args.key.now) c.args.partition (λ e. c.if-from-partition.false (c.partition_of-from.ensures.partition ∙ e)) in
    c.row.ensures ∙ ap (λ t. map.get (rows_from t.turn.came c.partition_of-from.result) c.args.key.now) c.self.view_is
    ∙ ap (λ p. map.get (rows_from c.args.self.now.turn.came p) c.args.key.now) c.partition_of-from.ensures.partition
    ∙ sym (ap (λ b. map.get (cond b c.args.self.now.turn.served (rows_from c.args.self.now.turn.came (partition_of c.args.config.now.partitions c.args.key.now))) c.args.key.now) elsewhere)
