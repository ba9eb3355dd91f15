use Rattle.std.proofs.Common.{cond, None, sym, ap, ◌∙◌}
use Rattle.std.specs.FinMap.{get}
use Rattle.std.proofs.lemmas.Bool.{eq-eqb, ne_eqb}
use Rattle.calvin_types.specs.Keys.{partition_of}
use Rattle.calvin_types.specs.Participants.{site}
use Rattle.calvin_sched.proofs.Gathering.{get-part}
use Rattle.calvin_sched.proofs.reading.ReadingLook.look.Goals as goal

pub returns-then-partition_of-self : goal.returns-then-partition_of-self
returns-then-partition_of-self g c =
    let self = c.args.self.now in
    let rows = (g.S.Rows.store self.rows.now).map in
    let elsewhere = ne_eqb (partition_of self.config.now.partitions c.args.key.now) self.partition (λ e. c.if-partition_of-self.true (c.partition_of.ensures.partition ∙ e)) in
    sym (get-part (site self.config.now.partitions self.partition) rows c.args.key.now ∙ ap (λ b. cond b (get rows c.args.key.now) None) elsewhere)

pub returns : goal.returns
returns g c =
    let self = c.args.self.now in
    let rows = (g.S.Rows.store self.rows.now).map in
    let here = eq-eqb (partition_of self.config.now.partitions c.args.key.now) self.partition (sym c.partition_of.ensures.partition ∙ c.if-partition_of-self.false) in
    c.get.ensures ∙ sym (get-part (site self.config.now.partitions self.partition) rows c.args.key.now ∙ ap (λ b. cond b (get rows c.args.key.now) None) here)
