-- The world's configuration is the book's.
use Rattle.std.proofs.Common.{◌*◌, ap, ◌∙◌}
use Rattle.calvin_order.specs.Configs.{Config}
use Rattle.calvin_world.proofs.SettledLaws.{config_in_code}
use Rattle.calvin_wide.proofs.cluster.opened_for.Goals as goal

pub returns : goal.returns
returns g c =
    let log = c.args.book.now in
    let same = config_in_code g.A.App.meaning g.met.A.App.lawful.writes_within_the_sets log.config log.events _ c.world.result.now c.world.ensures.run in
    c.new.ensures ∙ (λ i. (c.config-config.ensures.replicas ∙ ap (λ (d : Config). d.replicas) same) i * (c.config-config.ensures.partitions ∙ ap (λ (d : Config). d.partitions) same) i)
