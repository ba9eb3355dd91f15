-- Where it stands is within the nodes.
use Rattle.std.proofs.Common.{◌≡◌, ℕ, ◌+◌, ◌*◌, ◌<◌, cond, length, slice_get, map, None, refl, sym, subst, ◌∙◌}
use Rattle.std.proofs.lemmas.List.{length-map}
use Rattle.calvin_node_acts.specs.Running.{Running}
use Rattle.calvin_world.specs.Worlds.{index_of, node_at}
use Rattle.calvin_world.proofs.InCode.{index_within, there_is}
use Rattle.calvin_world.proofs.world.World.index.Goals as goal

pub returns-then-id-self-2 : goal.returns-then-id-self-2
returns-then-id-self-2 g c =
    let p = c.self.inside in
    let id = c.args.id in
    let n = id.replica * p.config.partitions + id.partition in
    let nodes = map (λ (x : Running g.row.A-Args.Denot g.row.A-Row.Denot). x.state) p.nodes.items in
    let within = subst (λ (l : ℕ). n < l) (sym (length-map p.nodes.items (λ (x : Running g.row.A-Args.Denot g.row.A-Row.Denot). x.state) ∙ c.self.invariant.0.number)) (index_within p.config.partitions p.config.replicas id c.if-id-self.true c.if-id-self-2.true) in
    subst (λ w. (n ≡ index_of w.config.partitions id) × (n < length w.nodes) × (node_at w id ≡ slice_get w.nodes n)) c.self.view_is
    (refl, within, (λ i. cond (there_is p.config.partitions p.config.replicas id c.if-id-self.true c.if-id-self-2.true i) (slice_get nodes n) None))
