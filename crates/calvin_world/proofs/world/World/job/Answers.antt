-- What the node says is to be run there.
use Rattle.std.proofs.Common.{◌≡◌, ℕ, ◌<◌, length, Some, slice_get, sym, ap, subst, ◌∙◌}
use Rattle.std.proofs.lemmas.List.{length-map}
use Rattle.std.proofs.lemmas.Option.{slice_get-get_or}
use Rattle.calvin_order.specs.Configs.{config_of}
use Rattle.calvin_node_acts.specs.Running.{Running}
use Rattle.calvin_world.specs.Jobs.{job_of}
use Rattle.calvin_world.specs.Worlds.{node_at}
use Rattle.calvin_world.proofs.Jobs.{job_is}
use Rattle.calvin_world.proofs.world.World.job.Goals as goal

pub returns : goal.returns
returns g c =
    let p = c.self.inside in
    let config = config_of p.config g.S.Rows.points g.S.Rows.cold in
    let at = c.in-Some.at in
    let within = subst (λ (n : ℕ). at < n) (ap (λ w. length w.nodes) (sym c.self.view_is) ∙ length-map p.nodes.items (λ (n : Running g.row.A-Args.Denot g.row.A-Row.Denot). n.state)) c.in-Some.ensures.1 in
    let there = slice_get-get_or p.nodes.items at c.index-2.result.now within ∙ ap Some (sym c.index-2.ensures) in
    let found = subst (λ w. node_at w c.args.id ≡ slice_get w.nodes at) (sym c.self.view_is) c.in-Some.ensures.2 in
    subst (λ w. c.job.result ≡ job_of w c.args.id c.args.place) c.self.view_is
    (c.job.ensures ∙ job_is config p.nodes.items p.packets.packets c.self.invariant.0 c.args.id at found c.index-2.result.now there c.args.place)
