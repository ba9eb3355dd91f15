-- That the request at a place begins is a step of the world.
use Rattle.std.proofs.Common.{◌≡◌, ℕ, ◌<◌, length, Some, slice_get, slice_set, sym, ap, subst, ◌∙◌}
use Rattle.std.proofs.lemmas.List.{length-map}
use Rattle.std.proofs.lemmas.Option.{slice_get-get_or}
use Rattle.calvin_order.specs.Configs.{config_of}
use Rattle.calvin_node_acts.specs.declared.act.Act.TheVariants.{Begin}
use Rattle.calvin_node_acts.specs.Running.{Running}
use Rattle.calvin_world.specs.declared.event.Event.TheVariants.{At}
use Rattle.calvin_world.specs.RunningWorlds.{world_of, IsReached}
use Rattle.calvin_world.specs.SettledWorlds.{outcome_of, SettledStep}
use Rattle.calvin_world.specs.Worlds.{index_of, node_at}
use Rattle.calvin_world.proofs.InCode.{no_node, acted, acted_kept}
use Rattle.calvin_world.proofs.world.World.begin.Goals as goal

pub returns-in_default : goal.returns-in_default
returns-in_default g c = no_node g.A.App.meaning c.args.self.now (subst (λ w. IsReached g.A.App.meaning w) c.self.view_is c.self.invariant.1) c.args.id c.in_default.ensures (Begin c.args.place)

pub index_mut-requires : goal.index_mut-requires
index_mut-requires g c =
    let p = c.self.inside in
    subst (λ (n : ℕ). c.in-Some.at < n) (ap (λ w. length w.nodes) (sym c.self.view_is) ∙ length-map p.nodes.items (λ (n : Running g.row.A-Args.Denot g.row.A-Row.Denot). n.state) ∙ sym p.nodes.ok.0) c.in-Some.ensures.1

pub invariant_of-self : goal.invariant_of-self
invariant_of-self g c =
    let p = c.self.inside in
    let config = config_of p.config g.S.Rows.points g.S.Rows.cold in
    let at = c.in-Some.at in
    let within = subst (λ (n : ℕ). at < n) (ap (λ w. length w.nodes) (sym c.self.view_is) ∙ length-map p.nodes.items (λ (n : Running g.row.A-Args.Denot g.row.A-Row.Denot). n.state)) c.in-Some.ensures.1 in
    let there = slice_get-get_or p.nodes.items at c.index_mut.result.now within ∙ ap Some (sym c.index_mut.ensures.value) in
    let at_is = subst (λ w. at ≡ index_of w.config.partitions c.args.id) (sym c.self.view_is) c.in-Some.ensures.0 in
    let found = subst (λ w. node_at w c.args.id ≡ slice_get w.nodes at) (sym c.self.view_is) c.in-Some.ensures.2 in
    acted_kept g.A.App.meaning config p.nodes.items p.packets.packets c.self.invariant.0 c.self.invariant.1 c.args.id at at_is found c.index_mut.result.now c.begin.new.self there (Begin c.args.place) c.begin.result c.begin.new.outbox.packets c.begin.ensures.did

pub returns : goal.returns
returns g c =
    let p = c.self.inside in
    let config = config_of p.config g.S.Rows.points g.S.Rows.cold in
    let at = c.in-Some.at in
    let within = subst (λ (n : ℕ). at < n) (ap (λ w. length w.nodes) (sym c.self.view_is) ∙ length-map p.nodes.items (λ (n : Running g.row.A-Args.Denot g.row.A-Row.Denot). n.state)) c.in-Some.ensures.1 in
    let there = slice_get-get_or p.nodes.items at c.index_mut.result.now within ∙ ap Some (sym c.index_mut.ensures.value) in
    let at_is = subst (λ w. at ≡ index_of w.config.partitions c.args.id) (sym c.self.view_is) c.in-Some.ensures.0 in
    let found = subst (λ w. node_at w c.args.id ≡ slice_get w.nodes at) (sym c.self.view_is) c.in-Some.ensures.2 in
    subst (λ w. SettledStep g.A.App.meaning w (At c.args.id (Begin c.args.place)) (outcome_of c.begin.result) (world_of config (slice_set p.nodes.items at c.begin.new.self) c.begin.new.outbox.packets)) c.self.view_is
    (acted g.A.App.meaning config p.nodes.items p.packets.packets c.self.invariant.0 c.self.invariant.1 c.args.id at at_is found c.index_mut.result.now c.begin.new.self there (Begin c.args.place) c.begin.result c.begin.new.outbox.packets c.begin.ensures.did)
