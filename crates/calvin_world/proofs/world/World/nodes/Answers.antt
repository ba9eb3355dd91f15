-- Each node is opened with what the world is opened with.
use Rattle.std.proofs.Common.{◌≡◌, Some, slice_get, ap, subst, ◌∙◌}
use Rattle.calvin_world.proofs.world.World.nodes.Goals as goal

pub returns-clause-config : goal.returns-clause-config
returns-clause-config g c = λ i n there. c.self.invariant.0.each i n (subst (λ nodes. slice_get nodes i ≡ Some n) c.as_slice.ensures.value there) ∙ ap (λ w. w.config) c.self.view_is
