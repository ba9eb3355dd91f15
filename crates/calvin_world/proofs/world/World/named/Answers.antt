-- Among its packets.
use Rattle.std.proofs.Common.{◌≡◌, ℕ, MatchOption, subst}
use Rattle.calvin_world.specs.Names.{IsNamed}
use Rattle.calvin_world.proofs.world.World.named.Goals as goal

pub returns : goal.returns
returns g c = subst (λ packets. MatchOption c.number_of.result ((number : ℕ) → IsNamed packets c.args.name number → ⊥) (IsNamed packets c.args.name)) c.packets.ensures c.number_of.ensures
