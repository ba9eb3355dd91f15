use Rattle.std.proofs.Common.{ap, arith, length}
use Rattle.calvin_view_list.proofs.Cuts.{length-views}
use Rattle.calvin_view_list.proofs.view_list.ViewList.len.Goals as goal

pub returns : goal.returns
returns g c = omega (arith, c.len.ensures, c.self.inside.ends.ok, length-views c.self.inside.entries.items 0 c.self.inside.ends.items, ap (λ v. length v.views) c.self.view_is)
