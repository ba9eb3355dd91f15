use Rattle.std.proofs.Common.{sym, ap, ◌∙◌, length}
use Rattle.std.specs.FinMap as map
use Rattle.calvin_store.proofs.snapshot.Snapshot.len.Goals as goal

pub returns : goal.returns
returns g c = ap length c.pairs.ensures ∙ sym (map.len-entries c.args.self.now)
