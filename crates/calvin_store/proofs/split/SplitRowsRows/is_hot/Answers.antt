use Rattle.std.proofs.Common.{sym, ap, is_some, ◌∙◌}
use Rattle.calvin_store.proofs.StillKept.{hot_as_kept}
use Rattle.calvin_store.proofs.split.SplitRowsRows.is_hot.Goals as goal

pub returns : goal.returns
returns g c = c.is_some.ensures ∙ ap is_some c.get.ensures ∙ sym (hot_as_kept c.args.self.now.rows c.args.key.now)
