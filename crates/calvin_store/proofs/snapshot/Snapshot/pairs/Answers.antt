use Rattle.std.proofs.Common.{sym, ap, ◌∙◌}
use Rattle.std.specs.FinMap as map
use Rattle.calvin_app.specs.EntryLaws.{entries_kept}
use Rattle.calvin_store.specs.Held.{pairs_in}
use Rattle.calvin_store.proofs.snapshot.Snapshot.pairs.Goals as goal

pub returns-in-Some : goal.returns-in-Some
returns-in-Some g c = c.as_slice.ensures ∙ sym (ap pairs_in c.in-Some.is) ∙ sym (entries_kept (pairs_in c.self.inside.pairs) c.self.invariant.rise) ∙ ap map.entries c.self.view_is

pub returns-in-None : goal.returns-in-None
returns-in-None g c = sym (ap pairs_in c.in-None.is) ∙ sym (entries_kept (pairs_in c.self.inside.pairs) c.self.invariant.rise) ∙ ap map.entries c.self.view_is
