-- The wholes so far are those of the histories, each of which gives a node's data.
use Rattle.std.proofs.Common.{◌≡◌}
use Rattle.calvin_wide_desk.specs.Stopping.{numbered, HaveLived}
use Rattle.calvin_wide_desk.proofs.stopped.Room.end_all.Given as goal

abbrev pub invariant-loop-desk : goal.invariant-loop-desk
invariant-loop-desk g l = record {
  wholes : l.wholes.items ≡ numbered 0 l.histories.items;
  lived : HaveLived g.A.App.meaning g.J.WideFounding.config l.histories.items;
}
