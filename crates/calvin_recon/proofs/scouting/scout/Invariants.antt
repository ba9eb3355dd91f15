use Rattle.std.proofs.Common.{◌≡◌, ◌-◌}
use Rattle.std.specs.FinMap as map
use Rattle.calvin_recon.specs.Scouting.{scouted}
use Rattle.calvin_recon.proofs.scouting.scout.Given as goal

abbrev pub invariant-loop-look : goal.invariant-loop-look
invariant-loop-look g l = scouted g.A.App.meaning l.args (g.L.Look.shown l.rows) (16 - l._look) l.sets ≡ scouted g.A.App.meaning l.args (g.L.Look.shown l.rows) 16 (g.A.App.meaning.needs l.args map.empty)
