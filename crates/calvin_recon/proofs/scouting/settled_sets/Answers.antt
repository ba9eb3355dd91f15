use Rattle.std.proofs.Common.{◌∙◌, sym, refl}
use Rattle.calvin_recon.proofs.Rounds.{found_needed}
use Rattle.calvin_recon.proofs.scouting.settled_sets.Goals as goal

pub unwrap-requires : goal.unwrap-requires
unwrap-requires g c =
    let so = c.scout.ensures.found ∙ found_needed g.A.App.meaning c.args.args.now (g.L.Look.shown c.args.rows.now) g.met.A.App.lawful g.met.A.Settles.settles in
    rw so refl

pub returns-clause-needed : goal.returns-clause-needed
returns-clause-needed g c =
    let so = sym c.unwrap.ensures ∙ c.scout.ensures.found ∙ found_needed g.A.App.meaning c.args.args.now (g.L.Look.shown c.args.rows.now) g.met.A.App.lawful g.met.A.Settles.settles in
    cc
