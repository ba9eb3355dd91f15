use Rattle.std.proofs.Common.{◌≡◌, ◌-◌, suc, ◌+◌, sym, ap, ◌∙◌, arith}
use Rattle.calvin_recon.specs.Scouting.{next, scouted}
use Rattle.calvin_recon.proofs.Rounds.{same_sets_exact, scouted_more, scouted_found, scouted_end}
use Rattle.calvin_recon.proofs.scouting.scout.Goals as goal

pub returns-then-eq-clause-found : goal.returns-then-eq-clause-found
returns-then-eq-clause-found g c =
    let m = g.A.App.meaning in
    let rows = g.L.Look.shown c.args.rows.now in
    let n = 16 - (c.loop-look._look + 1) in
    let more : 16 - c.loop-look._look ≡ suc n = omega arith in
    let is : c.sets-next.result ≡ next m c.args.args.now rows c.loop-look.sets = c.sets-next.ensures ∙ ap (m.needs c.args.args.now) c.look_up.ensures in
    sym (sym c.loop-look.invariant ∙ ap (λ k. scouted m c.args.args.now rows k c.loop-look.sets) more
    ∙ scouted_found m c.args.args.now rows n c.loop-look.sets c.sets-next.result is (sym c.eq.ensures ∙ c.if-eq.true))

pub returns-then-eq-clause-agree : goal.returns-then-eq-clause-agree
returns-then-eq-clause-agree g c =
    sym (same_sets_exact c.sets-next.result c.loop-look.sets (sym c.eq.ensures ∙ c.if-eq.true))
    ∙ c.sets-next.ensures ∙ ap (g.A.App.meaning.needs c.args.args.now) c.look_up.ensures

pub loop-look-preserved : goal.loop-look-preserved
loop-look-preserved g c =
    let m = g.A.App.meaning in
    let rows = g.L.Look.shown c.args.rows.now in
    let n = 16 - (c.loop-look._look + 1) in
    let more : 16 - c.loop-look._look ≡ suc n = omega arith in
    let is : c.sets-next.result ≡ next m c.args.args.now rows c.loop-look.sets = c.sets-next.ensures ∙ ap (m.needs c.args.args.now) c.look_up.ensures in
    sym (scouted_more m c.args.args.now rows n c.loop-look.sets c.sets-next.result is (sym c.eq.ensures ∙ c.if-eq.false))
    ∙ sym (ap (λ k. scouted m c.args.args.now rows k c.loop-look.sets) more) ∙ c.loop-look.invariant

pub returns-clause-found : goal.returns-clause-found
returns-clause-found g c =
    let m = g.A.App.meaning in
    let rows = g.L.Look.shown c.args.rows.now in
    let none : 16 - c.loop-look._look ≡ 0 = omega arith in
    sym (sym c.loop-look.invariant ∙ ap (λ k. scouted m c.args.args.now rows k c.loop-look.sets) none ∙ scouted_end m c.args.args.now rows c.loop-look.sets)
