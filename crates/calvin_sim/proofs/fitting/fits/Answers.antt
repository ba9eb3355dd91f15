use Rattle.std.proofs.Common.{◌&&◌, map, length, ap, sym, ◌∙◌}
use Rattle.std.specs.Prelude.{nat_le}
use Rattle.calvin_types.specs.declared.limits.TheConstants.{MOST_UNDECIDED, MOST_EPOCHS}
use Rattle.calvin_script.specs.Scripts.{all_listed, contents}
use Rattle.calvin_sim.specs.Simulations.{listed_for}
use Rattle.calvin_sim.proofs.Rooms.{one_fails, one_passes}
use Rattle.calvin_sim.proofs.fitting.fits.Goals as goal

pub returns-then-not-group_fits : goal.returns-then-not-group_fits
returns-then-not-group_fits g c =
    let epochs = (contents c.args.script.now).epochs in
    let none = ap (λ l. nat_le (listed_for c.loop-group.group (map all_listed l)) MOST_UNDECIDED) (sym c.deref.ensures.value) ∙ sym c.if-not-group_fits.ensures in
    sym (ap (λ b. b && nat_le (length epochs) MOST_EPOCHS) (one_fails (λ h. nat_le (listed_for h epochs) MOST_UNDECIDED) c.args.script.now.partitions c.loop-group.group c.loop-group-test.true none))

pub loop-group-preserved : goal.loop-group-preserved
loop-group-preserved g c =
    let epochs = (contents c.args.script.now).epochs in
    let some = ap (λ l. nat_le (listed_for c.loop-group.group (map all_listed l)) MOST_UNDECIDED) (sym c.deref.ensures.value) ∙ sym c.if-not-group_fits.ensures in
    one_passes (λ h. nat_le (listed_for h epochs) MOST_UNDECIDED) c.loop-group.group c.loop-group.invariant some
