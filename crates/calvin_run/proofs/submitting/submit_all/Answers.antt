use Rattle.std.proofs.Common.{◌≡◌, ◌<◌, ◌≤◌, take, map, length, IsOkUnless, Err, sym, ap, subst, ◌∙◌}
use Rattle.std.proofs.Math.ListN.{get_or, get_or-map}
use Rattle.std.proofs.lemmas.List.{length-map}
use Rattle.std.proofs.lemmas.Result.{err_from_is_err_and}
use Rattle.calvin_types.specs.declared.fault.Fault.TheVariants.{OutOfMemory}
use Rattle.calvin_script.specs.Scripts.{all_listed, contents}
use Rattle.calvin_sim.specs.Simulations.{listed_for}
use Rattle.calvin_sim.proofs.Submitted.{epoch_taken, epoch_room, epoch_early}
use Rattle.calvin_run.proofs.Growing.{grown_none}
use Rattle.calvin_run.proofs.Submitted.{epoch_more, epochs_open, all_done}
use Rattle.calvin_run.proofs.submitting.submit_all.Goals as goal

pub loop-epoch-init : goal.loop-epoch-init
loop-epoch-init g c = grown_none g.A.App.meaning c.args.book.now

pub returns-in_err-submit_epoch-clause-only : goal.returns-in_err-submit_epoch-clause-only
returns-in_err-submit_epoch-clause-only g c =
    let items = c.deref-epoch-items.result.now in
    let same = c.deref-epoch-items.ensures.value in
    let script = contents c.args.script.now in
    let i = c.loop-epoch.epoch-index in
    let epoch = all_listed c.epoch-item.result in
    let within = subst (λ l. i < length (map all_listed l)) same (subst (λ n. i < n) (sym (length-map items all_listed)) c.loop-epoch-test.true) in
    let is = subst (λ l. epoch ≡ get_or (map all_listed l) i epoch) same (ap all_listed c.epoch-item.is ∙ sym (get_or-map all_listed items i c.epoch-item.result)) in
    let refused = err_from_is_err_and c.from_residual.result c.from_residual.ensures.1 in
    let now = epochs_open g.A.App.meaning script i within c.args.book.now c.loop-epoch.book c.requires.new c.requires.there c.requires.partitions c.loop-epoch.invariant in
    subst (λ r. IsOkUnless r OutOfMemory) (sym (refused.1 ∙ ap Err refused.2))
    (c.in_err-submit_epoch.ensures.only (λ h. listed_for h (take i script.epochs)) i now
    (λ h less. epoch_taken script c.requires.taken c.requires.fits i epoch within is h)
    (λ h less. epoch_room script c.requires.taken c.requires.fits i epoch within is h less)
    (epoch_early script c.requires.taken c.requires.fits i epoch within is))

pub loop-epoch-preserved : goal.loop-epoch-preserved
loop-epoch-preserved g c =
    let items = c.deref-epoch-items.result.now in
    let same = c.deref-epoch-items.ensures.value in
    let script = contents c.args.script.now in
    let i = c.loop-epoch.epoch-index in
    let epoch = all_listed c.epoch-item.result in
    let within = subst (λ l. i < length (map all_listed l)) same (subst (λ n. i < n) (sym (length-map items all_listed)) c.loop-epoch-test.true) in
    let is = subst (λ l. epoch ≡ get_or (map all_listed l) i epoch) same (ap all_listed c.epoch-item.is ∙ sym (get_or-map all_listed items i c.epoch-item.result)) in
    epoch_more g.A.App.meaning script.partitions script.epochs i epoch c.args.book.now c.loop-epoch.book c.submit_epoch.new.book within is c.loop-epoch.invariant c.in_ok-submit_epoch.ensures.ok

pub returns-clause-ok : goal.returns-clause-ok
returns-clause-ok g c =
    let items = c.deref-epoch-items.result.now in
    let same = c.deref-epoch-items.ensures.value in
    let script = contents c.args.script.now in
    let i = c.loop-epoch.epoch-index in
    let all = subst (λ l. length (map all_listed l) ≤ i) same (subst (λ n. n ≤ i) (sym (length-map items all_listed)) c.loop-epoch-test.false) in
    all_done g.A.App.meaning script i c.args.book.now c.loop-epoch.book c.requires.new all c.loop-epoch.invariant
