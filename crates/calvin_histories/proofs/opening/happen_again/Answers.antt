-- The event is an entry of a node that is there, which refuses it for memory alone, and is then its last one.
use Rattle.std.proofs.Common.{◌≡◌, ◌<◌, ◌+◌, ◌*◌, ℕ, length, Some, sym, ap, subst, ◌∙◌, arith}
use Rattle.std.specs.Prelude.{slice_get, slice_set}
use Rattle.std.proofs.lemmas.Option.{slice_get-get_or}
use Rattle.std.proofs.lemmas.Result.{IfErr-weaker}
use denote.Memory.{lone}
use Rattle.calvin_types.specs.declared.fault.Fault.TheVariants.{OutOfMemory}
use Rattle.calvin_order.specs.Configs.{Config}
use Rattle.calvin_world.specs.Worlds.{index_of}
use Rattle.calvin_world.proofs.InCode.{index_within}
use Rattle.calvin_histories.specs.Locked.{IsNoEntry, AreLockedOf}
use Rattle.calvin_histories.specs.Positions.{AreNamed}
use Rattle.calvin_histories.proofs.EntrySizes.{an_entry}
use Rattle.calvin_histories.proofs.Finding.{on_ok}
use Rattle.calvin_histories.proofs.Replaying.{first_of, some_entry, replays, replayed_more}
use Rattle.calvin_histories.proofs.opening.happen_again.Goals as goal

pub entry_at-requires : goal.entry_at-requires
entry_at-requires g c = (
  an_entry (lone g.row.A-Args.mir) (lone g.row.A-Row.mir) (lone g.row.A-Reply.mir) g.met.A.App.work_fits,
  subst (λ w. AreNamed w.packets c.args.names.now) (sym c.world.ensures.after) c.requires.names,
)

pub returns-in_default-clause-after : goal.returns-in_default-clause-after
returns-in_default-clause-after g c =
    let log = c.args.book.now in
    let k = c.args.number in
    let event = c.unwrap-event.result in
    absurd (some_entry g.A.App.meaning g.met.A.App.lawful.writes_within_the_sets log c.world.result.now c.world.ensures.run k event (ap (λ es. slice_get es k) (sym c.events.ensures) ∙ sym c.get.ensures ∙ c.unwrap-event.ensures) (sym c.in_ok-id.ensures.entry ∙ c.in_default.is))

pub index_mut-requires : goal.index_mut-requires
index_mut-requires g c =
    let log = c.args.book.now in
    let k = c.args.number in
    let event = c.unwrap-event.result in
    let there = ap (λ es. slice_get es k) (sym c.events.ensures) ∙ sym c.get.ensures ∙ c.unwrap-event.ensures in
    let r = replays g.A.App.meaning g.met.A.App.lawful.writes_within_the_sets log c.world.result.now c.world.ensures.run k event there c.in-Some.id c.in-Some.entry (sym c.in-Some.is ∙ c.in_ok-id.ensures.entry) in
    let place : index_of log.config.partitions c.in-Some.id ≡ c.in-Some.id.replica * c.args.config.now.partitions + c.in-Some.id.partition = ap (λ (d : Config). index_of d.partitions c.in-Some.id) c.requires.config in
    let within = index_within log.config.partitions log.config.replicas c.in-Some.id r.replica r.partition in
    let number = c.requires.before.number in
    let long = c.args.nodes.now.ok.0 in
    subst (λ (at : ℕ). at < c.args.nodes.now.len) place (omega (arith, within, number, long))

pub live_on-requires : goal.live_on-requires
live_on-requires g c = an_entry (lone g.row.A-Args.mir) (lone g.row.A-Row.mir) (lone g.row.A-Reply.mir) g.met.A.App.work_fits

pub returns-clause-after : goal.returns-clause-after
returns-clause-after g c =
    let m = g.A.App.meaning in
    let log = c.args.book.now in
    let k = c.args.number in
    let event = c.unwrap-event.result in
    let there = ap (λ es. slice_get es k) (sym c.events.ensures) ∙ sym c.get.ensures ∙ c.unwrap-event.ensures in
    let id = c.in-Some.id in
    let r = replays m g.met.A.App.lawful.writes_within_the_sets log c.world.result.now c.world.ensures.run k event there id c.in-Some.entry (sym c.in-Some.is ∙ c.in_ok-id.ensures.entry) in
    let nodes = c.args.nodes.now.items in
    let at = index_of log.config.partitions id in
    let place : at ≡ id.replica * c.args.config.now.partitions + id.partition = ap (λ (d : Config). index_of d.partitions id) c.requires.config in
    let within = index_within log.config.partitions log.config.replicas id r.replica r.partition in
    let number = c.requires.before.number in
    let old = c.index_mut.result.now in
    let here : slice_get nodes at ≡ Some old = subst (λ (n : ℕ). slice_get nodes n ≡ Some old) (sym place) (slice_get-get_or nodes (id.replica * c.args.config.now.partitions + id.partition) old (subst (λ (n : ℕ). n < length nodes) place (omega (arith, within, number))) ∙ ap Some (sym c.index_mut.ensures.value)) in
    on_ok c.live_on.result c.live_on.ensures.ok (λ goes. subst (λ (n : ℕ). AreLockedOf m (first_of m log (k + 1)) (slice_set nodes n c.live_on.new.node)) place
    (replayed_more m log c.world.result.now k event id c.in-Some.entry r nodes c.requires.before old c.live_on.new.node here goes))

pub returns-clause-only : goal.returns-clause-only
returns-clause-only g c =
    let m = g.A.App.meaning in
    let log = c.args.book.now in
    let k = c.args.number in
    let event = c.unwrap-event.result in
    let there = ap (λ es. slice_get es k) (sym c.events.ensures) ∙ sym c.get.ensures ∙ c.unwrap-event.ensures in
    let id = c.in-Some.id in
    let r = replays m g.met.A.App.lawful.writes_within_the_sets log c.world.result.now c.world.ensures.run k event there id c.in-Some.entry (sym c.in-Some.is ∙ c.in_ok-id.ensures.entry) in
    let nodes = c.args.nodes.now.items in
    let at = index_of log.config.partitions id in
    let place : at ≡ id.replica * c.args.config.now.partitions + id.partition = ap (λ (d : Config). index_of d.partitions id) c.requires.config in
    let within = index_within log.config.partitions log.config.replicas id r.replica r.partition in
    let number = c.requires.before.number in
    let old = c.index_mut.result.now in
    let here : slice_get nodes at ≡ Some old = subst (λ (n : ℕ). slice_get nodes n ≡ Some old) (sym place) (slice_get-get_or nodes (id.replica * c.args.config.now.partitions + id.partition) old (subst (λ (n : ℕ). n < length nodes) place (omega (arith, within, number))) ∙ ap Some (sym c.index_mut.ensures.value)) in
    IfErr-weaker c.live_on.result (IsNoEntry m old c.in-Some.entry) (λ fault. fault ≡ OutOfMemory) (r.only old (c.requires.before.each at old here)) c.live_on.ensures.only
