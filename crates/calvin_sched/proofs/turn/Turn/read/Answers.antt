use Rattle.std.proofs.Common.{sym, ap, ◌∙◌, arith}
use Rattle.calvin_types.specs.Participants.{site, local_keys}
use Rattle.calvin_app.specs.Rows.{view, part}
use Rattle.calvin_sched.specs.Scheduling.{gathered}
use Rattle.calvin_sched.proofs.Gathering.{own_rows, part_view}
use Rattle.calvin_sched.proofs.turn.Turn.read.Goals as goal

pub invariant_of-self : goal.invariant_of-self
invariant_of-self g c =
    let here = site c.args.config.now.partitions c.args.partition in
    let rows = (g.S.Rows.store c.args.rows.now).map in
    let reads = c.self.inside.request.sets.reads in
    let seen = ap (λ l. l.rows) c.read.ensures ∙ ap (λ t. view (part here.partitions here.partition rows) t.sets.reads) c.get.ensures ∙ part_view here rows reads in
    ((λ i. gathered (λ _. seen i) reads) ∙ own_rows here rows reads ∙ sym seen, omega (arith, ap (λ l. l.room) c.read.ensures, c.self.invariant.1))

pub returns-clause-turn : goal.returns-clause-turn
returns-clause-turn g c =
    let here = site c.args.config.now.partitions c.args.partition in
    let rows = (g.S.Rows.store c.args.rows.now).map in
    let inside = c.self.inside in
    let seen = ap (λ l. l.rows) c.read.ensures ∙ ap (λ t. view (part here.partitions here.partition rows) t.sets.reads) c.get.ensures ∙ part_view here rows inside.request.sets.reads in
    ap (λ r. record { request = inside.request; phase = inside.phase; served = r; came = inside.came.rows }) seen
    ∙ ap (λ k. record k.turn { served = view rows (local_keys here k.turn.request.sets.reads) }) c.self.view_is
