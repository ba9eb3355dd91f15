use Rattle.std.proofs.Common.{sym, ap, ◌∙◌}
use Rattle.std.specs.List.{list_any, list_all}
use Rattle.std.proofs.lemmas.Bool.{and_from}
use Rattle.calvin_types.specs.Participants.{site, is_local}
use Rattle.calvin_sched.proofs.Alone.{from, runs_where_it_writes, serves_by_reads}
use Rattle.calvin_sched.proofs.turn.Turn.serves_others.Goals as goal

pub returns-then-not-are_here : goal.returns-then-not-are_here
returns-then-not-are_here g c =
    let P = c.args.config.now.partitions in
    let here = site P c.args.partition in
    let t = c.args.self.now.turn.request in
    let reads = ap (λ r. list_any (is_local here) r.sets.reads) (sym c.txn-txn.ensures) ∙ sym c.has_local.ensures ∙ c.if-not-has_local.false in
    let writes = ap (λ r. list_all (is_local here) r.sets.writes) (sym c.txn-txn.ensures) ∙ sym c.are_here.ensures ∙ c.if-not-are_here.true in
    sym (and_from _ _ reads (runs_where_it_writes P c.args.config.now.in_range.some_partition c.args.partition t writes))

pub returns : goal.returns
returns g c =
    let P = c.args.config.now.partitions in
    let here = site P c.args.partition in
    let t = c.args.self.now.turn.request in
    let reads = ap (λ r. list_any (is_local here) r.sets.reads) (sym c.txn-txn.ensures) ∙ sym c.has_local.ensures ∙ c.if-not-has_local.false in
    let writes = ap (λ r. list_all (is_local here) r.sets.writes) (sym c.txn-txn.ensures) ∙ sym c.are_here.ensures ∙ c.if-not-are_here.false in
    let below = ap (λ r. list_all (from P c.args.partition) r.sets.reads) (sym c.txn-txn.ensures) ∙ sym c.is_none_below.ensures in
    sym (serves_by_reads P c.args.config.now.in_range.some_partition c.args.partition t reads writes c.is_none_below.result below)
