use Rattle.std.proofs.Common.{◌++◌, suc, [], Ok, Err, refl, sym, ap, subst, ◌∙◌, arith}
use Rattle.std.proofs.lemmas.Result.{err_from_is_err_and}
use Rattle.std.specs.List.{list_any}
use Rattle.calvin_types.specs.Deeds.{Did}
use Rattle.calvin_types.specs.Participants.{has_local_key}
use Rattle.calvin_sched.specs.Progress.{merge}
use Rattle.calvin_types.specs.declared.fault.Fault.TheVariants.{OutOfMemory}
use Rattle.calvin_node_acts.specs.declared.act.Act.TheVariants.{Merge}
use Rattle.calvin_node_acts.specs.Acting as acting
use Rattle.calvin_node_acts.specs.Growing.{act_grows}
use Rattle.calvin_node_acts.specs.Layers.{IsNode, rest_of, state_of, node_of}
use Rattle.calvin_order.specs.Configs.{merged, order_config, over}
use Rattle.calvin_order.specs.Merging.{batch_at}
use Rattle.calvin_order.specs.Walking.{flat}
use Rattle.calvin_order.proofs.Joining.{length-merged}
use Rattle.calvin_order.proofs.SameOrders.{same_epoch}
use Rattle.calvin_node_acts.specs.Running.{NodeDid}
use Rattle.calvin_node_acts.proofs.Settling.{running}
use Rattle.calvin_node_acts.proofs.Merges.{complete_is, wanting, not_given, untold, merging, some_request}
use Rattle.calvin_node.proofs.node.Node.merge.Goals as goal

pub returns-in_err-segments : goal.returns-in_err-segments
returns-in_err-segments g c =
    let p = c.self.inside in
    let below = rest_of g.S.Rows.points g.S.Rows.cold p.pending.requests p.scheduler p.kept in
    let x = state_of p.layer below in
    let config = over p.layer.config g.S.Rows.points g.S.Rows.cold in
    let reply = g.row.A-Reply.Denot in
    let failed = err_from_is_err_and c.from_residual.result c.from_residual.ensures.1 in
    let e = c.in_err-segments.field-0.0 in
    let given = c.in_err-segments.ensures in
    record {
      did = subst (λ v. NodeDid {Reply = reply} (act_grows v.config Merge v.state) c.from_residual.result (acting.merge v.config v.state) v v [] []) c.self.view_is
          (subst (λ r. NodeDid {Reply = reply} (act_grows config Merge x) r (acting.merge config x) (running config x) (running config x) [] []) (sym (failed.1 ∙ ap Err failed.2))
          (not_given reply config p.layer below e given.only given.not_complete.0 given.not_complete.1));
    }

pub returns-in_err-reserve : goal.returns-in_err-reserve
returns-in_err-reserve g c =
    let p = c.self.inside in
    let below = rest_of g.S.Rows.points g.S.Rows.cold p.pending.requests p.scheduler p.kept in
    let x = state_of p.layer below in
    let config = over p.layer.config g.S.Rows.points g.S.Rows.cold in
    let reply = g.row.A-Reply.Denot in
    let held = c.in_ok-segments.ensures.complete in
    let full = complete_is reply config p.layer below held in
    let is = c.in_ok-segments.ensures.merged in
    let failed = err_from_is_err_and c.from_residual-in_err-reserve.result c.from_residual-in_err-reserve.ensures.1 in
    let all = length-merged config (batch_at p.layer.held) p.layer.merged_epochs in
    let some = some_request (acting.next_merged config x) (omega (arith, all, c.in_ok-segments.ensures.fewer, c.len.ensures, c.in_ok-segments.segments.ok.0, c.in_err-reserve.ensures.refused.1)) in
    record {
      did = subst (λ v. NodeDid {Reply = reply} (act_grows v.config Merge v.state) c.from_residual-in_err-reserve.result (acting.merge v.config v.state) v (running config (record x { pending = c.reserve.new.self.requests })) [] []) c.self.view_is
          (subst (λ r. NodeDid {Reply = reply} (act_grows config Merge x) r (acting.merge config x) (running config x) (running config (record x { pending = c.reserve.new.self.requests })) [] []) (sym (failed.1 ∙ ap Err (failed.2 ∙ c.in_err-reserve.ensures.refused.0)))
          (subst (λ l. NodeDid {Reply = reply} (act_grows config Merge x) (Err OutOfMemory) (acting.merge config x) (running config x) (running config (record x { pending = l })) [] []) (sym c.in_err-reserve.ensures.requests)
          (wanting reply config p.layer below full some)));
    }

pub invariant_of-self-in_err-merged_batches : goal.invariant_of-self-in_err-merged_batches
invariant_of-self-in_err-merged_batches g c =
    let p = c.self.inside in
    let below = rest_of g.S.Rows.points g.S.Rows.cold p.pending.requests p.scheduler p.kept in
    let x = state_of p.layer below in
    let config = over p.layer.config g.S.Rows.points g.S.Rows.cold in
    let reply = g.row.A-Reply.Denot in
    let held = c.in_ok-segments.ensures.complete in
    let full = complete_is reply config p.layer below held in
    let is = c.in_ok-segments.ensures.merged in
    let same = same_epoch (order_config c.config.result.now) config (batch_at p.layer.held) c.config.ensures.partitions c.config.ensures.woven_from c.in-Some.epoch ∙ ap (merged config (batch_at p.layer.held)) c.in-Some.ensures.next ∙ sym is in
    let did = untold reply config p.layer below full c.in-Some.epoch (flat c.in_ok-segments.segments.items) is c.in-Some.ensures.next c.self.invariant.merged c.in_err-merged_batches.field-0.0 c.merged_batches.new.self (subst (λ l. Did {Out = Unit {0}} (list_any (λ f. has_local_key p.scheduler.here f.1) l) (Err c.in_err-merged_batches.field-0.0) (merge c.in-Some.epoch l p.scheduler) p.scheduler c.merged_batches.new.self) same c.in_err-merged_batches.ensures.did) in
    subst (λ s. IsNode p.layer s) (sym did.0) c.self.invariant

pub returns-in_err-merged_batches : goal.returns-in_err-merged_batches
returns-in_err-merged_batches g c =
    let p = c.self.inside in
    let below = rest_of g.S.Rows.points g.S.Rows.cold p.pending.requests p.scheduler p.kept in
    let x = state_of p.layer below in
    let config = over p.layer.config g.S.Rows.points g.S.Rows.cold in
    let reply = g.row.A-Reply.Denot in
    let held = c.in_ok-segments.ensures.complete in
    let full = complete_is reply config p.layer below held in
    let is = c.in_ok-segments.ensures.merged in
    let same = same_epoch (order_config c.config.result.now) config (batch_at p.layer.held) c.config.ensures.partitions c.config.ensures.woven_from c.in-Some.epoch ∙ ap (merged config (batch_at p.layer.held)) c.in-Some.ensures.next ∙ sym is in
    let failed = err_from_is_err_and c.from_residual-in_err-merged_batches.result c.from_residual-in_err-merged_batches.ensures.1 in
    let did = untold reply config p.layer below full c.in-Some.epoch (flat c.in_ok-segments.segments.items) is c.in-Some.ensures.next c.self.invariant.merged c.in_err-merged_batches.field-0.0 c.merged_batches.new.self (subst (λ l. Did {Out = Unit {0}} (list_any (λ f. has_local_key p.scheduler.here f.1) l) (Err c.in_err-merged_batches.field-0.0) (merge c.in-Some.epoch l p.scheduler) p.scheduler c.merged_batches.new.self) same c.in_err-merged_batches.ensures.did) in
    record {
      did = subst (λ v. NodeDid {Reply = reply} (act_grows v.config Merge v.state) c.from_residual-in_err-merged_batches.result (acting.merge v.config v.state) v
          (running config (state_of p.layer (rest_of g.S.Rows.points g.S.Rows.cold c.reserve.new.self.requests c.merged_batches.new.self p.kept))) [] []) c.self.view_is
          (subst (λ r. NodeDid {Reply = reply} (act_grows config Merge x) r (acting.merge config x) (running config x) (running config (state_of p.layer (rest_of g.S.Rows.points g.S.Rows.cold c.reserve.new.self.requests c.merged_batches.new.self p.kept))) [] []) (sym (failed.1 ∙ ap Err failed.2))
          (subst (λ l. NodeDid {Reply = reply} (act_grows config Merge x) (Err c.in_err-merged_batches.field-0.0) (acting.merge config x) (running config x) (running config (state_of p.layer (rest_of g.S.Rows.points g.S.Rows.cold l c.merged_batches.new.self p.kept))) [] []) (sym c.in_ok-reserve.ensures.requests)
          (subst (λ s. NodeDid {Reply = reply} (act_grows config Merge x) (Err c.in_err-merged_batches.field-0.0) (acting.merge config x) (running config x) (running config (state_of p.layer (rest_of g.S.Rows.points g.S.Rows.cold p.pending.requests s p.kept))) [] []) (sym did.0) did.1)));
    }

pub returns : goal.returns
returns g c =
    let p = c.self.inside in
    let below = rest_of g.S.Rows.points g.S.Rows.cold p.pending.requests p.scheduler p.kept in
    let x = state_of p.layer below in
    let config = over p.layer.config g.S.Rows.points g.S.Rows.cold in
    let reply = g.row.A-Reply.Denot in
    let full = complete_is reply config p.layer below c.in_ok-segments.ensures.complete in
    let is = c.in_ok-segments.ensures.merged in
    let same = same_epoch (order_config c.config.result.now) config (batch_at p.layer.held) c.config.ensures.partitions c.config.ensures.woven_from c.in-Some.epoch ∙ ap (merged config (batch_at p.layer.held)) c.in-Some.ensures.next ∙ sym is in
    let next = record p.layer { merged_epochs = suc p.layer.merged_epochs } in
    let after = rest_of g.S.Rows.points g.S.Rows.cold c.append.new.self.requests c.merged_batches.new.self p.kept in
    record {
      did = subst (λ v. NodeDid {Reply = reply} (act_grows v.config Merge v.state) (Ok tt) (acting.merge v.config v.state) v (node_of c.pass_epoch.new.self after) [] []) c.self.view_is
          (subst (λ l. NodeDid {Reply = reply} (act_grows config Merge x) (Ok tt) (acting.merge config x) (running config x) (node_of l after) [] []) (sym c.pass_epoch.ensures)
          (merging reply config p.layer below full c.self.invariant.here c.in-Some.epoch (flat c.in_ok-segments.segments.items) is c.in-Some.ensures.next c.self.invariant.merged (act_grows config Merge x) next c.append.new.self.requests c.merged_batches.new.self
          (subst (λ l. Did {Out = Unit {0}} (list_any (λ f. has_local_key p.scheduler.here f.1) l) (Ok tt) (merge c.in-Some.epoch l p.scheduler) p.scheduler c.merged_batches.new.self) same c.in_ok-merged_batches.ensures.did)
          refl (c.append.ensures ∙ ap (λ l. l ++ (flat c.in_ok-segments.segments.items)) c.in_ok-reserve.ensures.requests)));
    }
