use Rattle.std.proofs.Common.{true, false, sym, subst}
use Rattle.calvin_node_acts.specs.declared.act.Act.TheVariants.{Merge, Lock, Restart}
use Rattle.calvin_node_acts.specs.Acting as acting
use Rattle.calvin_node_acts.specs.Growing.{act_grows}
use Rattle.calvin_node_acts.specs.Running.{NodeDid}
use Rattle.calvin_node_acts.proofs.Settling.{quiet}
use Rattle.calvin_node.proofs.node.Node.act.Goals as goal

pub returns-in-Submit : goal.returns-in-Submit
returns-in-Submit g c =
    let x = c.args.self.now in
    let reply = g.row.A-Reply.Denot in
    let sent = c.args.outbox.now.packets in
    let did = quiet true c.submit.result (acting.submit {Reply = reply} c.in-Submit.txn x.state) x c.submit.new.self sent c.submit.ensures.did in
    record { did = subst (λ k. NodeDid (act_grows x.config k x.state) c.submit.result (acting.deed_of g.A.App.meaning x.config k x.state) x c.submit.new.self sent sent) (sym c.in-Submit.is) did }

pub returns-in-Cool : goal.returns-in-Cool
returns-in-Cool g c =
    let x = c.args.self.now in
    let reply = g.row.A-Reply.Denot in
    let sent = c.args.outbox.now.packets in
    let did = quiet true c.cool.result (acting.cool_row {Reply = reply} x.config c.in-Cool.key x.state) x c.cool.new.self sent c.cool.ensures.did in
    record { did = subst (λ k. NodeDid (act_grows x.config k x.state) c.cool.result (acting.deed_of g.A.App.meaning x.config k x.state) x c.cool.new.self sent sent) (sym c.in-Cool.is) did }

pub returns-in-Close : goal.returns-in-Close
returns-in-Close g c =
    let x = c.args.self.now in
    let reply = g.row.A-Reply.Denot in
    let sent = c.args.outbox.now.packets in
    let did = quiet true c.close.result (acting.close {Reply = reply} x.config x.state) x c.close.new.self sent c.close.ensures.did in
    record { did = subst (λ k. NodeDid (act_grows x.config k x.state) c.close.result (acting.deed_of g.A.App.meaning x.config k x.state) x c.close.new.self sent sent) (sym c.in-Close.is) did }

pub returns-in-Merge : goal.returns-in-Merge
returns-in-Merge g c =
    let x = c.args.self.now in
    let reply = g.row.A-Reply.Denot in
    let sent = c.args.outbox.now.packets in
    let did = quiet (act_grows x.config Merge x.state) c.merge.result (acting.merge {Reply = reply} x.config x.state) x c.merge.new.self sent c.merge.ensures.did in
    record { did = subst (λ k. NodeDid (act_grows x.config k x.state) c.merge.result (acting.deed_of g.A.App.meaning x.config k x.state) x c.merge.new.self sent sent) (sym c.in-Merge.is) did }

pub returns-in-Lock : goal.returns-in-Lock
returns-in-Lock g c =
    let x = c.args.self.now in
    let reply = g.row.A-Reply.Denot in
    let sent = c.args.outbox.now.packets in
    let did = quiet (act_grows x.config Lock x.state) c.lock_next.result (acting.lock {Reply = reply} x.config x.state) x c.lock_next.new.self sent c.lock_next.ensures.did in
    record { did = subst (λ k. NodeDid (act_grows x.config k x.state) c.lock_next.result (acting.deed_of g.A.App.meaning x.config k x.state) x c.lock_next.new.self sent sent) (sym c.in-Lock.is) did }

pub returns-in-Restart : goal.returns-in-Restart
returns-in-Restart g c =
    let x = c.args.self.now in
    let reply = g.row.A-Reply.Denot in
    let sent = c.args.outbox.now.packets in
    let did = quiet (act_grows x.config Restart x.state) c.restart.result (acting.restart {Reply = reply} x.state) x c.restart.new.self sent c.restart.ensures.did in
    record { did = subst (λ k. NodeDid (act_grows x.config k x.state) c.restart.result (acting.deed_of g.A.App.meaning x.config k x.state) x c.restart.new.self sent sent) (sym c.in-Restart.is) did }

pub returns-in-Propose : goal.returns-in-Propose
returns-in-Propose g c =
    let x = c.args.self.now in
    let sent = c.args.outbox.now.packets in
    record { did = subst (λ k. NodeDid (act_grows x.config k x.state) c.propose.result (acting.deed_of g.A.App.meaning x.config k x.state) x c.propose.new.self sent c.propose.new.outbox.packets) (sym c.in-Propose.is) c.propose.ensures.did }

pub returns-in-Mark : goal.returns-in-Mark
returns-in-Mark g c =
    let x = c.args.self.now in
    let reply = g.row.A-Reply.Denot in
    let sent = c.args.outbox.now.packets in
    let did = quiet false c.mark.result (acting.mark_end {Reply = reply} x.config c.in-Mark.epoch x.state) x c.mark.new.self sent c.mark.ensures.did in
    record { did = subst (λ k. NodeDid (act_grows x.config k x.state) c.mark.result (acting.deed_of g.A.App.meaning x.config k x.state) x c.mark.new.self sent sent) (sym c.in-Mark.is) did }

pub returns-in-Begin : goal.returns-in-Begin
returns-in-Begin g c =
    let x = c.args.self.now in
    let sent = c.args.outbox.now.packets in
    record { did = subst (λ k. NodeDid (act_grows x.config k x.state) c.begin.result (acting.deed_of g.A.App.meaning x.config k x.state) x c.begin.new.self sent c.begin.new.outbox.packets) (sym c.in-Begin.is) c.begin.ensures.did }

pub returns-in-AskForReads : goal.returns-in-AskForReads
returns-in-AskForReads g c =
    let x = c.args.self.now in
    let sent = c.args.outbox.now.packets in
    record { did = subst (λ k. NodeDid (act_grows x.config k x.state) c.ask_reads.result (acting.deed_of g.A.App.meaning x.config k x.state) x c.args.self.now sent c.ask_reads.new.outbox.packets) (sym c.in-AskForReads.is) c.ask_reads.ensures.did }

pub returns-in-AskForBatch : goal.returns-in-AskForBatch
returns-in-AskForBatch g c =
    let x = c.args.self.now in
    let sent = c.args.outbox.now.packets in
    record { did = subst (λ k. NodeDid (act_grows x.config k x.state) c.ask_batch.result (acting.deed_of g.A.App.meaning x.config k x.state) x c.args.self.now sent c.ask_batch.new.outbox.packets) (sym c.in-AskForBatch.is) c.ask_batch.ensures.did }
