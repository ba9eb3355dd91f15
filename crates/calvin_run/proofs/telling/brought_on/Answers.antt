-- What is handed to the store may go to its threads; an entry fits in memory; how the list goes on, and what is refused.
use denote.Memory.{lone}
use denote.Param.Send.{param_send, param_sync, copied_send, copied_sync, sendable}
use Rattle.std.proofs.Common.{◌*◌, refl, false}
use Rattle.calvin_histories.proofs.EntrySizes.{an_entry}
use Rattle.calvin_run.proofs.AtNodes.{by_wide, by_plain, only_by, only_wide}
use Rattle.calvin_run.proofs.telling.brought_on.Lts.{arg-1-3, arg-1-4}
use Rattle.calvin_run.proofs.telling.brought_on.Goals as goal

pub bring_on_wide-requires-send-A : goal.bring_on_wide-requires-send-A
bring_on_wide-requires-send-A g c κs within = copied_send 0 _ c.type_bounds.send-A

pub bring_on_wide-requires-sync-A : goal.bring_on_wide-requires-sync-A
bring_on_wide-requires-sync-A g c κs within = copied_sync 0 _ c.type_bounds.sync-A

pub bring_on_wide-requires-send-L : goal.bring_on_wide-requires-send-L
bring_on_wide-requires-send-L g c κs within = param_send 1 _ c.type_bounds.send-L

pub bring_on_wide-requires-send-S : goal.bring_on_wide-requires-send-S
bring_on_wide-requires-send-S g c κs within = param_send 2 _ c.type_bounds.send-S

pub bring_on_wide-requires-send-R : goal.bring_on_wide-requires-send-R
bring_on_wide-requires-send-R g c κs within = copied_send 5 _ c.type_bounds.send-R

pub bring_on_wide-requires-sync-R : goal.bring_on_wide-requires-sync-R
bring_on_wide-requires-sync-R g c κs within = copied_sync 5 _ c.type_bounds.sync-R

pub bring_on_wide-requires-send-A-Args : goal.bring_on_wide-requires-send-A-Args
bring_on_wide-requires-send-A-Args g c κs within = copied_send 6 _ c.type_bounds.send-A-Args

pub bring_on_wide-requires-sync-A-Args : goal.bring_on_wide-requires-sync-A-Args
bring_on_wide-requires-sync-A-Args g c κs within = copied_sync 6 _ c.type_bounds.sync-A-Args

pub bring_on_wide-requires-send-A-Row : goal.bring_on_wide-requires-send-A-Row
bring_on_wide-requires-send-A-Row g c κs within = copied_send 7 _ c.type_bounds.send-A-Row

pub bring_on_wide-requires-sync-A-Row : goal.bring_on_wide-requires-sync-A-Row
bring_on_wide-requires-sync-A-Row g c κs within = copied_sync 7 _ c.type_bounds.sync-A-Row

pub bring_on_wide-requires-send-A-Reply : goal.bring_on_wide-requires-send-A-Reply
bring_on_wide-requires-send-A-Reply g c κs within = copied_send 8 _ c.type_bounds.send-A-Reply

pub bring_on_wide-requires-sync-A-Reply : goal.bring_on_wide-requires-sync-A-Reply
bring_on_wide-requires-sync-A-Reply g c κs within = copied_sync 8 _ c.type_bounds.sync-A-Reply

pub bring_on_wide-requires-send-G : goal.bring_on_wide-requires-send-G
bring_on_wide-requires-send-G g c κs within = param_send 3 (arg-1-3 g.row.A g.row.L g.row.S g.row.G g.row.R g.row.A-Args g.row.A-Row g.row.A-Reply g.A.laws g.L.laws g.S.laws g.G.laws g.R.laws g.A.Args.laws g.A.Row.laws g.A.Reply.laws g.A.copy g.R.copy g.A.Args.copy g.A.Row.copy g.A.Reply.copy g.A.App g.A.App-dict g.A.Args.Clone g.A.Args.Clone-dict g.A.Args.Eq g.A.Args.Eq-dict g.A.Args.PartialEq g.A.Args.PartialEq-dict g.A.Row.Clone g.A.Row.Clone-dict g.A.Row.Eq g.A.Row.Eq-dict g.A.Row.PartialEq g.A.Row.PartialEq-dict g.A.Reply.Clone g.A.Reply.Clone-dict g.A.Reply.Eq g.A.Reply.Eq-dict g.A.Reply.PartialEq g.A.Reply.PartialEq-dict g.A.Clone g.A.Clone-dict g.L.Locks g.L.Locks-dict g.S.Rows g.S.Rows-dict g.G.Gate g.G.Gate-dict g.R.Threads g.R.Threads-dict g.R.Wait g.R.Wait-dict g.R.Clone g.R.Clone-dict g.L.Destruct-dict g.S.Destruct-dict g.G.Destruct-dict κs) (let s = c.type_bounds.send-G in search sendable)

pub bring_on_wide-requires-sync-G : goal.bring_on_wide-requires-sync-G
bring_on_wide-requires-sync-G g c κs within = param_sync 3 (arg-1-3 g.row.A g.row.L g.row.S g.row.G g.row.R g.row.A-Args g.row.A-Row g.row.A-Reply g.A.laws g.L.laws g.S.laws g.G.laws g.R.laws g.A.Args.laws g.A.Row.laws g.A.Reply.laws g.A.copy g.R.copy g.A.Args.copy g.A.Row.copy g.A.Reply.copy g.A.App g.A.App-dict g.A.Args.Clone g.A.Args.Clone-dict g.A.Args.Eq g.A.Args.Eq-dict g.A.Args.PartialEq g.A.Args.PartialEq-dict g.A.Row.Clone g.A.Row.Clone-dict g.A.Row.Eq g.A.Row.Eq-dict g.A.Row.PartialEq g.A.Row.PartialEq-dict g.A.Reply.Clone g.A.Reply.Clone-dict g.A.Reply.Eq g.A.Reply.Eq-dict g.A.Reply.PartialEq g.A.Reply.PartialEq-dict g.A.Clone g.A.Clone-dict g.L.Locks g.L.Locks-dict g.S.Rows g.S.Rows-dict g.G.Gate g.G.Gate-dict g.R.Threads g.R.Threads-dict g.R.Wait g.R.Wait-dict g.R.Clone g.R.Clone-dict g.L.Destruct-dict g.S.Destruct-dict g.G.Destruct-dict κs) (let s = c.type_bounds.sync-G in search sendable)

pub bring_on_wide-requires-send-J : goal.bring_on_wide-requires-send-J
bring_on_wide-requires-send-J g c κs within = param_send 4 (arg-1-4 g.row.A g.row.L g.row.S g.row.G g.row.R g.row.A-Args g.row.A-Row g.row.A-Reply g.A.laws g.L.laws g.S.laws g.G.laws g.R.laws g.A.Args.laws g.A.Row.laws g.A.Reply.laws g.A.copy g.R.copy g.A.Args.copy g.A.Row.copy g.A.Reply.copy g.A.App g.A.App-dict g.A.Args.Clone g.A.Args.Clone-dict g.A.Args.Eq g.A.Args.Eq-dict g.A.Args.PartialEq g.A.Args.PartialEq-dict g.A.Row.Clone g.A.Row.Clone-dict g.A.Row.Eq g.A.Row.Eq-dict g.A.Row.PartialEq g.A.Row.PartialEq-dict g.A.Reply.Clone g.A.Reply.Clone-dict g.A.Reply.Eq g.A.Reply.Eq-dict g.A.Reply.PartialEq g.A.Reply.PartialEq-dict g.A.Clone g.A.Clone-dict g.L.Locks g.L.Locks-dict g.S.Rows g.S.Rows-dict g.G.Gate g.G.Gate-dict g.R.Threads g.R.Threads-dict g.R.Wait g.R.Wait-dict g.R.Clone g.R.Clone-dict g.L.Destruct-dict g.S.Destruct-dict g.G.Destruct-dict κs) (search sendable)

pub bring_on_wide-requires-sync-J : goal.bring_on_wide-requires-sync-J
bring_on_wide-requires-sync-J g c κs within = param_sync 4 (arg-1-4 g.row.A g.row.L g.row.S g.row.G g.row.R g.row.A-Args g.row.A-Row g.row.A-Reply g.A.laws g.L.laws g.S.laws g.G.laws g.R.laws g.A.Args.laws g.A.Row.laws g.A.Reply.laws g.A.copy g.R.copy g.A.Args.copy g.A.Row.copy g.A.Reply.copy g.A.App g.A.App-dict g.A.Args.Clone g.A.Args.Clone-dict g.A.Args.Eq g.A.Args.Eq-dict g.A.Args.PartialEq g.A.Args.PartialEq-dict g.A.Row.Clone g.A.Row.Clone-dict g.A.Row.Eq g.A.Row.Eq-dict g.A.Row.PartialEq g.A.Row.PartialEq-dict g.A.Reply.Clone g.A.Reply.Clone-dict g.A.Reply.Eq g.A.Reply.Eq-dict g.A.Reply.PartialEq g.A.Reply.PartialEq-dict g.A.Clone g.A.Clone-dict g.L.Locks g.L.Locks-dict g.S.Rows g.S.Rows-dict g.G.Gate g.G.Gate-dict g.R.Threads g.R.Threads-dict g.R.Wait g.R.Wait-dict g.R.Clone g.R.Clone-dict g.L.Destruct-dict g.S.Destruct-dict g.G.Destruct-dict κs) (search sendable)

pub opened_for-opened-requires : goal.opened_for-opened-requires
opened_for-opened-requires g c = an_entry (lone g.row.A-Args.mir) (lone g.row.A-Row.mir) (lone g.row.A-Reply.mir) (g.met.A.App g.world.𝓛 g.world.𝓜 g.world.𝓡 ((λ s x. x), (λ x. x), (λ x. x), λ x. x)).work_fits

pub bring_on_wide-requires-after_bounds : goal.bring_on_wide-requires-after_bounds
bring_on_wide-requires-after_bounds g c κs within = (an_entry (lone g.row.A-Args.mir) (lone g.row.A-Row.mir) (lone g.row.A-Reply.mir) (g.met.A.App g.world.𝓛 g.world.𝓜 g.world.𝓡 ((λ s x. x), (λ x. x), (λ x. x), λ x. x)).work_fits, ((refl, refl), (c.opened_for-opened.ensures, (refl, (c.args.team.now.some_worker, c.args.team.now.workers_at_most)))))

pub returns-then-team-clause-begins : goal.returns-then-team-clause-begins
returns-then-team-clause-begins g c = by_wide g.A.App.meaning c.args.book c.bring_on_wide.result _ c.if-team.true c.bring_on_wide.ensures.begins

pub returns-then-team-clause-only : goal.returns-then-team-clause-only
returns-then-team-clause-only g c = only_wide c.bring_on_wide.result _ c.if-team.true c.bring_on_wide.ensures.only

pub returns-else-team-clause-begins : goal.returns-else-team-clause-begins
returns-else-team-clause-begins g c = by_plain g.A.App.meaning c.args.book c.bring_on.result _ c.if-team.false c.bring_on.ensures.begins

pub returns-else-team-clause-only : goal.returns-else-team-clause-only
returns-else-team-clause-only g c = only_by c.bring_on.result _ false c.if-team.false c.bring_on.ensures.only
