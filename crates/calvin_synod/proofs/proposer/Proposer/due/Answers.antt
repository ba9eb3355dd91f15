use Rattle.std.proofs.Common.{Some, None, [], ◌∷◌, ◌++◌, sym, ap, ◌∙◌}
use Rattle.std.specs.Option.{option_copied}
use Rattle.calvin_synod.specs.Roles as roles
use Rattle.calvin_synod.proofs.Reported.{due_is}
use Rattle.calvin_synod.proofs.proposer.Proposer.due.Goals as goal

pub returns-in-Some-highest-clause-due : goal.returns-in-Some-highest-clause-due
returns-in-Some-highest-clause-due g c =
    due_is c.args.self.now.replicas (roles.current c.args.self.now.proposing c.args.from c.args.slot c.args.ballot) c.in-Some.attempt.now c.args.from (option_copied c.args.vote) (sym c.in-Some.ensures)
    (sym c.is_enough.ensures ∙ c.if-not-is_enough.false) (Some c.in-Some-highest.vote.now)
    (c.in-Some-highest.ensures c.args.from ∙ ap (λ reports. roles.highest (reports ++ record { from = c.args.from; vote = option_copied c.args.vote } ∷ [])) c.as_slice.ensures)

pub returns-in-None-clause-due : goal.returns-in-None-clause-due
returns-in-None-clause-due g c =
    due_is c.args.self.now.replicas (roles.current c.args.self.now.proposing c.args.from c.args.slot c.args.ballot) c.in-Some.attempt.now c.args.from (option_copied c.args.vote) (sym c.in-Some.ensures)
    (sym c.is_enough.ensures ∙ c.if-not-is_enough.false) None
    (c.in-None.ensures c.args.from ∙ ap (λ reports. roles.highest (reports ++ record { from = c.args.from; vote = option_copied c.args.vote } ∷ [])) c.as_slice.ensures)
