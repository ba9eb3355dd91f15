use Rattle.calvin_sched.proofs.turns.number_near.Goals as goal

pub returns-then-is_at : goal.returns-then-is_at
returns-then-is_at g c = c.is_at.ensures.0 c.if-is_at.true

pub returns-then-is_at-2 : goal.returns-then-is_at-2
returns-then-is_at-2 g c = c.is_at-2.ensures.0 c.if-is_at-2.true
