use Rattle.std.proofs.Common.{subst, arith}
use Rattle.calvin_sched.specs.Sites.{IsLeastOf}
use Rattle.calvin_sched.proofs.Marks.{least_of_first, least_of_second}
use Rattle.calvin_sched.proofs.sites.lesser.Goals as goal

pub returns-then-y-x : goal.returns-then-y-x
returns-then-y-x c partitions xs ys a b =
    least_of_second partitions xs ys c.in-Some.x c.in-Some-b.y (subst (IsLeastOf partitions xs) c.in-Some.is a) (subst (IsLeastOf partitions ys) c.in-Some-b.is b) (omega arith)

pub returns-else-y-x : goal.returns-else-y-x
returns-else-y-x c partitions xs ys a b =
    least_of_first partitions xs ys c.in-Some.x c.in-Some-b.y (subst (IsLeastOf partitions xs) c.in-Some.is a) (subst (IsLeastOf partitions ys) c.in-Some-b.is b) (omega arith)
