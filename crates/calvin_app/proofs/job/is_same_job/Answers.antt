use Rattle.std.proofs.Common.{◌≡◌, MatchBool, sym, subst, ◌∙◌}
use Rattle.calvin_app.proofs.SameJob.{same_views, other_txn}
use Rattle.calvin_app.proofs.job.is_same_job.Goals as goal

pub returns-then-eq : goal.returns-then-eq
returns-then-eq g c =
    same_views g.A.Args.PartialEq.eq g.A.Row.PartialEq.eq c.args.one.now c.args.other.now g.met.A.App.args_exact g.met.A.App.rows_exact g.met.A.Row.Eq.laws (sym c.eq.ensures ∙ c.if-eq.true) c.is_same.result c.is_same.ensures

pub returns-else-eq : goal.returns-else-eq
returns-else-eq g c = λ place.
    subst (λ b. MatchBool b (c.args.one.now ≡ c.args.other.now) (c.args.one.now ≡ c.args.other.now → ⊥)) (sym c.if-eq.false)
    (other_txn g.A.Args.PartialEq.eq g.A.Row.PartialEq.eq c.args.one.now c.args.other.now g.met.A.Args.Eq.laws (sym c.eq.ensures ∙ c.if-eq.false))
