-- What the world says is to be run there.
use Rattle.std.proofs.Common.{ap, ◌∙◌}
use Rattle.calvin_world.specs.Jobs.{job_of}
use Rattle.calvin_world.specs.Worlds.{WorldState}
use Rattle.calvin_book.proofs.Keeping.{after_is}
use Rattle.calvin_book.proofs.book.Book.job.Goals as goal

pub returns : goal.returns
returns g c = c.job.ensures ∙ ap (λ (w : WorldState g.row.A-Args.Denot g.row.A-Row.Denot g.row.A-Reply.Denot). job_of w c.args.id c.args.place) (after_is g.A.App.meaning c.self.inside.world c.self.inside.events.items c.self.invariant.0 c.args.self.now c.self.view_is)
