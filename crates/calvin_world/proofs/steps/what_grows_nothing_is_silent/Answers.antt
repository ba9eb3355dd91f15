-- From the cases of acts and messages.
use Rattle.calvin_world.proofs.Cases.{acts_does, handle_content_does}
use Rattle.calvin_world.proofs.Growing.{acts_silent, content_silent}
use Rattle.calvin_world.proofs.steps.what_grows_nothing_is_silent.Goals as goal

pub returns-clause-acts : goal.returns-clause-acts
returns-clause-acts g c = λ m k x next sent act h e. acts_silent m k x next sent act h (acts_does k x next sent m act e)

pub returns-clause-packets : goal.returns-clause-packets
returns-clause-packets g c = λ m k x next sent from content h e. content_silent m k x next sent from content h (handle_content_does k x next sent m from content e)
