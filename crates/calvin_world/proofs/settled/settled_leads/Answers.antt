-- From the laws of each event.
use Rattle.calvin_world.proofs.SettledEvents.{opening_settled, settled_leads, settled_later, leads_settled}
use Rattle.calvin_world.proofs.settled.settled_leads.Goals as goal

pub returns-clause-opening : goal.returns-clause-opening
returns-clause-opening g c = λ k. opening_settled k

pub returns-clause-leads : goal.returns-clause-leads
returns-clause-leads g c = λ m k events outcomes v leads. settled_leads m k events outcomes v leads

pub returns-clause-later : goal.returns-clause-later
returns-clause-later g c = λ m k earlier outcomes w leads later more v h. settled_later m k earlier outcomes w leads later more v h

pub returns-clause-reaches : goal.returns-clause-reaches
returns-clause-reaches g c = λ m k events outcomes w leads. leads_settled m k events outcomes w leads
