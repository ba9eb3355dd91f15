-- Each clause is a lemma on all lists of events.
use Rattle.calvin_synod_group.proofs.Runs.{leads_through, given_is_chosen, one_chosen, given_alike, chosen_stays}
use Rattle.calvin_synod_group.proofs.law.agrees.Goals as goal

pub returns-clause-beginnings : goal.returns-clause-beginnings
returns-clause-beginnings g c = leads_through

pub returns-clause-given : goal.returns-clause-given
returns-clause-given g c = given_is_chosen

pub returns-clause-one : goal.returns-clause-one
returns-clause-one g c = one_chosen

pub returns-clause-alike : goal.returns-clause-alike
returns-clause-alike g c = given_alike

pub returns-clause-stays : goal.returns-clause-stays
returns-clause-stays g c = chosen_stays
