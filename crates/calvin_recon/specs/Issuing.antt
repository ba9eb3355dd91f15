-- What an issuer does after an answer (Thomson et al. 2012, section 3.2.1: a request whose sets turned out stale is
-- restarted). The number of attempts is of this project.
--     again txn sets      the next attempt at a request, with these sets
--     after txn answer sets      nothing where it was run; else the next attempt, or no more after the eighth
--     issued txn answer sets      the last attempt from then on
use Rattle.std.specs.Prelude.{◌+◌, ◌==◌, if◌then◌else◌, Result, Ok, Err}
use Rattle.calvin_types.specs.declared.key_set.Sets.{Sets}
use Rattle.calvin_types.specs.declared.txn.Txn.{Txn}
use Rattle.calvin_types.specs.declared.fault.Fault.{Fault}
use Rattle.calvin_types.specs.declared.fault.Fault.TheVariants.{TooManyTries}
use Rattle.calvin_types.specs.declared.limits.TheConstants.{MOST_ATTEMPTS}
use Rattle.calvin_app.specs.declared.answer.Answer.{Answer}
use Rattle.calvin_app.specs.declared.answer.Answer.TheVariants as answer
use Rattle.calvin_recon.specs.declared.issuer.Next.{Next}
use Rattle.calvin_recon.specs.declared.issuer.Next.TheVariants.{Done, Again}

abbrev pub again : {Args : Type 0} → Txn Args → Sets → Txn Args
again t sets = record { id = t.id; attempt = t.attempt + 1; args = t.args; sets = sets }

abbrev pub after : {Args Reply : Type 0} → Txn Args → Answer Reply → Sets → Result (Next Args) Fault
after t (answer.Reply r) sets = Ok Done
after t answer.Changed sets = if t.attempt == MOST_ATTEMPTS then Err TooManyTries else Ok (Again (again t sets))

abbrev pub issued : {Args Reply : Type 0} → Txn Args → Answer Reply → Sets → Txn Args
issued t (answer.Reply r) sets = t
issued t answer.Changed sets = again t sets
