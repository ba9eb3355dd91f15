-- How what a replica is asked for ends, by the deed that its case states. The notion is of this project: a refusal changes
-- nothing, and want of memory comes only where something grows.
--     MemberState B      one replica of a group: the group's size, its number, and its data
--     RecordState B      what of a replica outlives a restart: its promises and votes, and the greatest round used
--     IsMember      its roles are those of that size and number
--     letters_of mail      what is sent, as a deed has it
--     Sends grows result deed      what is sent by a deed that takes effect, else its refusal; or memory runs out, where something grows
--     Did grows result deed m after      a deed takes effect on a replica, else its refusal and nothing changes; or memory runs out, where something grows, and nothing changes
use Rattle.std.specs.Prelude.{◌≡◌, ℕ, Bool, true, Option, Result, Ok, Err}
use Rattle.calvin_types.specs.declared.fault.Fault.{Fault}
use Rattle.calvin_types.specs.declared.fault.Fault.TheVariants.{OutOfMemory}
use Rattle.calvin_types.specs.declared.place.Slot.{Slot}
use Rattle.calvin_synod.specs.declared.mail.Mail.{Mail}
use Rattle.calvin_synod.specs.declared.mail.Mail.TheVariants as mail
use Rattle.calvin_synod.specs.Cases.{Replica, Letters, Silent, ToOne, ToAll, Deed, Refuses, Does}
use Rattle.calvin_synod.specs.Roles.{Records}
use Rattle.calvin_synod.specs.States.{ProposerState, LearnerState}

pub record MemberState (B : Type 0) : Type 0 where
  pub size : ℕ
  pub me : ℕ
  pub replica : Replica B

pub record RecordState (B : Type 0) : Type 0 where
  pub acceptor : Records B
  pub used : ℕ

pub record IsMember {B : Type 0} (size : ℕ) (me : ℕ) (proposer : ProposerState B) (learner : LearnerState) : Type 0 where
  pub proposer_of : proposer.replicas ≡ size
  pub own : proposer.replica ≡ me
  pub learner_of : learner.replicas ≡ size

module _ {B : Type 0} where
  abbrev pub letters_of : Mail B → Letters B
  letters_of mail.Nothing = Silent
  letters_of (mail.ToOne to message) = ToOne to message
  letters_of (mail.ToAll message) = ToAll message

  abbrev pub Sends : Bool → Result (Mail B) Fault → Deed B → Type 0
  Sends grows (Ok mail) (Refuses fault) = ⊥
  Sends grows (Ok mail) (Does x letters given) = letters_of mail ≡ letters
  Sends grows (Err refusal) (Refuses fault) = refusal ≡ fault
  Sends grows (Err refusal) (Does x letters given) = (grows ≡ true) × (refusal ≡ OutOfMemory)

  abbrev pub Did : Bool → Result (Option (Slot × B)) Fault → Deed B → MemberState B → MemberState B → Type 0
  Did grows (Ok gave) (Refuses fault) m after = ⊥
  Did grows (Ok gave) (Does x letters given) m after = (gave ≡ given) × (after ≡ record m { replica = x })
  Did grows (Err refusal) (Refuses fault) m after = (refusal ≡ fault) × (after ≡ m)
  Did grows (Err refusal) (Does x letters given) m after = (grows ≡ true) × (refusal ≡ OutOfMemory) × (after ≡ m)
