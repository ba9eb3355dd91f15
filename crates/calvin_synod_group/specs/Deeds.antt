-- How an event of one replica ends in its group. The notion is of this project.
--     IsGroup size members      they are all replicas of a group of that size, in order of their numbers
--     group_of members packets      the group of these replicas, with these packets
--     ended answer      the outcome of an event, by how its replica's step ended
--     Posted packets size me mail result after      what a replica sends is sent where its step took effect
use Rattle.std.specs.Prelude.{◌≡◌, ℕ, List, ◌++◌, map, length, Option, Some, Result, Ok, Err, slice_get}
use Rattle.calvin_types.specs.declared.fault.Fault.{Fault}
use Rattle.calvin_types.specs.declared.place.Slot.{Slot}
use Rattle.calvin_synod.specs.declared.mail.Mail.{Mail}
use Rattle.calvin_synod.specs.Deeds.{MemberState, letters_of}
use Rattle.calvin_synod_group.specs.declared.packet.Packet.{Packet}
use Rattle.calvin_synod_group.specs.declared.event.Outcome.{Outcome}
use Rattle.calvin_synod_group.specs.declared.event.Outcome.TheVariants as outcome
use Rattle.calvin_synod_group.specs.Groups.{GroupState, packets_of, outcome_of}

pub record IsGroup {B : Type 0} (size : ℕ) (members : List (MemberState B)) : Type 0 where
  pub all_there : length members ≡ size
  pub each : (i : ℕ) (m : MemberState B) → slice_get members i ≡ Some m → (m.size ≡ size) × (m.me ≡ i)

module _ {B : Type 0} where
  abbrev pub group_of : List (MemberState B) → List (Packet B) → GroupState B
  group_of members packets = record { replicas = map (λ m. m.replica) members; packets = packets }

  -- an event takes effect, with the batch that its replica's learner gives, if any, or is refused
  abbrev pub ended : Result (Option (Slot × B)) Fault → Outcome B
  ended (Ok given) = outcome_of given
  ended (Err fault) = outcome.Refused fault

  -- what is sent by a deed that takes effect is sent, else nothing
  abbrev pub Posted : List (Packet B) → ℕ → ℕ → Mail B → Result (Option (Slot × B)) Fault → List (Packet B) → Type 0
  Posted packets size me mail (Ok gave) after = after ≡ packets ++ packets_of size me (letters_of mail)
  Posted packets size me mail (Err refusal) after = after ≡ packets
