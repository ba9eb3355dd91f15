-- Which messages need no memory.
use Rattle.std.proofs.Common.{◌≡◌, ℕ, Bool, true, false, cond, refl, Ok, Option, None}
use Rattle.std.specs.Prelude.{nat_lt, max}
use Rattle.calvin_types.specs.declared.fault.Fault.TheVariants.{NotCurrent}
use Rattle.calvin_synod.specs.declared.mail.Mail.{Mail}
use Rattle.calvin_synod.specs.declared.message.Message.{Message}
use Rattle.calvin_synod.specs.declared.message.Message.TheVariants.{Prepare, Promise, Accept, Refused, Accepted}
use Rattle.calvin_synod.specs.Roles.{refused_at}
use Rattle.calvin_synod.specs.Cases.{message_grows, Replica, Silent, Refuses, Does, handle}
use Rattle.calvin_synod.specs.Deeds.{letters_of, Sends}

-- a message that is answered by one grows something
pub answered_grows : {B : Type 0} (grows : Bool) (size from : ℕ) (m : Message B) (x : Replica B) (mail : Mail B) → Sends grows (Ok mail) (handle size from m x) → (letters_of mail ≡ Silent → ⊥) → message_grows m ≡ true
answered_grows grows size from (Prepare slot ballot) x mail sends speaks = refl
answered_grows grows size from (Promise slot ballot vote) x mail sends speaks = refl
answered_grows grows size from (Accept slot ballot batch) x mail sends speaks = refl
answered_grows {B} grows size from (Refused slot ballot promise) x mail sends speaks = absurd (go (nat_lt (max x.proposer.used x.proposer.seen) promise.round) sends)
  where
    go : (c : Bool) → Sends grows (Ok mail) (cond c (Does (record x { proposer = refused_at x.proposer promise }) Silent None) (Refuses NotCurrent)) → ⊥
    go true sends = speaks sends
    go false sends = sends
answered_grows grows size from (Accepted slot ballot batch) x mail sends speaks = refl
