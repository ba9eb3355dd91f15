-- What a pass leads to.
--     delivered_quiet      a packet that comes again
--     redelivered_lead, repeated_lead      packets that come again, from the greatest number down
--     pass_leads, passes_lead, some_passes      a pass, and several; the last of them
use Rattle.std.proofs.Common.{◌≡◌, ◌≤◌, ℕ, zero, suc, arith, Bool, true, false, not, length, slice_get, Option, Some, None, refl, sym, subst}
use Rattle.std.proofs.lemmas.Bool.{false≢true, and_parts}
use Rattle.calvin_app.specs.Meaning.{Meaning}
use Rattle.calvin_node_packets.specs.declared.packet.Packet.{Packet}
use Rattle.calvin_world.specs.declared.event.Event.TheVariants.{Deliver}
use Rattle.calvin_world.specs.Worlds.{WorldState}
use Rattle.calvin_sim_events.specs.declared.schedule.Restarts.TheVariants.{Never}
use Rattle.calvin_sim_events.specs.Quiet.{is_of_lost, LeadsQuietly}
use Rattle.calvin_sim_events.specs.Passes.{is_for_node, is_packet_due, is_due, IsDelivered, IsRedelivery, Redelivers, Repeats, IsPass, Passes}
use Rattle.calvin_sim_events.proofs.Leading.{quiet_here, quiet_step, quiet_then}

-- a packet that is due isn't lost
pub due_kept : {Args Row Reply : Type 0} (lost : ℕ → Bool) (o : Option (Packet Args Row Reply)) → is_packet_due lost o ≡ true → is_of_lost lost o ≡ false
due_kept lost None is = refl
due_kept lost (Some p) is = no (lost p.from.replica) (and_parts (is_for_node p.to) (not (lost p.from.replica)) is).1
  where
    no : (b : Bool) → not b ≡ true → b ≡ false
    no true is = absurd (false≢true is)
    no false is = refl

module _ {Args Row Reply : Type 0} (m : Meaning Args Row Reply) (lost : ℕ → Bool) where
  pub delivered_quiet : (number : ℕ) (w v : WorldState Args Row Reply) → IsRedelivery m lost number w v → LeadsQuietly m Never lost w v
  delivered_quiet number w v = go (is_due lost w.packets number) refl
    where
      go : (b : Bool) → is_due lost w.packets number ≡ b → IsDelivered m number b w v → LeadsQuietly m Never lost w v
      go true due it = quiet_step m Never lost w v (Deliver number) it.0 refl (due_kept lost (slice_get w.packets number) due) it.1 it.2
      go false due it = subst (λ u. LeadsQuietly m Never lost w u) (sym it) (quiet_here m Never lost w)

  pub redelivered_lead : (n : ℕ) (w v : WorldState Args Row Reply) → Redelivers m lost n w v → LeadsQuietly m Never lost w v
  redelivered_lead zero w v it = subst (λ u. LeadsQuietly m Never lost w u) (sym it) (quiet_here m Never lost w)
  redelivered_lead (suc n) w v it = quiet_then m Never lost w it.0 v (delivered_quiet n w it.0 it.1) (redelivered_lead n it.0 v it.2)

  pub repeated_lead : (repeats : Bool) (n : ℕ) (w v : WorldState Args Row Reply) → Repeats m repeats lost n w v → LeadsQuietly m Never lost w v
  repeated_lead true n w v it = redelivered_lead n w v it
  repeated_lead false n w v it = subst (λ u. LeadsQuietly m Never lost w u) (sym it) (quiet_here m Never lost w)

  pub pass_leads : (repeats : Bool) (w v : WorldState Args Row Reply) → IsPass m repeats lost w v → LeadsQuietly m Never lost w v
  pass_leads repeats w v it = quiet_then m Never lost w it.moved v it.moves (quiet_then m Never lost it.moved it.repeated v (repeated_lead repeats (length w.packets) it.moved it.repeated it.again) it.asks)

  pub passes_lead : (repeats : Bool) (n : ℕ) (w v : WorldState Args Row Reply) → Passes m repeats lost n w v → LeadsQuietly m Never lost w v
  passes_lead repeats zero w v it = subst (λ u. LeadsQuietly m Never lost w u) (sym it) (quiet_here m Never lost w)
  passes_lead repeats (suc n) w v it = quiet_then m Never lost w it.0 v (passes_lead repeats n w it.0 it.1) (pass_leads repeats it.0 v it.2)

  -- where there are some, one is the last
  pub some_passes : (repeats : Bool) (n : ℕ) (w v : WorldState Args Row Reply) → 1 ≤ n → Passes m repeats lost n w v → (more : ℕ) × Passes m repeats lost (suc more) w v
  some_passes repeats zero w v some it = absurd (omega (arith, some))
  some_passes repeats (suc n) w v some it = (n, it)
