-- What a replica's part in the synods sends, with what it is asked to do.
use Rattle.std.proofs.Common.{◌≡◌, ℕ, Bool, true, false, cond, List, ◌++◌, length, take, Option, None, Ok, Err, refl, sym, ap, ◌∙◌}
use Rattle.std.proofs.lemmas.List.{append-nil}
use Rattle.std.proofs.Math.Seq.{take-append_seam}
use Rattle.calvin_types.specs.declared.fault.Fault.{Fault}
use Rattle.calvin_types.specs.declared.fault.Fault.TheVariants.{RoundsSpent}
use Rattle.calvin_types.specs.declared.place.NodeId.{NodeId}
use Rattle.calvin_types.specs.declared.place.Slot.{Slot}
use Rattle.calvin_synod.specs.declared.mail.Mail.{Mail}
use Rattle.calvin_synod.specs.declared.message.Message.TheVariants.{Prepare}
use Rattle.calvin_synod.specs.Cases as synod
use Rattle.calvin_synod.specs.Deeds.{MemberState, letters_of, Sends, Did}
use Rattle.calvin_synod.specs.Roles.{started, next_ballot}
use Rattle.calvin_order.specs.Merged.{Batch}
use Rattle.calvin_node_packets.specs.declared.packet.Packet.{Packet}
use Rattle.calvin_node_packets.specs.Packets.{synod_packets, telling}
use Rattle.calvin_node_packets.specs.Letters.{MemberSent, given_by}

-- a new ballot gives no batch
pub none_begun : {B : Type 0} (me : ℕ) (slot : Slot) (batch : B) (x : synod.Replica B) → given_by (synod.propose me slot batch x) ≡ None
none_begun {B} me slot batch x = go (synod.has_round x)
  where
    go : (b : Bool) → given_by {B = B} (cond b (synod.Does (record x { proposer = started me x.proposer slot batch }) (synod.ToAll (Prepare slot (next_ballot me x.proposer))) None) (synod.Refuses RoundsSpent)) ≡ None
    go true = refl
    go false = refl

module _ {Args Row Reply : Type 0} (replicas parts : ℕ) (me : NodeId) (m : MemberState (Batch Args)) (sent : List (Packet Args Row Reply)) (tells grows : Bool) where
  -- what was sent is taken back
  pub not_taken : (d : synod.Deed (Batch Args)) (mail : Mail (Batch Args)) (e : Fault) (after : MemberState (Batch Args)) → Sends tells (Ok mail) d → Did grows (Err e) d m after → (more all now : List (Packet Args Row Reply)) → all ≡ sent ++ more → (n : ℕ) → n ≡ length sent → now ≡ take n all
      → MemberSent grows (Err e) d replicas parts me m after sent now
  not_taken (synod.Refuses f) mail e after h did more all now says n is back = absurd h
  not_taken (synod.Does s letters given) mail e after h did more all now says n is back = (did.0, did.1, did.2, back ∙ (λ i. take (is i) (says i)) ∙ take-append_seam sent more)

  -- no batch is decided
  pub taken : (d : synod.Deed (Batch Args)) (mail : Mail (Batch Args)) (gave : Option (Slot × Batch Args)) (after : MemberState (Batch Args)) → given_by d ≡ None → Sends tells (Ok mail) d → Did grows (Ok gave) d m after
      → (all : List (Packet Args Row Reply)) → all ≡ sent ++ synod_packets replicas me (letters_of mail) → MemberSent grows (Ok gave) d replicas parts me m after sent all
  taken (synod.Refuses f) mail gave after none h did all says = absurd h
  taken (synod.Does s letters given) mail gave after none h did all says = (
    did.0,
    did.1,
    says
        ∙ ap (λ l. sent ++ synod_packets replicas me l) h
        ∙ ap (λ ps. sent ++ ps) (sym (append-nil (synod_packets replicas me letters)))
        ∙ (λ i. sent ++ (synod_packets replicas me letters ++ telling parts me (sym none i))),
  )
