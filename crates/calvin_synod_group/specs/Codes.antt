-- How a proof tells the packets and the data of a group apart: by numbers, lists and pairs.
use Rattle.std.specs.Prelude.{ℕ, List, refl}
use Rattle.std.specs.Coded.{Coded, code_by, coded×, coded_ℕ, coded_list}
use Rattle.calvin_synod.specs.declared.message.Message.{Message}
use Rattle.calvin_synod.specs.Cases.{Replica}
use Rattle.calvin_synod.specs.MessageCodes.{coded_message, coded_replica}
use Rattle.calvin_synod_group.specs.declared.packet.Packet.{Packet}
use Rattle.calvin_synod_group.specs.Groups.{GroupState}

module _ {B : Type 0} (batch : Coded B) where
  abbrev pub coded_packet : Coded (Packet B)
  coded_packet = code_by ((ℕ × ℕ) × Message B) (coded× (coded× coded_ℕ coded_ℕ) (coded_message batch))
      (λ p. ((p.from, p.to), p.message)) (λ p. record { from = p.0.0; to = p.0.1; message = p.1 }) (λ _. refl)

  abbrev pub coded_group : Coded (GroupState B)
  coded_group = code_by (List (Replica B) × List (Packet B)) (coded× (coded_list (coded_replica batch)) (coded_list coded_packet))
      (λ w. (w.replicas, w.packets)) (λ p. record { replicas = p.0; packets = p.1 }) (λ _. refl)
