-- The reply to a request, among packets in the order in which they were sent.
--     reply_in id attempt content      the place and the answer, where it is a reply to the request
--     first_reply id attempt packets      those of the first one
use Rattle.std.specs.Prelude.{ℕ, ◌==◌, ◌&&◌, if◌then◌else◌, List, [], ◌∷◌, Option, Some, None}
use Rattle.calvin_types.specs.declared.place.Place.{Place}
use Rattle.calvin_types.specs.declared.place.RequestId.{RequestId}
use Rattle.calvin_app.specs.declared.answer.Answer.{Answer}
use Rattle.calvin_node_packets.specs.declared.packet.Content.{Content}
use Rattle.calvin_node_packets.specs.declared.packet.Content.TheVariants.{Replies}
use Rattle.calvin_node_packets.specs.declared.packet.Packet.{Packet}

-- the first one, or else the later one
abbrev pub or_later : {X : Type 0} → Option X → Option X → Option X
or_later (Some x) later = Some x
or_later None later = later

module _ {Args Row Reply : Type 0} (id : RequestId) (attempt : ℕ) where
  abbrev pub reply_in : Content Args Row Reply → Option (Place × Answer Reply)
  reply_in (Replies q name tried answer) = if name.client == id.client && name.number == id.number && tried == attempt then Some (q, answer) else None
  reply_in _ = None

  abbrev pub first_reply : List (Packet Args Row Reply) → Option (Place × Answer Reply)
  first_reply [] = None
  first_reply (p ∷ packets) = or_later (reply_in p.content) (first_reply packets)
