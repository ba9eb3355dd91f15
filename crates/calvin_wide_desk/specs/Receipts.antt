-- What receipts say of the histories of a store's nodes. It stays true however these go on. The notions are of this project.
--     IsEntry history s      the entry of this number submits the submission's request
--     HasSent m c id history number p      what the node's history makes of it has sent this packet after so many others
--     IsAnswerTo s content answer      the content is this answer to the submission's request
--     IsReply m c history a      its node, of the replica of the submission's node, has sent this answer to the submission's request under this name
--     IsEnteredIn parts histories s      the same of its node's history among all
--     IsRepliedIn m c histories a      and of the sender's
use Rattle.std.specs.Prelude.{◌≡◌, ℕ, List, Some, slice_get}
use Rattle.calvin_types.specs.declared.place.NodeId.{NodeId}
use Rattle.calvin_types.specs.declared.place.Place.{Place}
use Rattle.calvin_app.specs.declared.answer.Answer.{Answer}
use Rattle.calvin_app.specs.Meaning.{Meaning}
use Rattle.calvin_order.specs.Configs.{Config}
use Rattle.calvin_node_packets.specs.declared.packet.Packet.{Packet}
use Rattle.calvin_node_packets.specs.declared.packet.Content.{Content}
use Rattle.calvin_node_acts.specs.declared.act.Act.TheVariants.{Submit}
use Rattle.calvin_world.specs.Worlds.{index_of}
use Rattle.calvin_book.specs.Replies.{reply_in}
use Rattle.calvin_histories.specs.declared.entry.Entry.{Entry}
use Rattle.calvin_histories.specs.declared.entry.Entry.TheVariants.{Own}
use Rattle.calvin_histories.specs.Histories.{Life, new_life, life_of}
use Rattle.calvin_wide_desk.specs.declared.receipt.Entered.{Entered}
use Rattle.calvin_wide_desk.specs.declared.receipt.Replied.{Replied}

module _ {Args Row Reply : Type 0} where
  abbrev pub IsEntry : List (Entry Args Row Reply) → Entered Args → Type 0
  IsEntry history s = slice_get history s.entry ≡ Some (Own (Submit s.txn))

  abbrev pub IsAnswerTo : Entered Args → Content Args Row Reply → Answer Reply → Type 0
  IsAnswerTo s content answer = (place : Place) × (reply_in s.txn.id s.txn.attempt content ≡ Some (place, answer))

  pub record IsEnteredIn (parts : ℕ) (histories : List (List (Entry Args Row Reply))) (s : Entered Args) : Type 0 where
    pub history : List (Entry Args Row Reply)
    pub of_node : slice_get histories (index_of parts s.node) ≡ Some history
    pub entry : IsEntry history s

  module _ (m : Meaning Args Row Reply) (c : Config) where
    pub record HasSent (id : NodeId) (history : List (Entry Args Row Reply)) (number : ℕ) (p : Packet Args Row Reply) : Type 0 where
      pub life : Life Args Row Reply
      pub lived : life_of m c (new_life id) history ≡ Some life
      pub sent : slice_get life.sent number ≡ Some p

    pub record IsReply (history : List (Entry Args Row Reply)) (a : Replied Args Reply) : Type 0 where
      pub replica : a.name.sender.replica ≡ a.ticket.node.replica
      pub packet : Packet Args Row Reply
      pub sent : HasSent a.name.sender history a.name.number packet
      pub answers : IsAnswerTo a.ticket packet.content a.answer

    pub record IsRepliedIn (histories : List (List (Entry Args Row Reply))) (a : Replied Args Reply) : Type 0 where
      pub history : List (Entry Args Row Reply)
      pub of_node : slice_get histories (index_of c.partitions a.name.sender) ≡ Some history
      pub reply : IsReply history a
