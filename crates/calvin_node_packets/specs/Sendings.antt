-- What packets say, as they lie in an outbox.
use Rattle.calvin_node_packets.specs.declared.sent.Sent.{Sent}
use Rattle.calvin_node_packets.specs.declared.sent.Sent.TheVariants as sent
use Rattle.calvin_node_packets.specs.declared.packet.Content.{Content}
use Rattle.calvin_node_packets.specs.declared.packet.Content.TheVariants.{Synod, Decided, AskBatch, Reads, AskReads, Warm, Replies}

module _ {Args Row Reply : Type 0} where
  abbrev pub content_of : Sent Args Row Reply → Content Args Row Reply
  content_of (sent.Synod message) = Synod message.now
  content_of (sent.Decided slot batch) = Decided slot batch.now
  content_of (sent.AskBatch slot) = AskBatch slot
  content_of (sent.Reads place rows) = Reads place rows
  content_of (sent.AskReads place) = AskReads place
  content_of (sent.Warm sets) = Warm sets
  content_of (sent.Replies place id attempt answer) = Replies place id attempt answer
