-- How an outbox keeps packets: rows, sets and answers stand in lists of their own, in the order of the packets that have them.
--     Lists      these lists
--     restored lists kept      the packet that is kept so
--     AreKept kept so_far all      of the packets that have rows, sets or an answer each names the next ones, up to all
--     Below kept all      what the packet has stands within so much
--     said lists kept      what a packet says that is kept so
--     kept_of so_far content      what is kept of what a packet says, where so much comes before it
--     lists_with lists content, lists_cut lists kept      the lists with what a packet has, and without it
use Rattle.std.specs.Prelude.{◌≡◌, ℕ, ◌+◌, ◌<◌, Bool, ⊤, List, [], ◌∷◌, ◌++◌, length, take, slice_index_or}
use Rattle.std.specs.FinMap as finmap
use Rattle.calvin_types.specs.declared.key_set.Sets.{Sets}
use Rattle.calvin_app.specs.Rows.{Rows}
use Rattle.calvin_app.specs.declared.answer.Answer.{Answer}
use Rattle.calvin_app.specs.declared.answer.Answer.TheVariants.{Changed}
use Rattle.calvin_node_packets.specs.declared.kept.Kept.{Kept}
use Rattle.calvin_node_packets.specs.declared.kept.KeptContent.{KeptContent}
use Rattle.calvin_node_packets.specs.declared.kept.KeptContent.TheVariants as stored
use Rattle.calvin_node_packets.specs.declared.packet.Content.{Content}
use Rattle.calvin_node_packets.specs.declared.packet.Content.TheVariants.{Synod, Decided, AskBatch, Reads, AskReads, Warm, Replies}
use Rattle.calvin_node_packets.specs.declared.packet.Packet.{Packet}
use Rattle.calvin_node_packets.specs.Packets.{is_light}

pub record Lists (Row Reply : Type 0) : Type 0 where
  pub rows : List (Rows Row)
  pub sets : List Sets
  pub answers : List (Answer Reply)

-- how many of each
pub record Counts : Type 0 where
  pub rows : ℕ
  pub sets : ℕ
  pub answers : ℕ

abbrev pub none : Counts
none = record { rows = 0; sets = 0; answers = 0 }

module _ {Row Reply : Type 0} where
  abbrev pub counts : Lists Row Reply → Counts
  counts l = record { rows = length l.rows; sets = length l.sets; answers = length l.answers }

module _ {Args Row Reply : Type 0} where
  abbrev pub said : Lists Row Reply → KeptContent Args → Content Args Row Reply
  said l (stored.Synod message) = Synod message
  said l (stored.Decided slot batch) = Decided slot batch
  said l (stored.AskBatch slot) = AskBatch slot
  said l (stored.Reads place number) = Reads place (slice_index_or l.rows number finmap.empty)
  said l (stored.AskReads place) = AskReads place
  said l (stored.Warm number) = Warm (slice_index_or l.sets number (record { reads = []; writes = [] }))
  said l (stored.Replies place id attempt number) = Replies place id attempt (slice_index_or l.answers number Changed)

module _ {Args : Type 0} where
  -- what it says is light, whatever stands in the lists
  abbrev pub is_plain : KeptContent Args → Bool
  is_plain kept = is_light (said {Row = ⊤} {Reply = ⊤} (record { rows = []; sets = []; answers = [] }) kept)

  -- what it has comes behind so much
  abbrev pub IsAt : KeptContent Args → Counts → Type 0
  IsAt (stored.Reads place number) so_far = number ≡ so_far.rows
  IsAt (stored.Warm number) so_far = number ≡ so_far.sets
  IsAt (stored.Replies place id attempt number) so_far = number ≡ so_far.answers
  IsAt _ so_far = ⊤

  -- what it has stands within so much
  abbrev pub Below : KeptContent Args → Counts → Type 0
  Below (stored.Reads place number) all = number < all.rows
  Below (stored.Warm number) all = number < all.sets
  Below (stored.Replies place id attempt number) all = number < all.answers
  Below _ all = ⊤

  -- so much there is with it
  abbrev pub with_it : Counts → KeptContent Args → Counts
  with_it so_far (stored.Reads place number) = record so_far { rows = so_far.rows + 1 }
  with_it so_far (stored.Warm number) = record so_far { sets = so_far.sets + 1 }
  with_it so_far (stored.Replies place id attempt number) = record so_far { answers = so_far.answers + 1 }
  with_it so_far _ = so_far

  abbrev pub AreKept : List (Kept Args) → Counts → Counts → Type 0
  AreKept [] so_far all = so_far ≡ all
  AreKept (k ∷ ks) so_far all = IsAt k.content so_far × AreKept ks (with_it so_far k.content) all

module _ {Args Row Reply : Type 0} where
  abbrev pub restored : Lists Row Reply → Kept Args → Packet Args Row Reply
  restored l k = record { from = k.from; to = k.to; content = said l k.content }

  -- the rows, the sets, and the answer that it has
  abbrev pub rows_in : Content Args Row Reply → List (Rows Row)
  rows_in (Reads place rows) = rows ∷ []
  rows_in _ = []

  abbrev pub sets_in : Content Args Row Reply → List Sets
  sets_in (Warm sets) = sets ∷ []
  sets_in _ = []

  abbrev pub answers_in : Content Args Row Reply → List (Answer Reply)
  answers_in (Replies place id attempt answer) = answer ∷ []
  answers_in _ = []

  -- what is kept of it, where so much comes before it
  abbrev pub kept_of : Counts → Content Args Row Reply → KeptContent Args
  kept_of so_far (Synod message) = stored.Synod message
  kept_of so_far (Decided slot batch) = stored.Decided slot batch
  kept_of so_far (AskBatch slot) = stored.AskBatch slot
  kept_of so_far (Reads place rows) = stored.Reads place so_far.rows
  kept_of so_far (AskReads place) = stored.AskReads place
  kept_of so_far (Warm sets) = stored.Warm so_far.sets
  kept_of so_far (Replies place id attempt answer) = stored.Replies place id attempt so_far.answers

  -- the lists with what it has
  abbrev pub lists_with : Lists Row Reply → Content Args Row Reply → Lists Row Reply
  lists_with l content = record { rows = l.rows ++ rows_in content; sets = l.sets ++ sets_in content; answers = l.answers ++ answers_in content }

  -- the lists without what a packet has, and what comes behind
  abbrev pub lists_cut : Lists Row Reply → KeptContent Args → Lists Row Reply
  lists_cut l (stored.Reads place number) = record l { rows = take number l.rows }
  lists_cut l (stored.Warm number) = record l { sets = take number l.sets }
  lists_cut l (stored.Replies place id attempt number) = record l { answers = take number l.answers }
  lists_cut l _ = l
