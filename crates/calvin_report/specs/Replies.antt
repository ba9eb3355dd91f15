-- What is printed of the replies of a world. The texts are of this project.
--     ByPlace Reply      what is replied at some places
--     reply_in content      what a packet replies, at which place: the name of the request, and the answer
--     replied packets      what was replied at each place, first
--     epochs_upto last, is_told epochs e      how many epochs there are up to the last one, and which are told
--     first_epochs n replies, of_epochs epochs replies      the replies at places of these epochs
--     reply_lines show replies      a line for each reply
use Rattle.std.specs.Prelude.{ℕ, suc, Bool, true, nat_lt, List, [], ◌∷◌, Option, Some, None}
use Rattle.std.specs.List.{filter, flat_map}
use Rattle.std.specs.FinMap.{FinMap, from_entries}
use Rattle.calvin_types.specs.declared.place.Place.{Place}
use Rattle.calvin_types.specs.declared.place.RequestId.{RequestId}
use Rattle.calvin_types.specs.Places.{place_cmp}
use Rattle.calvin_app.specs.declared.answer.Answer.{Answer}
use Rattle.calvin_node_packets.specs.declared.packet.Packet.{Packet}
use Rattle.calvin_node_packets.specs.declared.packet.Content.{Content}
use Rattle.calvin_node_packets.specs.declared.packet.Content.TheVariants as content
use Rattle.calvin_text.specs.Texts.{line}
use Rattle.calvin_report.specs.declared.replies.Epochs.{Epochs}
use Rattle.calvin_report.specs.declared.replies.Epochs.TheVariants.{All, UpTo}

-- how many epochs there are up to the last one, if there is one
abbrev pub epochs_upto : Option ℕ → ℕ
epochs_upto None = 0
epochs_upto (Some e) = suc e

-- whether the replies of an epoch are told
abbrev pub is_told : Epochs → ℕ → Bool
is_told All e = true
is_told (UpTo last) e = nat_lt e (epochs_upto last)

-- what is replied at some places: the name of the request there, and the answer
abbrev pub ByPlace : Type 0 → Type 0
ByPlace Reply = List (Place × (RequestId × Answer Reply))

module _ {Reply : Type 0} where
  -- what a packet replies, at its place
  abbrev pub reply_in : {Args Row : Type 0} → Content Args Row Reply → ByPlace Reply
  reply_in (content.Replies q id attempt answer) = (q, (id, answer)) ∷ []
  reply_in _ = []

  -- what was replied at each place: what was first sent
  abbrev pub replied : {Args Row : Type 0} → List (Packet Args Row Reply) → FinMap {K = Place} place_cmp (RequestId × Answer Reply)
  replied packets = from_entries (flat_map (λ p. reply_in p.content) packets)

  -- the replies at places of the first n epochs
  abbrev pub first_epochs : ℕ → ByPlace Reply → ByPlace Reply
  first_epochs n replies = filter (λ e. nat_lt e.0.epoch n) replies

  -- the replies at places of the epochs that are told
  abbrev pub of_epochs : Epochs → ByPlace Reply → ByPlace Reply
  of_epochs epochs replies = filter (λ e. is_told epochs e.0.epoch) replies

  abbrev pub reply_lines : (Reply → List ℕ) → ByPlace Reply → List ℕ
  reply_lines show replies = flat_map (λ e. line show e.0 e.1.0 e.1.1) replies
