-- For the code: packets that reply, noted as the places at which they do, each with the packet's number.
--     reply_at packets n      what the packet of a number replies
--     noted packets notes      what the packets reply that are noted
--     IsNote packets note      its packet replies at the place, once
--     AreApart notes      no place stands twice
--     AreInOrder notes      each place is before those that stand after it
use Rattle.std.specs.Prelude.{◌≡◌, ℕ, T, List, [], ◌∷◌, slice_get}
use Rattle.std.specs.FinMap.{is_sorted}
use Rattle.std.specs.List.{flat_map, IsDistinct}
use Rattle.std.specs.Map.{keys_of}
use Rattle.std.specs.Option.{option_to_list}
use Rattle.std.specs.Ordering.{eq_by_cmp}
use Rattle.calvin_types.specs.declared.place.Place.{Place}
use Rattle.calvin_types.specs.declared.place.RequestId.{RequestId}
use Rattle.calvin_types.specs.Places.{place_cmp}
use Rattle.calvin_app.specs.declared.answer.Answer.{Answer}
use Rattle.calvin_node_packets.specs.declared.packet.Packet.{Packet}
use Rattle.calvin_report.specs.Replies.{ByPlace, reply_in}

module _ {Args Row Reply : Type 0} (packets : List (Packet Args Row Reply)) where
  abbrev pub reply_at : ℕ → ByPlace Reply
  reply_at n = flat_map (λ p. reply_in p.content) (option_to_list (slice_get packets n))

  abbrev pub noted : List (Place × ℕ) → ByPlace Reply
  noted notes = flat_map (λ n. reply_at n.1) notes

  abbrev pub IsNote : Place × ℕ → Type 0
  IsNote n = (v : RequestId × Answer Reply) × (reply_at n.1 ≡ (n.0, v) ∷ [])

abbrev pub AreApart : List (Place × ℕ) → Type 0
AreApart notes = IsDistinct (eq_by_cmp place_cmp) (keys_of notes)

abbrev pub AreInOrder : List (Place × ℕ) → Type 0
AreInOrder notes = T (is_sorted place_cmp notes)
