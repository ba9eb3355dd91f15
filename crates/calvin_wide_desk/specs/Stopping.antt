-- What a store that has a lock for each node begins with and leaves. The notions are of this project.
--     numbered n xs      things one after another, with their numbers from n on
--     AreMarked m log marks      each node's history, with its number, is the part at it of the events of a book
--     BeginWith marks histories      each of these is a beginning of the history of the same number
--     HasLife m c id history      a history gives a node's data
--     HaveLived m c histories      each history does
use Rattle.std.specs.Prelude.{◌≡◌, ℕ, suc, ◌*◌, List, [], ◌∷◌, length, Some, slice_get}
use mathlib.Core.List.{IsPrefix}
use Rattle.calvin_types.specs.declared.place.NodeId.{NodeId}
use Rattle.calvin_app.specs.Meaning.{Meaning}
use Rattle.calvin_order.specs.Configs.{Config}
use Rattle.calvin_world.specs.Worlds.{opening}
use Rattle.calvin_book.specs.Books.{Log}
use Rattle.calvin_histories.specs.declared.entry.Entry.{Entry}
use Rattle.calvin_histories.specs.Histories.{Life, id_of, new_life, life_of, part_at}

abbrev pub numbered : {X : Type 0} → ℕ → List X → List (ℕ × X)
numbered n [] = []
numbered n (x ∷ xs) = (n, x) ∷ numbered (suc n) xs

abbrev pub BeginWith : {X : Type 0} → List (ℕ × List X) → List (List X) → Type 0
BeginWith {X} marks histories = (i : ℕ) (mark : ℕ × List X) → slice_get marks i ≡ Some mark → (history : List X) × (slice_get histories mark.0 ≡ Some history) × IsPrefix mark.1 history

module _ {Args Row Reply : Type 0} (m : Meaning Args Row Reply) where
  pub record AreMarked (log : Log Args) (marks : List (ℕ × List (Entry Args Row Reply))) : Type 0 where
    pub number : length marks ≡ log.config.replicas * log.config.partitions
    pub each : (i : ℕ) (mark : ℕ × List (Entry Args Row Reply)) → slice_get marks i ≡ Some mark → mark ≡ (i, part_at m (opening log.config) log.events (id_of log.config.partitions i))

  abbrev pub HasLife : Config → NodeId → List (Entry Args Row Reply) → Type 0
  HasLife c id history = (life : Life Args Row Reply) × (life_of m c (new_life id) history ≡ Some life)

  abbrev pub HaveLived : Config → List (List (Entry Args Row Reply)) → Type 0
  HaveLived c histories = (i : ℕ) (history : List (Entry Args Row Reply)) → slice_get histories i ≡ Some history → HasLife c (id_of c.partitions i) history
