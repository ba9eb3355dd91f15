-- Lemma: pairs that are held are found again in the map that they show.
use Rattle.std.specs.Prelude.{◌≡◌, ◌≢◌, List, [], ◌∷◌, Option, Some, None, refl}
use Rattle.std.proofs.Common.{ap, ◌∙◌}
use Rattle.std.specs.FinMap as map
use Rattle.calvin_types.specs.declared.key.Key.{Key}
use Rattle.calvin_app.specs.Entries.{shown}
use Rattle.calvin_app.specs.EntryLaws.{entries_kept}
use Rattle.calvin_store.specs.Held.{pairs_in, held, AreHeld}

held_in : {Row : Type 0} (o : Option (List (Key × Row))) → o ≢ Some [] → held (pairs_in o) ≡ o
held_in None some = refl
held_in (Some []) some = absurd (some refl)
held_in (Some (p ∷ pairs)) some = refl

pub held_again : {Row : Type 0} (o : Option (List (Key × Row))) → AreHeld o → held (map.entries (shown (pairs_in o))) ≡ o
held_again o h = ap held (entries_kept (pairs_in o) h.rise) ∙ held_in o h.some
