-- How views stand in a row: the rows of all of them one after another, and of each view where its rows end.
--     Views Row      the views, and for how many more there is room
--     begin from ends number      where the view of a number begins, the first one at a place
--     views_of entries from ends      the views whose rows stand between a place and these ends
--     IsView entries from end      between these places stand the entries of a view of at most sixteen keys
--     AreViews entries from ends      these ends cut the entries from a place on into views of at most sixteen keys
use Rattle.std.specs.Prelude.{◌≡◌, ℕ, zero, suc, ◌-◌, ◌+◌, ◌≤◌, List, [], ◌∷◌, length, take, drop}
use Rattle.calvin_types.specs.declared.key.Key.{Key}
use Rattle.calvin_types.specs.declared.limits.TheConstants.{MOST_KEYS}
use Rattle.calvin_app.specs.Entries.{rising, shown}
use Rattle.calvin_app.specs.Rows.{Rows}

pub record Views (Row : Type 0) : Type 0 where
  pub views : List (Rows Row)
  pub room : ℕ

-- where the view of a number begins, the first one at a place
abbrev pub begin : ℕ → List ℕ → ℕ → ℕ
begin from ends zero = from
begin from [] (suc i) = from
begin from (end ∷ ends) (suc i) = begin end ends i

module _ {Row : Type 0} where
  abbrev pub views_of : List (Key × Row) → ℕ → List ℕ → List (Rows Row)
  views_of entries from [] = []
  views_of entries from (end ∷ ends) = shown (take (end - from) (drop from entries)) ∷ views_of entries end ends

  pub record IsView (entries : List (Key × Row)) (from end : ℕ) : Type 0 where
    pub after : from ≤ end
    pub within : end ≤ length entries
    pub few : end ≤ from + MOST_KEYS
    pub rises : rising (take (end - from) (drop from entries))

  abbrev pub AreViews : List (Key × Row) → ℕ → List ℕ → Type 0
  AreViews entries from [] = length entries ≡ from
  AreViews entries from (end ∷ ends) = IsView entries from end × AreViews entries end ends
