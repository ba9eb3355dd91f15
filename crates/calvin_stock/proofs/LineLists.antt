-- Lines in four places.
use Rattle.std.proofs.Common.{◌≡◌, ℕ, suc, ◌+◌, ◌-◌, ◌<◌, List, [], ◌∷◌, ◌++◌, length, take, replicate, refl, sym, ◌∙◌, ap, arith, length-append}
use Rattle.std.proofs.lemmas.List.{length-replicate, take_more_set}
use Rattle.std.proofs.Math.ListN.{set}
use Rattle.calvin_stock.specs.declared.order.Line.{Line}
use Rattle.calvin_stock.specs.LineList.{blank, filled_up, IsLineList}

-- a line in the first blank place
set-end : (ls : List Line) (n : ℕ) (l : Line) → set (ls ++ replicate (suc n) blank) (length ls) l ≡ (ls ++ l ∷ []) ++ replicate n blank
set-end [] n l = refl
set-end (x ∷ xs) n l = ap (λ ys. x ∷ ys) (set-end xs n l)

set-blank : (ls : List Line) (l : Line) → length ls < 4 → set (filled_up ls) (length ls) l ≡ filled_up (ls ++ l ∷ [])
set-blank ls l h =
    let left : 4 - length ls ≡ suc (4 - length (ls ++ l ∷ [])) = omega (arith, length-append ls (l ∷ [])) in
    ap (λ (n : ℕ). set (ls ++ replicate n blank) (length ls) l) left ∙ set-end ls _ l

module _ (places : List Line) (size : ℕ) (is : IsLineList places size) where
  pub length-places : length places ≡ 4
  length-places =
      ap length (sym is.rest) ∙ length-append (take size places) (replicate (4 - length (take size places)) blank)
      ∙ omega (arith, length-replicate {A = Line} (4 - length (take size places)) blank, is.at_most, is.size_is)

  module _ (l : Line) (room : size < 4) where
    pub lines-push : take (size + 1) (set places size l) ≡ take size places ++ l ∷ []
    lines-push = take_more_set places size l (omega (arith, length-places))

    places-push : set places size l ≡ filled_up (take size places ++ l ∷ [])
    places-push =
        let within : length (take size places) < 4 = omega (arith, is.size_is) in
        ap (λ (ps : List Line). set ps size l) (sym is.rest)
        ∙ ap (λ (n : ℕ). set (filled_up (take size places)) n l) (sym is.size_is)
        ∙ set-blank (take size places) l within

    pub IsLineList-push : IsLineList (set places size l) (size + 1)
    IsLineList-push = record {
      at_most = omega arith;
      size_is = ap length lines-push ∙ omega (arith, length-append (take size places) (l ∷ []), is.size_is);
      rest = ap filled_up lines-push ∙ sym places-push;
    }
