-- The least of some epochs, one by one.
use Rattle.std.proofs.Common.{◌≡◌, ℕ, ◌+◌, ◌<◌, List, [], ◌∷◌, ◌++◌, length, take, get_or, slice_get, Option, Some, None, refl, sym, ap, ◌∙◌, map, arith}
use Rattle.std.proofs.lemmas.List.{map-append}
use Rattle.std.proofs.lemmas.Option.{slice_get-get_or}
use Rattle.calvin_types.proofs.Fews.{take_at}
use Rattle.calvin_report.specs.Reports.{lesser, least_with, least}

lesser_of_three : (a b c : Option ℕ) → lesser a (lesser b c) ≡ lesser (lesser a b) c
lesser_of_three None b c = refl
lesser_of_three (Some a) None c = refl
lesser_of_three (Some a) (Some b) None = refl
lesser_of_three (Some a) (Some b) (Some c) = ap Some (omega arith)

pub one_more : (a : Option ℕ) (others : List (Option ℕ)) (b : Option ℕ) → least_with a (others ++ b ∷ []) ≡ lesser (least_with a others) b
one_more a [] b = refl
one_more a (c ∷ others) b = ap (lesser a) (one_more c others b) ∙ lesser_of_three a (least_with c others) b

pub next_least : {X : Type 0} (f : X → Option ℕ) (xs : List X) (i : ℕ) (x : X) → i < length xs → x ≡ get_or xs i x
    → (first now new : Option ℕ) → now ≡ least_with first (map f (take i xs)) → new ≡ lesser now (f x) → new ≡ least_with first (map f (take (i + 1) xs))
next_least f xs i x less is first now new so_far more =
    let here : slice_get xs i ≡ Some x = slice_get-get_or xs i x less ∙ ap Some (sym is) in
    more ∙ ap (λ o. lesser o (f x)) so_far ∙ sym (one_more first (map f (take i xs)) (f x)) ∙ ap (least_with first) (sym (map-append f (take i xs) (x ∷ []))) ∙ ap (λ ys. least_with first (map f ys)) (sym (take_at xs i x here))

map_twice : {X Y Z : Type 0} (f : Y → Z) (g : X → Y) (xs : List X) → map (λ x. f (g x)) xs ≡ map f (map g xs)
map_twice f g [] = refl
map_twice f g (x ∷ xs) = ap (λ ys. f (g x) ∷ ys) (map_twice f g xs)

pub least_of : {X Y : Type 0} (f : Y → Option ℕ) (g : X → Y) (xs : List X) (x : X) (rest : List X) (first : Option ℕ) → xs ≡ x ∷ rest → first ≡ f (g x) → least_with first (map (λ y. f (g y)) rest) ≡ least (map f (map g xs))
least_of f g xs x rest first is begins = ap (λ o. least_with o (map (λ y. f (g y)) rest)) begins ∙ ap (λ ys. least (f (g x) ∷ ys)) (map_twice f g rest) ∙ ap (λ ys. least (map f (map g ys))) (sym is)
