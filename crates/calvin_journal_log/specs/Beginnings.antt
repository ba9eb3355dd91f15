-- Beginnings of lists, for the laws of logs.
--     take_begins n xs      the first n items are a beginning of all
--     takes_in_order m n xs      so are the first m of the first n, where m is at most n
use Rattle.std.specs.Prelude.{ℕ, ◌≤◌, List, take, drop}
use Rattle.std.proofs.Common.{subst}
use Rattle.std.proofs.lemmas.List.{take-append-drop, take-take}
use mathlib.Core.List.{IsPrefix}

pub take_begins : (n : ℕ) (xs : List ℕ) → IsPrefix (take n xs) xs
take_begins n xs = (drop n xs, take-append-drop n xs)

pub takes_in_order : (m n : ℕ) (xs : List ℕ) → m ≤ n → IsPrefix (take m xs) (take n xs) × IsPrefix (take n xs) xs
takes_in_order m n xs le = (subst (λ w. IsPrefix w (take n xs)) (take-take m n xs le) (take_begins m (take n xs)), take_begins n xs)
