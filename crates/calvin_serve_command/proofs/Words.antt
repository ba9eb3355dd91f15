-- Lines of the program, as clap reads them.
use Rattle.std.proofs.Common.{◌≡◌, List, [], ◌∷◌, true, refl}
use Rattle.clap.specs.Words.{is_simple, is_simple_and_free}
use Rattle.calvin_serve_command.specs.Line.{calvin}

pub is_simple_line : is_simple calvin ≡ true
is_simple_line = refl

pub is_free_line : is_simple_and_free calvin ≡ true
is_free_line = refl

pub not_empty : {X : Type 0} (x : X) (xs : List X) → x ∷ xs ≡ [] → ⊥
not_empty x xs e = absurd (cc)
