-- Nodes' histories in one log.
--     part_at-append      the history in a log that goes on goes on by what is of the node
--     part_at-prefix      the history in a beginning begins the history
--     nodes_of-more, nodes_of-prefix      how many nodes there are never changes
--     nodes_some      a log that has nodes has an entry
--     IsOf, did_of, ended_of      an entry is one thing in the history of its node, and nothing in any other
--     pair_is      a node and its events
use Rattle.std.proofs.Common.{◌≡◌, ◌≢◌, ℕ, ◌==◌, ◌<◌, Bool, true, false, List, [], ◌∷◌, ◌++◌, length, Option, Some, None, refl, ap, sym, ◌∙◌, arith, append_assoc, if◌then◌else◌}
use Rattle.std.proofs.lemmas.Bool.Decides.{nat_tests}
use mathlib.Core.List.{IsPrefix}
use Rattle.calvin_chronicles.specs.declared.law.Entry.{Entry}
use Rattle.calvin_chronicles.specs.declared.law.Entry.TheVariants.{Nodes, Did, Ended}
use Rattle.calvin_chronicles.specs.Histories.{entry_at, part_at, nodes_of}

module _ {E : Type 0} where
  pub part_at-append : (node : ℕ) (xs ys : List (Entry E)) → part_at node (xs ++ ys) ≡ part_at node xs ++ part_at node ys
  part_at-append node [] ys = refl
  part_at-append node (x ∷ xs) ys = ap (λ w. entry_at node x ++ w) (part_at-append node xs ys) ∙ sym (append_assoc (entry_at node x) (part_at node xs) (part_at node ys))

  pub part_at-prefix : (node : ℕ) (xs ys : List (Entry E)) → IsPrefix xs ys → IsPrefix (part_at node xs) (part_at node ys)
  part_at-prefix node xs ys p = (part_at node p.0, sym (part_at-append node xs p.0) ∙ ap (part_at node) p.1)

  pub nodes_of-more : (xs ys : List (Entry E)) → 0 < length xs → nodes_of (xs ++ ys) ≡ nodes_of xs
  nodes_of-more [] ys some = absurd (omega arith)
  nodes_of-more (Nodes count ∷ xs) ys some = refl
  nodes_of-more (Did node event ∷ xs) ys some = refl
  nodes_of-more (Ended node ∷ xs) ys some = refl

  pub nodes_of-prefix : (xs ys : List (Entry E)) → 0 < length xs → IsPrefix xs ys → nodes_of xs ≡ nodes_of ys
  nodes_of-prefix xs ys some p = sym (nodes_of-more xs p.0 some) ∙ ap nodes_of p.1

  pub nodes_some : (xs : List (Entry E)) → 0 < nodes_of xs → 0 < length xs
  nodes_some [] some = absurd (omega arith)
  nodes_some (x ∷ xs) some = omega arith

  pub record IsOf (node : ℕ) (entry : Entry E) (x : Option E) : Type 0 where
    pub own : part_at node (entry ∷ []) ≡ x ∷ []
    pub others : (other : ℕ) → other ≢ node → part_at other (entry ∷ []) ≡ []

one_yes : {A : Type 0} (b : Bool) (x : A) → b ≡ true → (if b then x ∷ [] else []) ++ [] ≡ x ∷ []
one_yes true x is = refl
one_yes false x is = absurd cc

one_no : {A : Type 0} (b : Bool) (x : A) → b ≡ false → (if b then x ∷ [] else []) ++ [] ≡ []
one_no false x is = refl
one_no true x is = absurd cc

pub did_of : {E : Type 0} (node : ℕ) (event : E) → IsOf node (Did node event) (Some event)
did_of node event = record {
  own = one_yes (node == node) (Some event) (grind (arith, nat_tests));
  others = λ other away. one_no (node == other) (Some event) (grind (arith, nat_tests));
}

pub ended_of : {E : Type 0} (node : ℕ) → IsOf {E = E} node (Ended node) None
ended_of {E} node = record {
  own = one_yes {A = Option E} (node == node) None (grind (arith, nat_tests));
  others = λ other away. one_no {A = Option E} (node == other) None (grind (arith, nat_tests));
}

pub pair_is : {A B : Type 0} {a c : A} {b d : B} → a ≡ c → b ≡ d → ◌≡◌ {A = A × B} (a, b) (c, d)
pair_is p q = cc
