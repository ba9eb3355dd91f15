-- Whether two lists of lines are the same, and that this is an equivalence.
--     equal_lines a b      whether two lines are the same
--     same_lines      whether lists of lines are, one by one
--     same_lines_equiv, same_lines_per      the test of lists is an equivalence
use Rattle.std.specs.Prelude.{◌≡◌, Bool, true, false, ◌&&◌, ◌==◌, List, refl}
use Rattle.std.specs.Cmp.{IsEquivalence, IsPartialEquivalence, partial_equiv_from_equiv}
use Rattle.std.specs.Cmp.Lexicographic.{pointwise, lists_equiv}
use Rattle.std.proofs.Common.{sym, ap, ◌∙◌}
use Rattle.std.proofs.lemmas.Bool.{eqb-true, eq-eqb, false≢true}
use Rattle.calvin_types.specs.Exact.{first, second}
use Rattle.calvin_stock.specs.declared.order.Line.{Line}

abbrev pub equal_lines : Line → Line → Bool
equal_lines a b = (a.item == b.item) && (a.pieces == b.pieces)

abbrev pub same_lines : List Line → List Line → Bool
same_lines = pointwise equal_lines

equal_lines_exact : (a b : Line) → equal_lines a b ≡ true → a ≡ b
equal_lines_exact a b h = λ i. record { item = eqb-true a.item b.item (first _ _ h) i; pieces = eqb-true a.pieces b.pieces (second (a.item == b.item) _ h) i }

equal_lines_self : (a : Line) → equal_lines a a ≡ true
equal_lines_self a = (λ i. eq-eqb a.item a.item refl i && eq-eqb a.pieces a.pieces refl i)

-- it holds both ways or neither
turned : (a b : Line) → (c : Bool) → equal_lines a b ≡ c → (d : Bool) → equal_lines b a ≡ d → equal_lines a b ≡ equal_lines b a
turned a b true p true q = p ∙ sym q
turned a b true p false q = absurd (false≢true (sym q ∙ ap (λ x. equal_lines b x) (equal_lines_exact a b p) ∙ equal_lines_self b))
turned a b false p true q = absurd (false≢true (sym p ∙ ap (λ x. equal_lines a x) (equal_lines_exact b a q) ∙ equal_lines_self a))
turned a b false p false q = p ∙ sym q

equal_lines_equiv : IsEquivalence equal_lines
equal_lines_equiv = record {
  refl = equal_lines_self;
  symm = λ a b. turned a b (equal_lines a b) refl (equal_lines b a) refl;
  congr = λ a b z h. ap (λ x. equal_lines x z) (equal_lines_exact a b h);
}

pub same_lines_equiv : IsEquivalence same_lines
same_lines_equiv = lists_equiv equal_lines_equiv

pub same_lines_per : IsPartialEquivalence same_lines
same_lines_per = partial_equiv_from_equiv same_lines_equiv
