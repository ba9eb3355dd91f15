-- The least of the epochs of the nodes that are kept, one by one.
--     so_far_more, so_far_is      one epoch more, and the least of all
--     kept_more, lost_more      a node more, whose replica isn't lost; or is
use Rattle.std.proofs.Common.{◌≡◌, ℕ, Bool, true, false, not, cond, List, [], ◌∷◌, ◌++◌, map, Option, None, refl, sym, ap, ◌∙◌}
use Rattle.std.specs.List.{filter}
use Rattle.std.proofs.lemmas.List.{map-append, append-nil}
use Rattle.std.proofs.lemmas.List.Elements.{filter-append}
use Rattle.calvin_node_acts.specs.NodeStates.{NodeState}
use Rattle.calvin_report.specs.Reports.{lesser, least_with, least, last_standing, is_lost}
use Rattle.calvin_report.specs.SoFar.{so_far, kept_epochs}
use Rattle.calvin_report.specs.declared.nodes.Least.TheVariants.{NoNode, Of}
use Rattle.calvin_report.proofs.Least.{one_more}

pub first_of : (epochs : List (Option ℕ)) (last : Option ℕ) → NoNode ≡ so_far epochs → Of last ≡ so_far (epochs ++ last ∷ [])
first_of [] last is = refl
first_of (a ∷ others) last is = absurd (cc)

pub more_of : (epochs : List (Option ℕ)) (before last : Option ℕ) → Of before ≡ so_far epochs → Of (lesser before last) ≡ so_far (epochs ++ last ∷ [])
more_of [] before last is = absurd (cc)
more_of (a ∷ others) before last is = let same : before ≡ least_with a others = cc in ap (λ o. Of (lesser o last)) same ∙ ap Of (sym (one_more a others last))

pub none_of : (epochs : List (Option ℕ)) → NoNode ≡ so_far epochs → None ≡ least epochs
none_of [] is = refl
none_of (a ∷ others) is = absurd (cc)

pub least_is : (epochs : List (Option ℕ)) (o : Option ℕ) → Of o ≡ so_far epochs → o ≡ least epochs
least_is [] o is = absurd (cc)
least_is (a ∷ others) o is = cc

module _ {Args Row : Type 0} (lost : Option ℕ) (nodes : List (NodeState Args Row)) (x : NodeState Args Row) where
  abbrev one : Bool → List (NodeState Args Row)
  one b = cond (not b) (x ∷ []) []

  both : kept_epochs lost (nodes ++ x ∷ []) ≡ kept_epochs lost nodes ++ map last_standing (one (is_lost lost x.id.replica))
  both = ap (map last_standing) (filter-append (λ (y : NodeState Args Row). not (is_lost lost y.id.replica)) nodes (x ∷ [])) ∙ map-append last_standing (filter (λ y. not (is_lost lost y.id.replica)) nodes) (one (is_lost lost x.id.replica))

  pub lost_more : is_lost lost x.id.replica ≡ true → kept_epochs lost (nodes ++ x ∷ []) ≡ kept_epochs lost nodes
  lost_more is = both ∙ ap (λ b. kept_epochs lost nodes ++ map last_standing (one b)) is ∙ append-nil (kept_epochs lost nodes)

  pub kept_more : is_lost lost x.id.replica ≡ false → kept_epochs lost (nodes ++ x ∷ []) ≡ kept_epochs lost nodes ++ last_standing x ∷ []
  kept_more is = both ∙ ap (λ b. kept_epochs lost nodes ++ map last_standing (one b)) is
