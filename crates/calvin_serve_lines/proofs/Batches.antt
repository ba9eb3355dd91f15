-- The batches of groups in ascending order.
use Rattle.std.proofs.Common.{◌≡◌, ◌≤◌, ◌<◌, ◌+◌, ℕ, zero, suc, List, [], ◌∷◌, ◌++◌, Bool, true, false, not, ◌&&◌, ◌||◌, ◌==◌, length, nat_eq, nat_lt, refl, sym, ap, ap₂, ◌∙◌, arith}
use Rattle.std.specs.List.{list_any}
use Rattle.std.proofs.lemmas.Bool.{false≢true, ne_eqb, lt-ltb}
use Rattle.calvin_script.specs.declared.contents.Request.{Request}
use Rattle.calvin_script.specs.Scripts.{Listed, groups_fit}
use Rattle.calvin_serve_lines.specs.Gathered.{batch_if, batches_from, batches_of}

first_fits : (a b c : Bool) → a ≡ true → b ≡ false → c ≡ true → (a && not b && c) ≡ true
first_fits a b c p q r = rw (p, q, r) refl

module _ {Args : Type 0} where
  none_below : (waiting : List (List (Request Args))) (n group : ℕ) → group < n → list_any (λ c. nat_eq c.group group) (batches_from n waiting) ≡ false
  none_below [] n group below = refl
  none_below ([] ∷ waiting) n group below = none_below waiting (n + 1) group (omega (arith, below))
  none_below ((r ∷ rs) ∷ waiting) n group below = ap₂ (λ a b. a || b) (ne_eqb n group (λ is. omega (arith, below, is))) (none_below waiting (n + 1) group (omega (arith, below)))

  fit_from : (partitions : ℕ) (waiting : List (List (Request Args))) (n : ℕ) → n + length waiting ≤ partitions → groups_fit partitions (batches_from n waiting) ≡ true
  fit_from partitions [] n within = refl
  fit_from partitions ([] ∷ waiting) n within = fit_from partitions waiting (n + 1) (omega (arith, within))
  fit_from partitions ((r ∷ rs) ∷ waiting) n within =
      let lt : nat_lt n partitions ≡ true = lt-ltb n partitions (omega (arith, within)) in
      first_fits (nat_lt n partitions) (list_any (λ c. nat_eq c.group n) (batches_from (n + 1) waiting)) (groups_fit partitions (batches_from (n + 1) waiting)) lt (none_below waiting (n + 1) n (omega arith)) (fit_from partitions waiting (n + 1) (omega (arith, within)))

  pub batches_fit : (waiting : List (List (Request Args))) → groups_fit (length waiting) (batches_of waiting) ≡ true
  batches_fit waiting = fit_from (length waiting) waiting 0 (omega arith)

  pub no_batch : (group : ℕ) (requests : List (Request Args)) → (length requests == 0) ≡ true → batch_if group requests ≡ []
  no_batch group [] none = refl
  no_batch group (r ∷ rs) none = absurd (false≢true (sym (ne_eqb (length (r ∷ rs)) 0 (λ e. omega (arith, e))) ∙ none))

  pub one_batch : (group : ℕ) (requests : List (Request Args)) → (length requests == 0) ≡ false → batch_if group requests ≡ record { group = group; requests = requests } ∷ []
  one_batch group [] some = absurd (cc)
  one_batch group (r ∷ rs) some = refl
