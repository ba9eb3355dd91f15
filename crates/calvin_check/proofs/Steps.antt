-- The events so far, how they ended, and their lines.
--     Goes m start events k first w text      the first k events led from the start to this world, none for want of memory, and their lines stand behind the first text
use Rattle.std.proofs.Common.{◌≡◌, ◌≢◌, ◌≤◌, ◌<◌, ◌+◌, ℕ, suc, List, [], ◌∷◌, ◌++◌, length, take, refl, sym, ap, subst, ◌∙◌, arith}
use Rattle.std.proofs.lemmas.List.{take_all, append_assoc, append-nil, length-append}
use Rattle.std.specs.Prelude.{get_or}
use Rattle.calvin_types.specs.declared.fault.Fault.TheVariants.{OutOfMemory}
use Rattle.calvin_app.specs.Meaning.{Meaning}
use Rattle.calvin_world.specs.declared.event.Event.{Event}
use Rattle.calvin_world.specs.declared.event.Outcome.{Outcome}
use Rattle.calvin_world.specs.declared.event.Outcome.TheVariants.{Refused}
use Rattle.calvin_world.specs.Worlds.{WorldState}
use Rattle.calvin_world.specs.SettledWorlds.{SettledStep, SettledLeads}
use Rattle.calvin_world.specs.Through.{WithoutWant}
use Rattle.calvin_world.proofs.InCode.{led_on}
use Rattle.calvin_report.specs.Reports.{outcome_line, outcome_lines}

one_more_line : (k : ℕ) (outcomes : List Outcome) (o : Outcome) → outcome_lines k (outcomes ++ o ∷ []) ≡ outcome_lines k outcomes ++ outcome_line (k + length outcomes) o
one_more_line k [] o = append-nil (outcome_line k o) ∙ ap (λ (n : ℕ). outcome_line n o) (omega arith)
one_more_line k (p ∷ outcomes) o =
    ap (λ (l : List ℕ). outcome_line k p ++ l) (one_more_line (suc k) outcomes o ∙ ap (λ (n : ℕ). outcome_lines (suc k) outcomes ++ outcome_line n o) (omega arith))
    ∙ sym (append_assoc (outcome_line k p) (outcome_lines (suc k) outcomes) (outcome_line (k + suc (length outcomes)) o))

without_more : (outcomes : List Outcome) (o : Outcome) → WithoutWant outcomes → o ≢ Refused OutOfMemory → WithoutWant (outcomes ++ o ∷ [])
without_more [] o well isnt = (isnt, tt)
without_more (p ∷ outcomes) o well isnt = (well.0, without_more outcomes o well.1 isnt)

module _ {Args Row Reply : Type 0} (m : Meaning Args Row Reply) where
  abbrev pub Goes : WorldState Args Row Reply → List (Event Args) → ℕ → List ℕ → WorldState Args Row Reply → List ℕ → Type 0
  Goes start events k first w text = (outcomes : List Outcome) × SettledLeads m start (take k events) outcomes w × WithoutWant outcomes × (length outcomes ≡ k) × (text ≡ first ++ outcome_lines 0 outcomes)

  pub begins : (start : WorldState Args Row Reply) (events : List (Event Args)) (first : List ℕ) → Goes start events 0 first start first
  begins start events first = ([], refl, tt, refl, sym (append-nil first))

  pub goes_on : (start : WorldState Args Row Reply) (events : List (Event Args)) (k : ℕ) (first : List ℕ) (w : WorldState Args Row Reply) (text : List ℕ) → Goes start events k first w text
      → (event : Event Args) → k < length events → event ≡ get_or events k event → (outcome told : Outcome) (after : WorldState Args Row Reply) → SettledStep m w event outcome after → told ≡ outcome
      → told ≢ Refused OutOfMemory → (all : List ℕ) → all ≡ text ++ outcome_line k told → Goes start events (k + 1) first after all
  goes_on start events k first w text (outcomes, led, well, counted, lines) event within read outcome told after step same isnt all pushed = (
    outcomes ++ told ∷ [],
    led_on m start events k event within read outcomes w led outcome told after step same (outcomes ++ told ∷ []) refl,
    without_more outcomes told well isnt,
    length-append outcomes (told ∷ []) ∙ ap (λ (n : ℕ). n + 1) counted,
    pushed ∙ ap (λ (l : List ℕ). l ++ outcome_line k told) lines ∙ append_assoc first (outcome_lines 0 outcomes) (outcome_line k told)
        ∙ ap (λ (n : ℕ). first ++ (outcome_lines 0 outcomes ++ outcome_line n told)) (sym counted ∙ same_length) ∙ ap (λ (l : List ℕ). first ++ l) (sym (one_more_line 0 outcomes told)),
  )
    where
      same_length : length outcomes ≡ 0 + length outcomes
      same_length = omega arith

  pub ends : (start : WorldState Args Row Reply) (events : List (Event Args)) (k : ℕ) (first : List ℕ) (w : WorldState Args Row Reply) (text : List ℕ) → Goes start events k first w text → length events ≤ k
      → (outcomes : List Outcome) × SettledLeads m start events outcomes w × WithoutWant outcomes × (text ≡ first ++ outcome_lines 0 outcomes)
  ends start events k first w text (outcomes, led, well, counted, lines) all = (outcomes, subst (λ (es : List (Event Args)). SettledLeads m start es outcomes w) (take_all k events all) led, well, lines)
