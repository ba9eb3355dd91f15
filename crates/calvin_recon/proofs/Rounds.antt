-- One look more in the search for sets.
use Rattle.std.proofs.Common.{◌≡◌, ℕ, suc, Bool, true, false, refl, sym, ap, ◌∙◌, Ok, Err}
use Rattle.std.specs.Prelude.{if◌then◌else◌}
use Rattle.std.specs.FinMap.{empty}
use Rattle.calvin_types.specs.declared.key_set.Sets.{Sets}
use Rattle.calvin_types.specs.declared.fault.Fault.TheVariants.{Unsettled}
use Rattle.calvin_types.specs.Exact.{pointwise_exact, first, second}
use Rattle.calvin_types.specs.SameKeys.{same_sets}
use Rattle.calvin_types.specs.SameKeysLaws.{equal_keys_exact}
use Rattle.calvin_app.specs.Rows.{Rows}
use Rattle.calvin_app.specs.Meaning.{Meaning, IsLawful, SettlesAtOnce}
use Rattle.calvin_app.proofs.Fresh.{same_sets-self}
use Rattle.calvin_recon.specs.Scouting.{next, scouted, found}

pub same_sets_exact : (a b : Sets) → same_sets a b ≡ true → a ≡ b
same_sets_exact a b h = λ i. record { reads = pointwise_exact _ equal_keys_exact a.reads b.reads (first _ _ h) i; writes = pointwise_exact _ equal_keys_exact a.writes b.writes (second _ _ h) i }

module _ {Args Row Reply : Type 0} (m : Meaning Args Row Reply) (args : Args) (rows : Rows Row) where
  pub scouted_more : (n : ℕ) (sets more : Sets) → more ≡ next m args rows sets → same_sets more sets ≡ false → scouted m args rows (suc n) sets ≡ scouted m args rows n more
  unfolding scouted
  scouted_more n sets more is h = ap (λ b. if b then Ok sets else scouted m args rows n (next m args rows sets)) (ap (λ s. same_sets s sets) (sym is) ∙ h) ∙ ap (scouted m args rows n) (sym is)

  pub scouted_found : (n : ℕ) (sets more : Sets) → more ≡ next m args rows sets → same_sets more sets ≡ true → scouted m args rows (suc n) sets ≡ Ok sets
  unfolding scouted
  scouted_found n sets more is h = ap (λ b. if b then Ok sets else scouted m args rows n (next m args rows sets)) (ap (λ s. same_sets s sets) (sym is) ∙ h)

  pub scouted_end : (sets : Sets) → scouted m args rows 0 sets ≡ Err Unsettled
  unfolding scouted
  scouted_end sets = refl

  -- where one look settles, the sets that are needed of all rows are found
  pub found_needed : {dependent : Args → Bool} {most top : ℕ} → IsLawful m dependent most top → SettlesAtOnce m → found m args rows ≡ Ok (m.needs args rows)
  found_needed lawful settles = go (same_sets needed first) refl where
    first : Sets
    first = m.needs args empty

    needed : Sets
    needed = m.needs args rows

    go : (b : Bool) → same_sets needed first ≡ b → found m args rows ≡ Ok needed
    go true same = scouted_found 15 first needed (sym (settles args rows)) same ∙ ap Ok (sym (same_sets_exact needed first same))
    go false same =
        scouted_more 15 first needed (sym (settles args rows)) same
        ∙ scouted_found 14 needed needed (sym (lawful.sets_follow_from_their_reads args rows)) (same_sets-self needed)
