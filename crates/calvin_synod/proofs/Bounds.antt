-- What is counted stays less than a majority.
use Rattle.std.proofs.Common.{◌≡◌, ◌≢◌, ℕ, ◌+◌, ◌<◌, false, List, [], ◌∷◌, ◌++◌, length, ⊎_elim, refl, sym, ◌∙◌, subst, arith, Option, Some, None, length-append}
use Rattle.std.specs.Prelude.{nat_le}
use Rattle.std.specs.Option.{unwrap_or}
use Rattle.std.specs.FinMap.{FinMap, get, insert, remove, empty, get-empty}
use Rattle.std.proofs.lemmas.Option.{none-some, same_Some}
use Rattle.calvin_types.specs.declared.place.Slot.{Slot}
use Rattle.calvin_types.specs.Places.{slot_cmp}
use Rattle.calvin_synod.specs.declared.attempt.Attempt.{Attempt}
use Rattle.calvin_synod.specs.declared.attempt.Report.{Report}
use Rattle.calvin_synod.specs.declared.tallies.Proposal.{Proposal}
use Rattle.calvin_synod.specs.Quorums.{majority}
use Rattle.calvin_synod.specs.Roles.{proposal_cmp, is_enough}
use Rattle.calvin_synod.specs.States.{FewCounted, FewVoters}
use Rattle.calvin_types.proofs.SlotMaps.{same_slot_or_not, get_here, get_other, gone_here, gone_other}
use Rattle.calvin_synod.proofs.Proposals.{same_proposal_or_not, proposal_here, proposal_other, proposal_gone_here, proposal_gone_other}

pub majority_some : (replicas : ℕ) → 0 < majority replicas
majority_some replicas = omega arith

-- with one more that makes no majority
pub one_more_few : (replicas n : ℕ) → nat_le (majority replicas) (n + 1) ≡ false → n + 1 < majority replicas
one_more_few replicas n e = grind arith

module _ {B : Type 0} (replicas : ℕ) where
  pub none_counted : FewCounted {B = B} replicas empty
  none_counted slot t e = absurd (none-some _ (sym (get-empty slot_cmp slot) ∙ e))

  pub few_with : (attempts : FinMap slot_cmp (Attempt B)) (slot : Slot) (t : Attempt B) → length t.counted < majority replicas → FewCounted replicas attempts → FewCounted replicas (insert attempts slot t)
  few_with attempts slot t few all q u e =
      ⊎_elim
      (λ (h : q ≡ slot).
      let is : t ≡ u = same_Some _ _ (sym (get_here attempts slot t) ∙ subst (λ s. get (insert attempts slot t) s ≡ Some u) h e) in
      subst (λ (v : Attempt B). length v.counted < majority replicas) is few)
      (λ (h : q ≢ slot). all q u (sym (get_other attempts slot t q h) ∙ e))
      (same_slot_or_not q slot)

  pub few_without : (attempts : FinMap slot_cmp (Attempt B)) (slot : Slot) → FewCounted replicas attempts → FewCounted replicas (remove attempts slot)
  few_without attempts slot all q u e =
      ⊎_elim
      (λ (h : q ≡ slot). absurd (none-some _ (sym (gone_here attempts slot) ∙ subst (λ s. get (remove attempts slot) s ≡ Some u) h e)))
      (λ (h : q ≢ slot). all q u (sym (gone_other attempts slot q h) ∙ e))
      (same_slot_or_not q slot)

  -- with one report more that makes no majority
  pub few_counting : (attempts : FinMap slot_cmp (Attempt B)) (slot : Slot) (t : Attempt B) (r : Report B) → is_enough replicas t ≡ false → FewCounted replicas attempts → FewCounted replicas (insert attempts slot (record t { counted = t.counted ++ r ∷ [] }))
  few_counting attempts slot t r e all =
      let few = one_more_few replicas (length t.counted) e in
      few_with attempts slot (record t { counted = t.counted ++ r ∷ [] }) (omega (arith, few, length-append t.counted (r ∷ []))) all

module _ (replicas : ℕ) where
  pub no_voters : FewVoters replicas empty
  no_voters p voters e = absurd (none-some _ (sym (get-empty proposal_cmp p) ∙ e))

  pub voters_few : (counted : FinMap proposal_cmp (List ℕ)) (p : Proposal) → FewVoters replicas counted → length (unwrap_or (get counted p) []) < majority replicas
  voters_few counted p all = at_get (get counted p) refl
    where
      at_get : (o : Option (List ℕ)) → get counted p ≡ o → length (unwrap_or o []) < majority replicas
      at_get None e = omega arith
      at_get (Some voters) e = all p voters e

  pub voters_with : (counted : FinMap proposal_cmp (List ℕ)) (p : Proposal) (voters : List ℕ) → length voters < majority replicas → FewVoters replicas counted → FewVoters replicas (insert counted p voters)
  voters_with counted p voters few all q us e =
      ⊎_elim
      (λ (h : q ≡ p).
      let is : voters ≡ us = same_Some _ _ (sym (proposal_here counted p voters) ∙ subst (λ s. get (insert counted p voters) s ≡ Some us) h e) in
      subst (λ (v : List ℕ). length v < majority replicas) is few)
      (λ (h : q ≢ p). all q us (sym (proposal_other counted p voters q h) ∙ e))
      (same_proposal_or_not q p)

  pub voters_without : (counted : FinMap proposal_cmp (List ℕ)) (p : Proposal) → FewVoters replicas counted → FewVoters replicas (remove counted p)
  voters_without counted p all q us e =
      ⊎_elim
      (λ (h : q ≡ p). absurd (none-some _ (sym (proposal_gone_here counted p) ∙ subst (λ s. get (remove counted p) s ≡ Some us) h e)))
      (λ (h : q ≢ p). all q us (sym (proposal_gone_other counted p q h) ∙ e))
      (same_proposal_or_not q p)
