-- The batches of one epoch joined, and their requests numbered.
use Rattle.std.proofs.Common.{◌≡◌, ◌&&◌, Bool, true, false, cond, ℕ, zero, suc, ◌<◌, ◌≤◌, List, [], ◌∷◌, ◌++◌, inl, inr, length, map, refl, sym, ap, ◌∙◌, arith}
use Rattle.std.proofs.lemmas.Bool.{eq-eqb}
use Rattle.std.proofs.lemmas.List.{map-append, length-map}
use Rattle.std.specs.List.{list_all}
use Rattle.std.specs.Prelude.{◌==◌}
use Rattle.calvin_types.specs.declared.place.Slot.{Slot}
use Rattle.calvin_types.specs.declared.place.Place.{Place}
use Rattle.calvin_types.specs.declared.txn.Txn.{Txn}
use Rattle.calvin_types.specs.Orders.{StandsAt, Rises}
use Rattle.calvin_order.specs.Configs.{Config, is_woven, layers, woven, together, merged}
use Rattle.calvin_order.specs.Merged.{Batch, Assignment, joined, numbered}
use Rattle.calvin_order.proofs.Places.{before_by_number}
use Rattle.calvin_order.proofs.Weaves.{length-woven, layers_each}

module _ {Args : Type 0} where
  pub numbered_stands : (e n : ℕ) (ts : Batch Args) (q : Place) (t : Txn Args) → StandsAt (numbered e n ts) q t → (q.epoch ≡ e) × (n ≤ q.n)
  numbered_stands e n [] q t at = absurd at
  numbered_stands e n (u ∷ ts) q t (inl here) = (sym (ap (λ p. p.epoch) here.0), let same : n ≡ q.n = ap (λ p. p.n) here.0 in omega (arith, same))
  numbered_stands e n (u ∷ ts) q t (inr at) = let more = numbered_stands e (suc n) ts q t at in (more.0, let up = more.1 in omega (arith, up))

  pub numbered_rises : (e n : ℕ) (ts : Batch Args) → Rises (numbered e n ts)
  numbered_rises e n [] = tt
  numbered_rises e n (u ∷ ts) = (
    λ q t at. let more = numbered_stands e (suc n) ts q t at in before_by_number (record { epoch = e; n = n }) q (sym more.0) (let up = more.1 in omega (arith, up)),
    numbered_rises e (suc n) ts,
  )

  pub length-numbered : (e n : ℕ) (ts : Batch Args) → length (numbered e n ts) ≡ length ts
  length-numbered e n [] = refl
  length-numbered e n (t ∷ ts) = ap suc (length-numbered e (suc n) ts)

  -- all of them stand at places of the epoch
  pub all_numbered : (e n : ℕ) (ts : Batch Args) → list_all (λ f. f.0.epoch == e) (numbered e n ts) ≡ true
  all_numbered e n [] = refl
  all_numbered e n (t ∷ ts) = ap (λ b. b && list_all (λ f. f.0.epoch == e) (numbered e (suc n) ts)) (eq-eqb e e refl) ∙ all_numbered e (suc n) ts

  pub joined_same : (B C : Assignment Args) (e g : ℕ) → ((h : ℕ) → h < g → B (record { epoch = e; group = h }) ≡ C (record { epoch = e; group = h })) → joined B e g ≡ joined C e g
  joined_same B C e zero same = refl
  joined_same B C e (suc g) same = λ i. joined_same B C e g (λ h less. same h (omega (arith, less))) i ++ same g (omega arith) i

  pub merged_rises : (c : Config) (B : Assignment Args) (e : ℕ) → Rises (merged c B e)
  merged_rises c B e = numbered_rises e 0 (together c B e)

  module _ (B : Assignment Args) (e : ℕ) where
    pub joined_none : (g : ℕ) → ((h : ℕ) → h < g → B (record { epoch = e; group = h }) ≡ []) → joined B e g ≡ []
    joined_none zero none = refl
    joined_none (suc g) none = λ i. joined_none g (λ h less. none h (omega (arith, less))) i ++ none g (omega arith) i

  -- however an epoch is ordered, it has the requests of its batches
  pub length-merged : (c : Config) (B : Assignment Args) (e : ℕ) → length (merged c B e) ≡ length (joined B e c.partitions)
  length-merged c B e = length-numbered e 0 (together c B e) ∙ go (is_woven c.woven_from e)
    where
      go : (w : Bool) → length (cond w (woven B e c.partitions) (joined B e c.partitions)) ≡ length (joined B e c.partitions)
      go true = length-woven B e c.partitions
      go false = refl

-- what is made of each request is made of each in the merged order
module _ {T U : Type 0} (f : T → U) where
  numbered_each : (e n : ℕ) (ts : List T) → map (λ p. (p.0, f p.1)) (numbered e n ts) ≡ numbered e n (map f ts)
  numbered_each e n [] = refl
  numbered_each e n (t ∷ ts) = ap (λ ps. (record { epoch = e; n = n }, f t) ∷ ps) (numbered_each e (suc n) ts)

  joined_each : (B : Slot → List T) (e g : ℕ) → map f (joined B e g) ≡ joined (λ slot. map f (B slot)) e g
  joined_each B e zero = refl
  joined_each B e (suc g) = map-append f (joined B e g) (B (record { epoch = e; group = g })) ∙ ap (λ ts. ts ++ map f (B (record { epoch = e; group = g }))) (joined_each B e g)

  woven_each : (B : Slot → List T) (e g : ℕ) → map f (woven B e g) ≡ woven (λ slot. map f (B slot)) e g
  woven_each B e g =
      layers_each f B e g (length (joined B e g))
      ∙ ap (layers (λ slot. map f (B slot)) e g) (sym (length-map (joined B e g) f) ∙ ap length (joined_each B e g))

  together_each : (c : Config) (B : Slot → List T) (e : ℕ) → map f (together c B e) ≡ together c (λ slot. map f (B slot)) e
  together_each c B e = go (is_woven c.woven_from e)
    where
      go : (w : Bool) → map f (cond w (woven B e c.partitions) (joined B e c.partitions)) ≡ cond w (woven (λ slot. map f (B slot)) e c.partitions) (joined (λ slot. map f (B slot)) e c.partitions)
      go true = woven_each B e c.partitions
      go false = joined_each B e c.partitions

  pub merged_each : (c : Config) (B : Slot → List T) (e : ℕ) → map (λ p. (p.0, f p.1)) (merged c B e) ≡ merged c (λ slot. map f (B slot)) e
  merged_each c B e = numbered_each e 0 (together c B e) ∙ ap (numbered e 0) (together_each c B e)
