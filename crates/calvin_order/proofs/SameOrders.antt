-- Configurations of as many partitions, in which the same epochs are woven, have the same order.
use Rattle.std.proofs.Common.{◌≡◌, ℕ, zero, suc, ◌++◌, refl, cond}
use Rattle.calvin_order.specs.Configs.{Config, is_woven, woven, merged, stretch, order}
use Rattle.calvin_order.specs.Merged.{Assignment, joined, numbered}

module _ {Args : Type 0} (c d : Config) (B : Assignment Args) (parts : c.partitions ≡ d.partitions) (weave : c.woven_from ≡ d.woven_from) where
  pub same_epoch : (e : ℕ) → merged c B e ≡ merged d B e
  same_epoch e = λ i. numbered e 0 (cond (is_woven (weave i) e) (woven B e (parts i)) (joined B e (parts i)))

  pub same_epochs : (e n : ℕ) → stretch c B e n ≡ stretch d B e n
  same_epochs e zero = refl
  same_epochs e (suc n) = λ i. same_epoch e i ++ same_epochs (suc e) n i

  pub same_first : (n : ℕ) → order c B n ≡ order d B n
  same_first n = same_epochs 0 n
