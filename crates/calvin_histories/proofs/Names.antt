-- A packet's name is that of no other packet.
--     named_once      two numbers of one name are the same
use Rattle.std.proofs.Common.{◌≡◌, ◌⊎◌, ℕ, zero, suc, ◌<◌, ◌≤◌, Bool, true, false, cond, List, [], ◌∷◌, length, take, Some, inl, inr, sym, ap, subst, ◌∙◌, arith}
use Rattle.std.specs.List.{filter}
use Rattle.std.specs.Prelude.{slice_get}
use Rattle.std.proofs.lemmas.Bool.{cases_lt, cases_eq}
use Rattle.std.proofs.lemmas.Option.{none-some}
use Rattle.calvin_node_packets.specs.Packets.{same_node}
use Rattle.calvin_node_packets.specs.declared.packet.Packet.{Packet}
use Rattle.calvin_world.specs.declared.naming.PacketName.{PacketName}
use Rattle.calvin_world.specs.Names.{sent_by, IsNamed}
use Rattle.calvin_histories.proofs.Sent.{same_node_self}

-- among more of a list at least as many pass a test, and one more where one that passes comes between
module _ {X : Type 0} (test : X → Bool) where
  fewer : (xs : List X) (n k : ℕ) → n ≤ k → length (filter test (take n xs)) ≤ length (filter test (take k xs))
  fewer [] zero k le = omega arith
  fewer [] (suc n) zero le = absurd (omega (arith, le))
  fewer [] (suc n) (suc k) le = omega arith
  fewer (x ∷ xs) zero k le = omega arith
  fewer (x ∷ xs) (suc n) zero le = absurd (omega (arith, le))
  fewer (x ∷ xs) (suc n) (suc k) le = go (test x) (fewer xs n k (omega (arith, le)))
    where
      go : (b : Bool) → length (filter test (take n xs)) ≤ length (filter test (take k xs)) → length (cond b (x ∷ filter test (take n xs)) (filter test (take n xs))) ≤ length (cond b (x ∷ filter test (take k xs)) (filter test (take k xs)))
      go true h = omega (arith, h)
      go false h = h

  pub more : (xs : List X) (n k : ℕ) (x : X) → n < k → slice_get xs n ≡ Some x → test x ≡ true → length (filter test (take n xs)) < length (filter test (take k xs))
  more [] n k x less at passes = absurd (none-some x at)
  more (y ∷ xs) n zero x less at passes = absurd (omega (arith, less))
  more (y ∷ xs) zero (suc k) x less at passes =
      let is : y ≡ x = cc in
      subst (λ b. 0 < length (cond b (y ∷ filter test (take k xs)) (filter test (take k xs)))) (sym (ap test is ∙ passes)) (omega arith)
  more (y ∷ xs) (suc n) (suc k) x less at passes = go (test y) (more xs n k x (omega (arith, less)) at passes)
    where
      go : (b : Bool) → length (filter test (take n xs)) < length (filter test (take k xs)) → length (cond b (y ∷ filter test (take n xs)) (filter test (take n xs))) < length (cond b (y ∷ filter test (take k xs)) (filter test (take k xs)))
      go true h = omega (arith, h)
      go false h = h

module _ {Args Row Reply : Type 0} (packets : List (Packet Args Row Reply)) (name : PacketName) where
  -- how many the sender had sent before
  count : (n : ℕ) (is : IsNamed packets name n) → length (sent_by name.sender (take n packets)) ≡ name.number
  count n (p, at, same) = (λ i. length (sent_by (sym same i).sender (take n packets))) ∙ ap (λ (name : PacketName). name.number) same

  less : (n k : ℕ) → IsNamed packets name n → IsNamed packets name k → n < k → ⊥
  less n k (p, at, same) other before =
      let from : same_node p.from name.sender ≡ true = (λ i. same_node p.from (sym same i).sender) ∙ same_node_self p.from in
      let grows = more (λ p. same_node p.from name.sender) packets n k p before at from in
      let here = count n (p, at, same) in
      let there = count k other in
      omega (arith, grows, here, there)

  pub named_once : (n k : ℕ) → IsNamed packets name n → IsNamed packets name k → n ≡ k
  named_once n k one other = go (cases_eq n k) (cases_lt n k)
    where
      go : (n ≡ k) ⊎ ((n ≡ k) → ⊥) → (n < k) ⊎ (k ≤ n) → n ≡ k
      go (inl same) order = same
      go (inr apart) (inl before) = absurd (less n k one other before)
      go (inr apart) (inr after) = go_on (cases_lt k n)
        where
          go_on : (k < n) ⊎ (n ≤ k) → n ≡ k
          go_on (inl before) = absurd (less k n other one before)
          go_on (inr level) = omega (arith, after, level)
