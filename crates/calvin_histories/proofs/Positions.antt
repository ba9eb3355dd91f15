-- Lists of the numbers of each sender's packets.
--     positions_more      one packet more
--     positions_count      how many are in it
--     found, is_found      what stands in such a list, and that it stands there
use Rattle.std.proofs.Common.{◌≡◌, ℕ, zero, suc, ◌+◌, Bool, true, false, cond, List, [], ◌∷◌, ◌++◌, length, take, Some, refl, sym, ap, ◌∙◌, arith}
use Rattle.std.specs.List.{filter}
use Rattle.std.specs.Prelude.{slice_get}
use Rattle.std.proofs.lemmas.Bool.{false≢true}
use Rattle.std.proofs.lemmas.Option.{none-some}
use Rattle.calvin_types.specs.declared.place.NodeId.{NodeId}
use Rattle.calvin_node_packets.specs.Packets.{same_node}
use Rattle.calvin_histories.specs.Positions.{positions}

module _ (id : NodeId) where
  abbrev is_here : NodeId → Bool
  is_here sender = same_node sender id

  -- how many of the first ones are from the node
  abbrev pub count : ℕ → List NodeId → ℕ
  count n senders = length (filter is_here (take n senders))

  pub positions_more : (n : ℕ) (senders : List NodeId) (sender : NodeId) → positions id n (senders ++ sender ∷ []) ≡ positions id n senders ++ cond (is_here sender) ((n + length senders) ∷ []) []
  positions_more n [] sender = go (is_here sender)
    where
      go : (b : Bool) → cond b (n ∷ []) [] ≡ cond b ((n + 0) ∷ []) []
      go true = let e : n ≡ n + 0 = omega arith in ap (λ k. k ∷ []) e
      go false = refl
  positions_more n (s ∷ senders) sender = go (is_here s)
      (positions_more (suc n) senders sender ∙ (let e : suc n + length senders ≡ n + suc (length senders) = omega arith in ap (λ k. positions id (suc n) senders ++ cond (is_here sender) (k ∷ []) []) e))
    where
      go : (b : Bool) → positions id (suc n) (senders ++ sender ∷ []) ≡ positions id (suc n) senders ++ cond (is_here sender) ((n + suc (length senders)) ∷ []) []
          → cond b (n ∷ positions id (suc n) (senders ++ sender ∷ [])) (positions id (suc n) (senders ++ sender ∷ [])) ≡ cond b (n ∷ positions id (suc n) senders) (positions id (suc n) senders) ++ cond (is_here sender) ((n + suc (length senders)) ∷ []) []
      go true rest = ap (λ ks. n ∷ ks) rest
      go false rest = rest

  pub positions_count : (n : ℕ) (senders : List NodeId) → length (positions id n senders) ≡ length (filter is_here senders)
  positions_count n [] = refl
  positions_count n (s ∷ senders) = go (is_here s) (positions_count (suc n) senders)
    where
      go : (b : Bool) → length (positions id (suc n) senders) ≡ length (filter is_here senders) → length (cond b (n ∷ positions id (suc n) senders) (positions id (suc n) senders)) ≡ length (cond b (s ∷ filter is_here senders) (filter is_here senders))
      go true e = ap suc e
      go false e = e

  -- what stands at a place of the list
  pub record Found (n : ℕ) (senders : List NodeId) (k j : ℕ) : Type 0 where
    pub at : ℕ
    pub number : j ≡ n + at
    pub sender : NodeId
    pub there : slice_get senders at ≡ Some sender
    pub here : is_here sender ≡ true
    pub before : count at senders ≡ k

  pub found : (n : ℕ) (senders : List NodeId) (k j : ℕ) → slice_get (positions id n senders) k ≡ Some j → Found n senders k j
  found n [] k j e = absurd (none-some j e)
  found n (s ∷ senders) k j e = go (is_here s) refl k e (λ k e. found (suc n) senders k j e)
    where
      later : (b : Bool) → is_here s ≡ b → (k k' : ℕ) → k' ≡ length (cond b (s ∷ []) []) + k → Found (suc n) senders k j → Found n (s ∷ senders) k' j
      later b is k k' sum f = record {
        at = suc f.at;
        number = let e = f.number in omega (arith, e);
        sender = f.sender;
        there = f.there;
        here = f.here;
        before = counted b is ∙ sym sum;
      }
        where
          counted : (b : Bool) → is_here s ≡ b → length (cond (is_here s) (s ∷ filter is_here (take f.at senders)) (filter is_here (take f.at senders))) ≡ length (cond b (s ∷ []) []) + k
          counted true is = (λ i. length (cond (is i) (s ∷ filter is_here (take f.at senders)) (filter is_here (take f.at senders)))) ∙ ap suc f.before ∙ omega arith
          counted false is = (λ i. length (cond (is i) (s ∷ filter is_here (take f.at senders)) (filter is_here (take f.at senders)))) ∙ f.before ∙ omega arith

      go : (b : Bool) → is_here s ≡ b → (k : ℕ) → slice_get (cond b (n ∷ positions id (suc n) senders) (positions id (suc n) senders)) k ≡ Some j → ((k : ℕ) → slice_get (positions id (suc n) senders) k ≡ Some j → Found (suc n) senders k j) → Found n (s ∷ senders) k j
      go true is zero e rest = record { at = 0; number = (let same : n ≡ j = cc in omega (arith, same)); sender = s; there = refl; here = is; before = refl }
      go true is (suc k) e rest = later true is k (suc k) (omega arith) (rest k e)
      go false is k e rest = later false is k k (omega arith) (rest k e)

  pub is_found : (n : ℕ) (senders : List NodeId) (at : ℕ) (sender : NodeId) → slice_get senders at ≡ Some sender → is_here sender ≡ true → slice_get (positions id n senders) (count at senders) ≡ Some (n + at)
  is_found n [] at sender there here = absurd (none-some sender there)
  is_found n (s ∷ senders) zero sender there here = go (is_here s) (let same : s ≡ sender = cc in ap is_here same ∙ here)
    where
      go : (b : Bool) → b ≡ true → slice_get (cond b (n ∷ positions id (suc n) senders) (positions id (suc n) senders)) 0 ≡ Some (n + 0)
      go true e = ap Some (omega arith)
      go false e = absurd (false≢true e)
  is_found n (s ∷ senders) (suc at) sender there here = go (is_here s) (is_found (suc n) senders at sender there here ∙ ap Some (omega arith))
    where
      go : (b : Bool) → slice_get (positions id (suc n) senders) (count at senders) ≡ Some (n + suc at)
          → slice_get (cond b (n ∷ positions id (suc n) senders) (positions id (suc n) senders)) (length (cond b (s ∷ filter is_here (take at senders)) (filter is_here (take at senders)))) ≡ Some (n + suc at)
      go true rest = rest
      go false rest = rest
