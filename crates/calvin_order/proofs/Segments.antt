-- Requests that follow one another in a merged order, and those that wait in several such parts.
use Rattle.std.proofs.Common.{◌≡◌, ◌⊎◌, ℕ, zero, suc, ◌+◌, ◌<◌, ◌≤◌, inl, inr, List, [], ◌∷◌, ◌++◌, length, drop, map, Some, slice_get, refl, sym, ap, subst, ◌∙◌, append_assoc, append-nil, length-append, arith}
use Rattle.std.proofs.lemmas.List.{drop-drop}
use Rattle.calvin_types.specs.declared.place.Slot.{Slot}
use Rattle.calvin_types.proofs.Fews.{drop_at}
use Rattle.calvin_order.specs.Merged.{joined, numbered}
use Rattle.calvin_order.specs.Walking.{flat}

split_le : (a b : ℕ) → a ≤ b → (a < b) ⊎ (a ≡ b)
split_le zero zero le = inr refl
split_le zero (suc b) le = inl (omega arith)
split_le (suc a) zero le = absurd (omega (arith, le))
split_le (suc a) (suc b) le = ends (split_le a b (omega (arith, le)))
  where
    ends : (a < b) ⊎ (a ≡ b) → (suc a < suc b) ⊎ (suc a ≡ suc b)
    ends (inl less) = inl (omega (arith, less))
    ends (inr same) = inr (ap suc same)

module _ {T : Type 0} where
  pub some_left : (e n g : ℕ) (ts : List T) → g < length ts → 0 < length (numbered e n (drop g ts))
  some_left e n zero [] less = absurd (omega (arith, less))
  some_left e n zero (t ∷ ts) less = omega arith
  some_left e n (suc g) [] less = absurd (omega (arith, less))
  some_left e n (suc g) (t ∷ ts) less = some_left e n g ts (omega (arith, less))

  -- what is found behind those that were given is the first of what is left
  pub first_left : (e n g : ℕ) (ts : List T) (t : T) → slice_get ts g ≡ Some t → numbered e n (drop g ts) ≡ (record { epoch = e; n = n }, t) ∷ drop 1 (numbered e n (drop g ts))
  first_left e n g ts t found =
      let P : List T → Type 0 = λ us. numbered e n us ≡ (record { epoch = e; n = n }, t) ∷ drop 1 (numbered e n us) in
      subst P (sym (drop_at ts g t found)) refl

  next_number : (e n : ℕ) (ts : List T) → drop 1 (numbered e n ts) ≡ numbered e (n + 1) (drop 1 ts)
  next_number e n [] = refl
  next_number e n (t ∷ ts) = let next : suc n ≡ n + 1 = omega arith in ap (λ m. numbered e m ts) next

  -- without the first of what is left, the next one is first
  pub without_first : (e n g : ℕ) (ts : List T) → drop 1 (numbered e n (drop g ts)) ≡ numbered e (n + 1) (drop (g + 1) ts)
  without_first e n g ts = next_number e n (drop g ts) ∙ ap (numbered e (n + 1)) (drop-drop 1 g ts)

  -- past the last of them none is left
  pub none_after : (e n g : ℕ) (ts : List T) → g + 1 ≡ length ts → drop 1 (numbered e n (drop g ts)) ≡ []
  none_after e n g ts all = without_first e n g ts ∙ ap (numbered e (n + 1)) (past (g + 1) ts all)
    where
      past : (k : ℕ) (us : List T) → k ≡ length us → drop k us ≡ []
      past zero [] is = refl
      past zero (u ∷ us) is = absurd (omega (arith, is))
      past (suc k) [] is = refl
      past (suc k) (u ∷ us) is = past k us (omega (arith, is))

  -- what follows is numbered on from there
  numbered_on : (e n : ℕ) (ts us : List T) → numbered e n (ts ++ us) ≡ numbered e n ts ++ numbered e (n + length ts) us
  numbered_on e n [] us = let same : n ≡ n + 0 = omega arith in ap (λ m. numbered e m us) same
  numbered_on e n (t ∷ ts) us =
      let same : suc n + length ts ≡ n + suc (length ts) = omega arith in
      ap (λ ps. (record { epoch = e; n = n }, t) ∷ ps) (numbered_on e (suc n) ts us ∙ ap (λ m. numbered e (suc n) ts ++ numbered e m us) same)

  pub numbered_behind : (e : ℕ) (ts us : List T) → numbered e 0 (ts ++ us) ≡ numbered e 0 ts ++ numbered e (length ts) us
  numbered_behind e ts us = let all : 0 + length ts ≡ length ts = omega arith in numbered_on e 0 ts us ∙ ap (λ m. numbered e 0 ts ++ numbered e m us) all

  -- one more part behind the others
  pub flat_on : (bs cs : List (List T)) → flat (bs ++ cs) ≡ flat bs ++ flat cs
  flat_on [] cs = refl
  flat_on (b ∷ bs) cs = ap (λ l. b ++ l) (flat_on bs cs) ∙ sym (append_assoc b (flat bs) (flat cs))

  pub flat_snoc : (bs : List (List T)) (c : List T) → flat (bs ++ c ∷ []) ≡ flat bs ++ c
  flat_snoc bs c = flat_on bs (c ∷ []) ∙ ap (λ l. flat bs ++ l) (append-nil c)

  -- the requests that stand at places
  pub unnumbered : (e n : ℕ) (ts : List T) → map (λ p. p.1) (numbered e n ts) ≡ ts
  unnumbered e n [] = refl
  unnumbered e n (t ∷ ts) = ap (λ us. t ∷ us) (unnumbered e (suc n) ts)

  -- a part moves from the front of those to come behind those that are there
  pub moved : (bs : List (List T)) (b : List T) (cs : List (List T)) → flat (bs ++ b ∷ []) ++ flat cs ≡ flat bs ++ flat (b ∷ cs)
  moved bs b cs = ap (λ l. l ++ flat cs) (flat_snoc bs b) ∙ append_assoc (flat bs) b (flat cs)

  -- the first request of all is the first one of the first part
  pub first_out : (b : List T) (cs : List (List T)) → 0 < length b → drop 1 (flat (b ∷ cs)) ≡ drop 1 b ++ flat cs
  first_out [] cs some = absurd (omega (arith, some))
  first_out (t ∷ ts) cs some = refl

  -- a batch is no longer than all together
  pub joined_longer : (B : Slot → List T) (e g h : ℕ) → g < h → length (B (record { epoch = e; group = g })) ≤ length (joined B e h)
  joined_longer B e g zero less = absurd (omega (arith, less))
  joined_longer B e g (suc h) less = go (joined_longer B e g h) (split_le g h (omega (arith, less)))
    where
      all : length (joined B e (suc h)) ≡ length (joined B e h) + length (B (record { epoch = e; group = h }))
      all = length-append (joined B e h) (B (record { epoch = e; group = h }))

      go : (g < h → length (B (record { epoch = e; group = g })) ≤ length (joined B e h)) → (g < h) ⊎ (g ≡ h) → length (B (record { epoch = e; group = g })) ≤ length (joined B e (suc h))
      go longer (inl below) = let more = longer below in omega (arith, more, all)
      go longer (inr same) = let is = ap (λ k. length (B (record { epoch = e; group = k }))) same in omega (arith, is, all)
