-- Batches that take turns give what a weave of them gives.
use Rattle.std.proofs.Common.{◌≡◌, ℕ, zero, suc, ◌+◌, ◌≤◌, List, [], ◌∷◌, ◌++◌, length, take, map, refl, sym, ap, ◌∙◌, append_assoc, append-nil, length-append, arith}
use Rattle.std.proofs.lemmas.List.{map-append}
use Rattle.calvin_types.specs.declared.place.Slot.{Slot}
use Rattle.calvin_order.specs.Configs.{at_number, layer, layers, woven}
use Rattle.calvin_order.specs.Merged.{joined}
use Rattle.calvin_order.specs.Walking.{flat, across, columns, in_turns, turned, batches_from}

module _ {T : Type 0} where
  flat-append : (bs cs : List (List T)) → flat (bs ++ cs) ≡ flat bs ++ flat cs
  flat-append [] cs = refl
  flat-append (b ∷ bs) cs = ap (λ l. b ++ l) (flat-append bs cs) ∙ sym (append_assoc b (flat bs) (flat cs))

  -- a request of a list at the end of each of as many columns
  abbrev below : List T → List (List T) → List (List T)
  below [] cs = cs
  below (t ∷ ts) [] = (t ∷ []) ∷ below ts []
  below (t ∷ ts) (c ∷ cs) = (c ++ t ∷ []) ∷ below ts cs

  below_none : (ts : List T) → below ts [] ≡ across ts []
  below_none [] = refl
  below_none (t ∷ ts) = ap (λ cs. (t ∷ []) ∷ cs) (below_none ts)

  across_below : (b ts : List T) (cs : List (List T)) → across b (below ts cs) ≡ below ts (across b cs)
  across_below [] ts cs = refl
  across_below (t ∷ b) [] cs = refl
  across_below (t ∷ b) (u ∷ us) [] = ap (λ cs. (t ∷ u ∷ []) ∷ cs) (across_below b us [])
  across_below (t ∷ b) (u ∷ us) (c ∷ cs) = ap (λ ds. (t ∷ c ++ u ∷ []) ∷ ds) (across_below b us cs)

  columns_last : (bs : List (List T)) (ts : List T) → columns (bs ++ ts ∷ []) ≡ below ts (columns bs)
  columns_last [] ts = sym (below_none ts)
  columns_last (b ∷ bs) ts = ap (across b) (columns_last bs ts) ∙ across_below b ts (columns bs)

  one_given : (t : T) (ts : List T) (cs : List (List T)) → flat (across (t ∷ ts) cs) ≡ t ∷ flat (below ts cs)
  one_given t [] [] = refl
  one_given t [] (c ∷ cs) = refl
  one_given t (u ∷ us) [] = ap (λ l. t ∷ l) (one_given u us [])
  one_given t (u ∷ us) (c ∷ cs) = ap (λ l. t ∷ c ++ l) (one_given u us cs) ∙ ap (λ l. t ∷ l) (sym (append_assoc c (u ∷ []) (flat (below us cs))))

  -- the batch whose turn it is gives its first request and waits behind the others
  pub turn : (b : List T) (qs : List (List T)) → in_turns (b ∷ qs) ≡ take 1 b ++ in_turns (turned b qs)
  turn [] qs = refl
  turn (t ∷ []) qs = one_given t [] (columns qs)
  turn (t ∷ u ∷ us) qs = one_given t (u ∷ us) (columns qs) ∙ ap (λ cs. t ∷ flat cs) (sym (columns_last qs (u ∷ us)))

  pub turned_behind : (b : List T) (xs qs : List (List T)) → turned b (xs ++ qs) ≡ xs ++ turned b qs
  turned_behind [] xs qs = refl
  turned_behind (t ∷ []) xs qs = refl
  turned_behind (t ∷ u ∷ us) xs qs = append_assoc xs qs ((u ∷ us) ∷ [])

  -- nothing is lost of it
  pub length-turned : (b : List T) (qs : List (List T)) → length (take 1 b) + length (flat (turned b qs)) ≡ length b + length (flat qs)
  length-turned [] qs = refl
  length-turned (t ∷ []) qs = refl
  length-turned (t ∷ u ∷ us) qs =
      omega (arith, ap length (flat-append qs ((u ∷ us) ∷ [])), length-append (flat qs) (flat ((u ∷ us) ∷ [])), length-append (u ∷ us) (flat {T = T} []))

  pub turned_few : (b : List T) (qs : List (List T)) → length (turned b qs) ≤ length qs + 1
  turned_few [] qs = omega arith
  turned_few (t ∷ []) qs = omega arith
  turned_few (t ∷ u ∷ us) qs = omega (arith, length-append qs ((u ∷ us) ∷ []))

  -- ---- the columns of batches are the layers of their weave

  abbrev at_column : List (List T) → ℕ → List T
  at_column [] n = []
  at_column (c ∷ cs) zero = c
  at_column (c ∷ cs) (suc n) = at_column cs n

  abbrev first_columns : List (List T) → ℕ → List T
  first_columns cs zero = []
  first_columns cs (suc k) = first_columns cs k ++ at_column cs k

  at_column-below : (ts : List T) (cs : List (List T)) (n : ℕ) → at_column (below ts cs) n ≡ at_column cs n ++ at_number ts n
  at_column-below [] cs n = sym (append-nil (at_column cs n))
  at_column-below (t ∷ ts) [] zero = refl
  at_column-below (t ∷ ts) [] (suc n) = at_column-below ts [] n
  at_column-below (t ∷ ts) (c ∷ cs) zero = refl
  at_column-below (t ∷ ts) (c ∷ cs) (suc n) = at_column-below ts cs n

  first_none : (k : ℕ) → first_columns [] k ≡ []
  first_none zero = refl
  first_none (suc k) = append-nil (first_columns [] k) ∙ first_none k

  first_more : (c : List T) (cs : List (List T)) (k : ℕ) → first_columns (c ∷ cs) (suc k) ≡ c ++ first_columns cs k
  first_more c cs zero = sym (append-nil c)
  first_more c cs (suc k) = ap (λ l. l ++ at_column cs k) (first_more c cs k) ∙ append_assoc c (first_columns cs k) (at_column cs k)

  first_all : (cs : List (List T)) (k : ℕ) → length cs ≤ k → first_columns cs k ≡ flat cs
  first_all [] k upto = first_none k
  first_all (c ∷ cs) zero upto = absurd (omega (arith, upto))
  first_all (c ∷ cs) (suc k) upto = first_more c cs k ∙ ap (λ l. c ++ l) (first_all cs k (omega (arith, upto)))

  length-below : (ts : List T) (cs : List (List T)) → length (below ts cs) ≤ length ts + length cs
  length-below [] cs = omega arith
  length-below (t ∷ ts) [] = let more = length-below ts [] in omega (arith, more)
  length-below (t ∷ ts) (c ∷ cs) = let more = length-below ts cs in omega (arith, more)

  length-across : (b : List T) (cs : List (List T)) → length (flat (across b cs)) ≡ length b + length (flat cs)
  length-across [] cs = omega arith
  length-across (t ∷ ts) [] = let more = length-across ts [] in omega (arith, more)
  length-across (t ∷ ts) (c ∷ cs) =
      let more = length-across ts cs in
      let here = length-append c (flat (across ts cs)) in
      let all = length-append c (flat cs) in
      omega (arith, more, here, all)

  length-in_turns : (bs : List (List T)) → length (in_turns bs) ≡ length (flat bs)
  length-in_turns [] = refl
  length-in_turns (b ∷ bs) =
      let more = length-in_turns bs in
      let here = length-across b (columns bs) in
      let all = length-append b (flat bs) in
      omega (arith, more, here, all)

  module _ (B : Slot → List T) (e : ℕ) where
    -- the batches of the groups below g
    abbrev batches : ℕ → List (List T)
    batches zero = []
    batches (suc g) = batches g ++ B (record { epoch = e; group = g }) ∷ []

    batches_on : (g k : ℕ) → batches g ++ batches_from B e g k ≡ batches (g + k)
    batches_on g zero = let same : g ≡ g + 0 = omega arith in append-nil (batches g) ∙ ap batches same
    batches_on g (suc k) =
        let next : suc g + k ≡ g + suc k = omega arith in
        sym (append_assoc (batches g) (B (record { epoch = e; group = g }) ∷ []) (batches_from B e (suc g) k)) ∙ batches_on (suc g) k ∙ ap batches next

    pub all_batches : (g : ℕ) → batches_from B e 0 g ≡ batches g
    all_batches g = let same : 0 + g ≡ g = omega arith in batches_on 0 g ∙ ap batches same

    flat-batches : (g : ℕ) → flat (batches g) ≡ joined B e g
    flat-batches zero = refl
    flat-batches (suc g) =
        flat-append (batches g) (B (record { epoch = e; group = g }) ∷ []) ∙ ap (λ l. flat (batches g) ++ l) (append-nil (B (record { epoch = e; group = g }))) ∙ ap (λ l. l ++ B (record { epoch = e; group = g })) (flat-batches g)

    layer_is : (g n : ℕ) → layer B e g n ≡ at_column (columns (batches g)) n
    layer_is zero n = refl
    layer_is (suc g) n =
        ap (λ l. l ++ at_number (B (record { epoch = e; group = g })) n) (layer_is g n)
        ∙ sym (at_column-below (B (record { epoch = e; group = g })) (columns (batches g)) n)
        ∙ ap (λ cs. at_column cs n) (sym (columns_last (batches g) (B (record { epoch = e; group = g }))))

    layers_are : (g k : ℕ) → layers B e g k ≡ first_columns (columns (batches g)) k
    layers_are g zero = refl
    layers_are g (suc k) = λ i. layers_are g k i ++ layer_is g k i

    length-columns : (g : ℕ) → length (columns (batches g)) ≤ length (joined B e g)
    length-columns zero = omega arith
    length-columns (suc g) =
        let b = B (record { epoch = e; group = g }) in
        let before = length-columns g in
        let here = ap length (columns_last (batches g) b) in
        let more = length-below b (columns (batches g)) in
        let all = length-append (joined B e g) b in
        omega (arith, before, here, more, all)

    pub woven_is : (g : ℕ) → in_turns (batches_from B e 0 g) ≡ woven B e g
    woven_is g = ap in_turns (all_batches g) ∙ sym (first_all (columns (batches g)) (length (joined B e g)) (length-columns g)) ∙ sym (layers_are g (length (joined B e g)))

    pub joined_is : (g : ℕ) → flat (batches_from B e 0 g) ≡ joined B e g
    joined_is g = ap flat (all_batches g) ∙ flat-batches g

    -- a weave has as many requests as its batches
    pub length-woven : (g : ℕ) → length (woven B e g) ≡ length (joined B e g)
    length-woven g = ap length (sym (woven_is g)) ∙ length-in_turns (batches_from B e 0 g) ∙ ap length (joined_is g)

-- what is made of each request is made of each of a weave
module _ {T U : Type 0} (f : T → U) where
  at_number_each : (b : List T) (n : ℕ) → map f (at_number b n) ≡ at_number (map f b) n
  at_number_each [] n = refl
  at_number_each (t ∷ ts) zero = refl
  at_number_each (t ∷ ts) (suc n) = at_number_each ts n

  module _ (B : Slot → List T) (e : ℕ) where
    layer_each : (g n : ℕ) → map f (layer B e g n) ≡ layer (λ slot. map f (B slot)) e g n
    layer_each zero n = refl
    layer_each (suc g) n =
        map-append f (layer B e g n) (at_number (B (record { epoch = e; group = g })) n)
        ∙ (λ i. layer_each g n i ++ at_number_each (B (record { epoch = e; group = g })) n i)

    pub layers_each : (g k : ℕ) → map f (layers B e g k) ≡ layers (λ slot. map f (B slot)) e g k
    layers_each g zero = refl
    layers_each g (suc k) = map-append f (layers B e g k) (layer B e g k) ∙ (λ i. layers_each g k i ++ layer_each g k i)
