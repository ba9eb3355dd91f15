-- Epochs of a configuration: their places rise, they join, and only the slots of their epochs matter.
use Rattle.std.proofs.Common.{◌≡◌, cond, length, ℕ, zero, suc, ◌+◌, ◌-◌, ◌<◌, ◌≤◌, ◌++◌, inl, inr, refl, sym, ap, subst, ◌∙◌, arith, append_assoc, append-nil}
use Rattle.calvin_types.specs.declared.place.Slot.{Slot}
use Rattle.calvin_types.specs.declared.place.Place.{Place}
use Rattle.calvin_types.specs.declared.txn.Txn.{Txn}
use Rattle.calvin_types.specs.Orders.{StandsAt, Rises, from_place}
use Rattle.calvin_order.specs.Merged.{Assignment, joined, numbered, end_of}
use Rattle.calvin_order.specs.Configs.{Config, is_woven, at_number, layer, layers, woven, together, merged, stretch, order}
use Rattle.calvin_order.proofs.Places.{before_by_epoch, before_end}
use Rattle.calvin_order.proofs.Standing.{stands_split, stands_left, stands_right, rises_joined, from_joined, from_none, from_all}
use Rattle.calvin_order.proofs.Joining.{numbered_stands, numbered_rises, joined_same}

module _ {Args : Type 0} where
  -- only the slots of the epoch matter
  layer_same : (B C : Assignment Args) (e g n : ℕ) → ((h : ℕ) → h < g → B (record { epoch = e; group = h }) ≡ C (record { epoch = e; group = h })) → layer B e g n ≡ layer C e g n
  layer_same B C e zero n same = refl
  layer_same B C e (suc g) n same = λ i. layer_same B C e g n (λ h less. same h (omega (arith, less))) i ++ at_number (same g (omega arith) i) n

  layers_same : (B C : Assignment Args) (e g k : ℕ) → ((h : ℕ) → h < g → B (record { epoch = e; group = h }) ≡ C (record { epoch = e; group = h })) → layers B e g k ≡ layers C e g k
  layers_same B C e g zero same = refl
  layers_same B C e g (suc k) same = λ i. layers_same B C e g k same i ++ layer_same B C e g k same i

  woven_same : (B C : Assignment Args) (e g : ℕ) → ((h : ℕ) → h < g → B (record { epoch = e; group = h }) ≡ C (record { epoch = e; group = h })) → woven B e g ≡ woven C e g
  woven_same B C e g same = layers_same B C e g (length (joined B e g)) same ∙ ap (λ ts. layers C e g (length ts)) (joined_same B C e g same)

  together_same : (c : Config) (B C : Assignment Args) (e : ℕ) → ((g : ℕ) → g < c.partitions → B (record { epoch = e; group = g }) ≡ C (record { epoch = e; group = g })) → together c B e ≡ together c C e
  together_same c B C e same = λ i. cond (is_woven c.woven_from e) (woven_same B C e c.partitions same i) (joined_same B C e c.partitions same i)

  pub merged_same : (c : Config) (B C : Assignment Args) (e : ℕ) → ((g : ℕ) → g < c.partitions → B (record { epoch = e; group = g }) ≡ C (record { epoch = e; group = g })) → merged c B e ≡ merged c C e
  merged_same c B C e same = ap (numbered e 0) (together_same c B C e same)

  module _ (c : Config) (B : Assignment Args) where
    pub stretch_stands : (e n : ℕ) (q : Place) (t : Txn Args) → StandsAt (stretch c B e n) q t → (e ≤ q.epoch) × (q.epoch < e + n)
    stretch_stands e zero q t at = absurd at
    stretch_stands e (suc n) q t at = elim (stands_split (merged c B e) (stretch c B (suc e) n) q t at) [
      | inl here ↦ let is = (numbered_stands e 0 (together c B e) q t here).0 in (omega (arith, is), omega (arith, is))
      | inr there ↦ let more = stretch_stands (suc e) n q t there in let low = more.0 in let high = more.1 in (omega (arith, low), omega (arith, high))
    ]

    pub stretch_rises : (e n : ℕ) → Rises (stretch c B e n)
    stretch_rises e zero = tt
    stretch_rises e (suc n) = rises_joined (merged c B e) (stretch c B (suc e) n) (numbered_rises e 0 (together c B e)) (stretch_rises (suc e) n)
        (λ p t at q u there. before_by_epoch p q (let is = (numbered_stands e 0 (together c B e) p t at).0 in let low = (stretch_stands (suc e) n q u there).0 in omega (arith, is, low)))

    pub order_rises : (n : ℕ) → Rises (order c B n)
    order_rises n = stretch_rises 0 n

    -- n epochs from e on are a, and then b from f on
    pub stretch_on : (e a b n f : ℕ) → n ≡ a + b → f ≡ e + a → stretch c B e n ≡ stretch c B e a ++ stretch c B f b
    stretch_on e zero b n f all next = let same : n ≡ b = omega (arith, all) in let start : e ≡ f = omega (arith, next) in λ i. stretch c B (start i) (same i)
    stretch_on e (suc a) b zero f all next = absurd (omega (arith, all))
    stretch_on e (suc a) b (suc n) f all next =
        ap (λ more. merged c B e ++ more) (stretch_on (suc e) a b n f (omega (arith, all)) (omega (arith, next)))
        ∙ sym (append_assoc (merged c B e) (stretch c B (suc e) a) (stretch c B f b))

    -- one more epoch
    pub order_next : (n : ℕ) → order c B (suc n) ≡ order c B n ++ merged c B n
    order_next n = stretch_on 0 n 1 (suc n) n (omega arith) (omega arith) ∙ ap (λ more. order c B n ++ more) (append-nil (merged c B n))

    -- what stands in a stretch stands in the part of it that has its epoch
    pub stands_within : (e n f k : ℕ) (q : Place) (t : Txn Args) → e ≤ f → f + k ≤ e + n → f ≤ q.epoch → q.epoch < f + k → StandsAt (stretch c B e n) q t → StandsAt (stretch c B f k) q t
    stands_within e n f k q t low high from below at =
        elim (stands_split (stretch c B e (f - e)) (stretch c B f (n - (f - e))) q t (subst (λ es. StandsAt es q t) (stretch_on e (f - e) (n - (f - e)) n f (omega (arith, low, high, from, below)) (omega (arith, low))) at)) [
          | inl early ↦ absurd (let less = (stretch_stands e (f - e) q t early).1 in omega (arith, less, from, low))
          | inr rest ↦ elim (stands_split (stretch c B f k) (stretch c B (f + k) (n - (f - e) - k)) q t (subst (λ es. StandsAt es q t) (stretch_on f k (n - (f - e) - k) (n - (f - e)) (f + k) (omega (arith, low, high)) refl) rest)) [
            | inl here ↦ here
            | inr late ↦ absurd (let more = (stretch_stands (f + k) (n - (f - e) - k) q t late).0 in omega (arith, more, below))
          ]
        ]

    pub stands_beyond : (e n f k : ℕ) (q : Place) (t : Txn Args) → e ≤ f → f + k ≤ e + n → StandsAt (stretch c B f k) q t → StandsAt (stretch c B e n) q t
    stands_beyond e n f k q t low high at =
        subst (λ es. StandsAt es q t) (sym (stretch_on e (f - e) (n - (f - e)) n f (omega (arith, low, high)) (omega (arith, low))))
        (stands_right (stretch c B e (f - e)) (stretch c B f (n - (f - e))) q t
        (subst (λ es. StandsAt es q t) (sym (stretch_on f k (n - (f - e) - k) (n - (f - e)) (f + k) (omega (arith, low, high)) refl))
        (stands_left (stretch c B f k) (stretch c B (f + k) (n - (f - e) - k)) q t at)))

    pub from_end : (n f : ℕ) → f ≤ n → from_place (end_of f) (order c B n) ≡ stretch c B f (n - f)
    from_end n f upto =
        ap (from_place (end_of f)) (stretch_on 0 f (n - f) n f (omega (arith, upto)) (omega arith))
        ∙ from_joined (order c B f) (stretch c B f (n - f)) (end_of f)
        ∙ (λ i. from_none (order c B f) (end_of f) (λ q t at. before_by_epoch q (end_of f) (let less = (stretch_stands 0 f q t at).1 in omega (arith, less))) i
        ++ from_all (stretch c B f (n - f)) (end_of f) (λ q t at early. let less = before_end q f early in let low = (stretch_stands f (n - f) q t at).0 in omega (arith, less, low)) i)

  pub stretch_same : (c : Config) (B C : Assignment Args) (e n : ℕ) → ((slot : Slot) → e ≤ slot.epoch → slot.epoch < e + n → slot.group < c.partitions → B slot ≡ C slot) → stretch c B e n ≡ stretch c C e n
  stretch_same c B C e zero same = refl
  stretch_same c B C e (suc n) same = λ i.
      merged_same c B C e (λ g less. same (record { epoch = e; group = g }) (omega arith) (omega arith) less) i
      ++ stretch_same c B C (suc e) n (λ slot low high less. same slot (omega (arith, low)) (omega (arith, high)) less) i
