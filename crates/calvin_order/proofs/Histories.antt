-- What closing an epoch, and being told that one is decided, makes of what is kept of epochs.
use Rattle.std.proofs.Common.{◌≡◌, ℕ, ◌+◌, ◌-◌, ◌<◌, ◌≤◌, ◌^◌, Bool, true, false, cond, ◌||◌, List, [], ◌∷◌, ◌++◌, length, map, ◌⊎◌, inl, inr, Option, Some, None, is_some, IsSome, IfSome, refl, sym, ap, subst, ◌∙◌, arith}
use Rattle.std.specs.Prelude.{nat_eq}
use Rattle.std.specs.List.{list_any, IsDistinct, AllByRecursion}
use Rattle.std.specs.Map.{lookup}
use Rattle.std.specs.Option.{unwrap_or}
use Rattle.std.proofs.lemmas.Bool.{cases_lt, false≢true, true≢false, or_cases, or_left, or_right, eqb-true}
use Rattle.std.proofs.lemmas.Cmp.{nat_eq_equiv}
use Rattle.std.proofs.lemmas.List.Folds.{list_any-append}
use Rattle.calvin_order.specs.Keeping.{history_of, closed_len, IsHistory}
use Rattle.calvin_order.specs.Merged.{Batch}
use Rattle.calvin_order.specs.Sequencing.{Sequencing, closed_in, is_decided, is_used, next_epoch, undecided}
use Rattle.calvin_order.proofs.NextEpochs.{is_next, used_before, next_unused, opens_before}

swap : (a b : ℕ) → nat_eq a b ≡ nat_eq b a
swap a b = go (nat_eq a b) (nat_eq b a) refl refl
  where
    go : (x y : Bool) → nat_eq a b ≡ x → nat_eq b a ≡ y → x ≡ y
    go true true p q = refl
    go false false p q = refl
    go true false p q = let e = eqb-true a b p in absurd (true≢false (sym (nat_eq_equiv.refl b) ∙ ap (nat_eq b) (sym e) ∙ q))
    go false true p q = let e = eqb-true b a q in absurd (true≢false (sym (nat_eq_equiv.refl a) ∙ ap (nat_eq a) (sym e) ∙ p))

-- ---- the epochs that are known as decided

module _ (ds : List ℕ) (e : ℕ) where
  still_decided : (f : ℕ) → list_any (nat_eq f) ds ≡ true → list_any (nat_eq f) (ds ++ e ∷ []) ≡ true
  still_decided f h = list_any-append (nat_eq f) ds (e ∷ []) ∙ or_left (list_any (nat_eq f) ds) _ h

  now_decided : list_any (nat_eq e) (ds ++ e ∷ []) ≡ true
  now_decided = list_any-append (nat_eq e) ds (e ∷ []) ∙ or_right (list_any (nat_eq e) ds) _ (or_left (nat_eq e e) false (nat_eq_equiv.refl e))

  decided_cases : (f : ℕ) → list_any (nat_eq f) (ds ++ e ∷ []) ≡ true → (list_any (nat_eq f) ds ≡ true) ⊎ (f ≡ e)
  decided_cases f h = elim (or_cases (list_any (nat_eq f) ds) (list_any (nat_eq f) (e ∷ [])) (sym (list_any-append (nat_eq f) ds (e ∷ [])) ∙ h)) [
    | inl before ↦ inl before
    | inr last ↦ elim (or_cases (nat_eq f e) false last) [
      | inl same ↦ inr (eqb-true f e same)
      | inr never ↦ absurd (false≢true never)
    ]
  ]

  other_decided : (f : ℕ) → nat_eq f e ≡ false → list_any (nat_eq f) (ds ++ e ∷ []) ≡ list_any (nat_eq f) ds
  other_decided f other = go (list_any (nat_eq f) ds) (list_any (nat_eq f) (ds ++ e ∷ [])) refl refl
    where
      go : (x y : Bool) → list_any (nat_eq f) ds ≡ x → list_any (nat_eq f) (ds ++ e ∷ []) ≡ y → y ≡ x
      go true true p q = refl
      go false false p q = refl
      go true false p q = absurd (true≢false (sym (still_decided f p) ∙ q))
      go false true p q = elim (decided_cases f q) [
        | inl h ↦ absurd (true≢false (sym h ∙ p))
        | inr same ↦ absurd (true≢false (sym (nat_eq_equiv.refl f) ∙ ap (nat_eq f) same ∙ other))
      ]

-- none is decided past the last number
pub end_free : (next : Option ℕ) (ds : List ℕ) → IfSome next (λ e. list_any (nat_eq e) ds ≡ false) → ((e : ℕ) → list_any (nat_eq e) ds ≡ true → e < 2 ^ 64) → list_any (nat_eq (unwrap_or next (2 ^ 64))) ds ≡ false
end_free (Some e) ds free fit = free
end_free None ds free fit = go (list_any (nat_eq (2 ^ 64)) ds) refl
  where
    go : (b : Bool) → list_any (nat_eq (2 ^ 64)) ds ≡ b → b ≡ false
    go false h = refl
    go true h = let less = fit (2 ^ 64) h in absurd (omega (arith, less))

module _ {Args : Type 0} where
  pub lookup_closed : (cs : List (ℕ × Batch Args)) (e : ℕ) → lookup (nat_eq e) cs ≡ closed_in cs e
  lookup_closed [] e = refl
  lookup_closed (c ∷ cs) e = (λ i. cond (swap e c.0 i) (Some c.1) (lookup_closed cs e i))

  -- ---- one more batch

  closed_cases : (cs : List (ℕ × Batch Args)) (e f : ℕ) (batch : Batch Args) → IsSome (closed_in (cs ++ (e, batch) ∷ []) f) → IsSome (closed_in cs f) ⊎ (e ≡ f)
  closed_cases [] e f batch h = go (nat_eq e f) refl h
    where
      go : (b : Bool) → nat_eq e f ≡ b → IsSome (cond b (Some batch) None) → IsSome (closed_in {Args = Args} [] f) ⊎ (e ≡ f)
      go true is h = inr (eqb-true e f is)
      go false is h = inl h
  closed_cases (d ∷ cs) e f batch h = go (nat_eq d.0 f) h (closed_cases cs e f batch)
    where
      go : (b : Bool) → IsSome (cond b (Some d.1) (closed_in (cs ++ (e, batch) ∷ []) f)) → (IsSome (closed_in (cs ++ (e, batch) ∷ []) f) → IsSome (closed_in cs f) ⊎ (e ≡ f)) → IsSome (cond b (Some d.1) (closed_in cs f)) ⊎ (e ≡ f)
      go true h more = inl h
      go false h more = more h

  still_closed : (cs : List (ℕ × Batch Args)) (e f : ℕ) (batch : Batch Args) → IsSome (closed_in cs f) → IsSome (closed_in (cs ++ (e, batch) ∷ []) f)
  still_closed [] e f batch some = absurd (false≢true some)
  still_closed (d ∷ cs) e f batch some = go (nat_eq d.0 f) some (still_closed cs e f batch)
    where
      go : (b : Bool) → IsSome (cond b (Some d.1) (closed_in cs f)) → (IsSome (closed_in cs f) → IsSome (closed_in (cs ++ (e, batch) ∷ []) f)) → IsSome (cond b (Some d.1) (closed_in (cs ++ (e, batch) ∷ []) f))
      go true some more = some
      go false some more = more some

  now_closed : (cs : List (ℕ × Batch Args)) (e : ℕ) (batch : Batch Args) → IsSome (closed_in (cs ++ (e, batch) ∷ []) e)
  now_closed [] e batch = go (nat_eq e e) (nat_eq_equiv.refl e)
    where
      go : (b : Bool) → b ≡ true → IsSome (cond b (Some batch) None)
      go true is = refl
      go false is = absurd (false≢true is)
  now_closed (d ∷ cs) e batch = go (nat_eq d.0 e) (now_closed cs e batch)
    where
      go : (b : Bool) → IsSome (closed_in (cs ++ (e, batch) ∷ []) e) → IsSome (cond b (Some d.1) (closed_in (cs ++ (e, batch) ∷ []) e))
      go true more = refl
      go false more = more

  pub undecided_more : (d : ℕ → Bool) (cs : List (ℕ × Batch Args)) (e : ℕ) (batch : Batch Args) → d e ≡ false → undecided d (cs ++ (e, batch) ∷ []) ≡ undecided d cs + length batch
  undecided_more d [] e batch out = ap (λ b. cond b 0 (length batch) + 0) out ∙ omega arith
  undecided_more d (c ∷ cs) e batch out = let rest = undecided_more d cs e batch out in ap (λ n. cond (d c.0) 0 (length c.1) + n) rest ∙ omega arith

  pub no_later : (cs : List (ℕ × Batch Args)) (n : ℕ) → ((e : ℕ) → IsSome (closed_in cs e) → e < n) → is_some (closed_in cs n) ≡ false
  no_later cs n before = go (is_some (closed_in cs n)) refl
    where
      go : (b : Bool) → is_some (closed_in cs n) ≡ b → b ≡ false
      go false h = refl
      go true h = let less = before n h in absurd (omega (arith, less))

  free_at : (s : Sequencing Args) (n : ℕ) → is_some (closed_in s.closed n) ≡ false → is_decided s n ≡ false → is_used s n ≡ false
  free_at s n closed decided = ap (λ b. b || is_decided s n) closed ∙ decided

  pub unused_parts : (s : Sequencing Args) (n : ℕ) → is_used s n ≡ false → (is_some (closed_in s.closed n) ≡ false) × (is_decided s n ≡ false)
  unused_parts s n h = go (is_some (closed_in s.closed n)) (is_decided s n) h
    where
      go : (x y : Bool) → (x || y) ≡ false → (x ≡ false) × (y ≡ false)
      go true y h = absurd (true≢false h)
      go false y h = (refl, h)

  pub closed_history : (o : ℕ) (cs : List (ℕ × Batch Args)) (ds : List ℕ) (n count e : ℕ) (next : Option ℕ) (batch : Batch Args) → IsHistory n count (history_of o cs ds) → e ≡ next_epoch (history_of o cs ds)
      → IsDistinct nat_eq (map (λ c. c.0) (cs ++ (e, batch) ∷ []))
      → e < unwrap_or next (2 ^ 64) → ((f : ℕ) → e < f → f < unwrap_or next (2 ^ 64) → list_any (nat_eq f) ds ≡ true) → IfSome next (λ f. list_any (nat_eq f) ds ≡ false)
      → IsHistory (unwrap_or next (2 ^ 64)) (count + length batch) (history_of o (cs ++ (e, batch) ∷ []) ds)
  closed_history o cs ds n count e next batch h at distinct from passed free = record {
    next_kept = is_next new (unwrap_or next (2 ^ 64)) (let opens = opens_before old in omega (arith, opens, at, from)) used (free_at new _ (no_later (cs ++ (e, batch) ∷ []) _ before) (end_free next ds free h.decided_fit));
    opens = h.opens;
    once = distinct;
    closed_before = before;
    decided_fit = h.decided_fit;
    counted = ap (λ c. c + length batch) h.counted ∙ sym (undecided_more (is_decided old) cs e batch (unused_parts old e (ap (is_used old) at ∙ next_unused old)).1);
  }
    where
      old : Sequencing Args
      old = history_of o cs ds

      new : Sequencing Args
      new = history_of o (cs ++ (e, batch) ∷ []) ds

      before : (f : ℕ) → IsSome (closed_in (cs ++ (e, batch) ∷ []) f) → f < unwrap_or next (2 ^ 64)
      before f some = elim (closed_cases cs e f batch some) [
        | inl earlier ↦ let less = h.closed_before f earlier in let kept = h.next_kept in omega (arith, less, kept, at, from)
        | inr same ↦ omega (arith, same, from)
      ]

      used : (f : ℕ) → o ≤ f → f < unwrap_or next (2 ^ 64) → is_used new f ≡ true
      used f low high = elim (cases_lt f e) [
        | inl less ↦ elim (or_cases (is_some (closed_in cs f)) (is_decided old f) (used_before old f low (omega (arith, less, at)))) [
          | inl closed ↦ or_left (is_some (closed_in (cs ++ (e, batch) ∷ []) f)) (is_decided new f) (still_closed cs e f batch closed)
          | inr decided ↦ or_right (is_some (closed_in (cs ++ (e, batch) ∷ []) f)) (is_decided new f) decided
        ]
        | inr upto ↦ elim (cases_lt e f) [
          | inl more ↦ or_right (is_some (closed_in (cs ++ (e, batch) ∷ []) f)) (is_decided new f) (passed f more high)
          | inr back ↦ let same : e ≡ f = omega (arith, upto, back) in or_left (is_some (closed_in (cs ++ (e, batch) ∷ []) f)) (is_decided new f) (subst (λ g. IsSome (closed_in (cs ++ (e, batch) ∷ []) g)) same (now_closed cs e batch))
        ]
      ]

  -- ---- one more decided epoch

  apart_none : (a : ℕ) (cs : List (ℕ × Batch Args)) → AllByRecursion (λ b. nat_eq a b ≡ false) (map (λ c. c.0) cs) → closed_in cs a ≡ None
  apart_none a [] all = refl
  apart_none a (c ∷ cs) all = ap (λ b. cond b (Some c.1) (closed_in cs a)) (swap c.0 a ∙ all.0) ∙ apart_none a cs all.1

  pub undecided_told : (ds : List ℕ) (e : ℕ) → list_any (nat_eq e) ds ≡ false → (cs : List (ℕ × Batch Args)) → IsDistinct nat_eq (map (λ c. c.0) cs)
      → undecided (λ f. list_any (nat_eq f) (ds ++ e ∷ [])) cs + closed_len cs e ≡ undecided (λ f. list_any (nat_eq f) ds) cs
  unfolding IsDistinct
  undecided_told ds e out [] d = refl
  undecided_told ds e out (c ∷ cs) d = go (undecided_told ds e out cs d.1) (nat_eq c.0 e) refl
    where
      go : undecided (λ f. list_any (nat_eq f) (ds ++ e ∷ [])) cs + closed_len cs e ≡ undecided (λ f. list_any (nat_eq f) ds) cs → (b : Bool) → nat_eq c.0 e ≡ b
          → (cond (list_any (nat_eq c.0) (ds ++ e ∷ [])) 0 (length c.1) + undecided (λ f. list_any (nat_eq f) (ds ++ e ∷ [])) cs) + length (unwrap_or (cond b (Some c.1) (closed_in cs e)) []) ≡ cond (list_any (nat_eq c.0) ds) 0 (length c.1) + undecided (λ f. list_any (nat_eq f) ds) cs
      go rest false other =
          let same = ap (λ x. cond x 0 (length c.1)) (other_decided ds e c.0 other) in
          omega (arith, same, rest)
      go rest true is =
          let same = eqb-true c.0 e is in
          let none = ap (λ o. length (unwrap_or o [])) (apart_none e cs (subst (λ a. AllByRecursion (λ b. nat_eq a b ≡ false) (map (λ (x : ℕ × Batch Args). x.0) cs)) same d.0)) in
          let told = ap (λ f. cond (list_any (nat_eq f) (ds ++ e ∷ [])) 0 (length c.1)) same ∙ ap (λ x. cond x 0 (length c.1)) (now_decided ds e) in
          let untold = ap (λ f. cond (list_any (nat_eq f) ds) 0 (length c.1)) same ∙ ap (λ x. cond x 0 (length c.1)) out in
          omega (arith, told, untold, none, rest)

  pub settled : (o : ℕ) (cs : List (ℕ × Batch Args)) (ds : List ℕ) (n count e : ℕ) → IsHistory n count (history_of o cs ds) → list_any (nat_eq e) ds ≡ false → closed_len cs e ≤ count
  settled o cs ds n count e h out = let told = undecided_told ds e out cs h.once in let counted = h.counted in omega (arith, told, counted)

  pub decided_history : (o : ℕ) (cs : List (ℕ × Batch Args)) (ds : List ℕ) (n count e : ℕ) → IsHistory n count (history_of o cs ds) → list_any (nat_eq e) ds ≡ false → e < 2 ^ 64
      → (next : ℕ) → n ≤ next → ((f : ℕ) → n ≤ f → f < next → list_any (nat_eq f) (ds ++ e ∷ []) ≡ true) → list_any (nat_eq next) (ds ++ e ∷ []) ≡ false
      → IsHistory next (count - closed_len cs e) (history_of o cs (ds ++ e ∷ []))
  decided_history o cs ds n count e h out low next from passed free = record {
    next_kept = is_next new next (let opens = opens_before old in let kept = h.next_kept in omega (arith, opens, kept, from)) used (free_at new next (no_later cs next before) free);
    opens = h.opens;
    once = h.once;
    closed_before = before;
    decided_fit = fit;
    counted = let told = undecided_told ds e out cs h.once in let counted = h.counted in omega (arith, told, counted);
  }
    where
      old : Sequencing Args
      old = history_of o cs ds

      new : Sequencing Args
      new = history_of o cs (ds ++ e ∷ [])

      before : (f : ℕ) → IsSome (closed_in cs f) → f < next
      before f some = let less = h.closed_before f some in omega (arith, less, from)

      fit : (f : ℕ) → list_any (nat_eq f) (ds ++ e ∷ []) ≡ true → f < 2 ^ 64
      fit f is = elim (decided_cases ds e f is) [
        | inl earlier ↦ h.decided_fit f earlier
        | inr same ↦ omega (arith, same, low)
      ]

      used : (f : ℕ) → o ≤ f → f < next → is_used new f ≡ true
      used f opens high = elim (cases_lt f n) [
        | inl less ↦ elim (or_cases (is_some (closed_in cs f)) (is_decided old f) (used_before old f opens (let kept = h.next_kept in omega (arith, less, kept)))) [
          | inl closed ↦ or_left (is_some (closed_in cs f)) (is_decided new f) closed
          | inr decided ↦ or_right (is_some (closed_in cs f)) (is_decided new f) (still_decided ds e f decided)
        ]
        | inr upto ↦ or_right (is_some (closed_in cs f)) (is_decided new f) (passed f upto high)
      ]

  -- the next epoch has no batch
  pub no_entry : (o : ℕ) (cs : List (ℕ × Batch Args)) (ds : List ℕ) (e : ℕ) → e ≡ next_epoch (history_of o cs ds) → lookup (nat_eq e) cs ≡ None
  no_entry o cs ds e at = lookup_closed cs e ∙ none (closed_in cs e) (unused_parts (history_of o cs ds) e (ap (is_used (history_of o cs ds)) at ∙ next_unused (history_of o cs ds))).0
    where
      none : (o : Option (Batch Args)) → is_some o ≡ false → o ≡ None
      none None h = refl
      none (Some b) h = absurd (true≢false h)

  -- the next epoch is decided
  pub decided_at_next : (o : ℕ) (cs : List (ℕ × Batch Args)) (ds : List ℕ) (last : Option ℕ) (count e : ℕ) → IsHistory (unwrap_or last (2 ^ 64)) count (history_of o cs ds) → list_any (nat_eq e) ds ≡ false → e < 2 ^ 64 → last ≡ Some e
      → (ds' : List ℕ) → ds' ≡ ds ++ e ∷ [] → (next : Option ℕ) → e < unwrap_or next (2 ^ 64) → ((f : ℕ) → e < f → f < unwrap_or next (2 ^ 64) → list_any (nat_eq f) ds' ≡ true) → IfSome next (λ f. list_any (nat_eq f) ds' ≡ false)
      → IsHistory (unwrap_or next (2 ^ 64)) (count - closed_len cs e) (history_of o cs ds')
  decided_at_next o cs ds last count e h out low at ds' told next from passed free =
      subst (λ es. IsHistory (unwrap_or next (2 ^ 64)) (count - closed_len cs e) (history_of o cs es)) (sym told)
      (decided_history o cs ds _ count e h out low (unwrap_or next (2 ^ 64)) (omega (arith, is, from)) all
      (end_free next (ds ++ e ∷ []) (subst (λ es. IfSome next (λ f. list_any (nat_eq f) es ≡ false)) told free) fit))
    where
      is : unwrap_or last (2 ^ 64) ≡ e
      is = ap (λ l. unwrap_or l (2 ^ 64)) at

      all : (f : ℕ) → unwrap_or last (2 ^ 64) ≤ f → f < unwrap_or next (2 ^ 64) → list_any (nat_eq f) (ds ++ e ∷ []) ≡ true
      all f opens high = elim (cases_lt e f) [
        | inl more ↦ subst (λ es. list_any (nat_eq f) es ≡ true) told (passed f more high)
        | inr upto ↦ let same : e ≡ f = omega (arith, is, opens, upto) in subst (λ a. list_any (nat_eq a) (ds ++ e ∷ []) ≡ true) same (now_decided ds e)
      ]

      fit : (f : ℕ) → list_any (nat_eq f) (ds ++ e ∷ []) ≡ true → f < 2 ^ 64
      fit f is = elim (decided_cases ds e f is) [
        | inl earlier ↦ h.decided_fit f earlier
        | inr same ↦ omega (arith, same, low)
      ]

  -- another epoch is decided
  pub decided_elsewhere : (o : ℕ) (cs : List (ℕ × Batch Args)) (ds : List ℕ) (last : Option ℕ) (count e : ℕ) → IsHistory (unwrap_or last (2 ^ 64)) count (history_of o cs ds) → list_any (nat_eq e) ds ≡ false → e < 2 ^ 64 → (last ≡ Some e → ⊥)
      → (ds' : List ℕ) → ds' ≡ ds ++ e ∷ [] → IsHistory (unwrap_or last (2 ^ 64)) (count - closed_len cs e) (history_of o cs ds')
  decided_elsewhere o cs ds last count e h out low other ds' told =
      subst (λ es. IsHistory (unwrap_or last (2 ^ 64)) (count - closed_len cs e) (history_of o cs es)) (sym told)
      (decided_history o cs ds _ count e h out low (unwrap_or last (2 ^ 64)) (omega arith) (λ f opens high. absurd (omega (arith, opens, high)))
      (other_decided ds e (unwrap_or last (2 ^ 64)) (apart last other) ∙ undecided_next))
    where
      apart : (l : Option ℕ) → (l ≡ Some e → ⊥) → nat_eq (unwrap_or l (2 ^ 64)) e ≡ false
      apart (Some n) other = go (nat_eq n e) refl
        where
          go : (b : Bool) → nat_eq n e ≡ b → b ≡ false
          go false is = refl
          go true is = absurd (other (ap Some (eqb-true n e is)))
      apart None other = go (nat_eq (2 ^ 64) e) refl
        where
          go : (b : Bool) → nat_eq (2 ^ 64) e ≡ b → b ≡ false
          go false is = refl
          go true is = let same = eqb-true (2 ^ 64) e is in absurd (omega (arith, same, low))

      undecided_next : list_any (nat_eq (unwrap_or last (2 ^ 64))) ds ≡ false
      undecided_next = (unused_parts (history_of o cs ds) (unwrap_or last (2 ^ 64)) (ap (is_used (history_of o cs ds)) h.next_kept ∙ next_unused (history_of o cs ds))).1
