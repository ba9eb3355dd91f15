-- What a sequencer keeps of requests: a property that holds of a request from an epoch on is one of all batches that it closes.
use Rattle.std.proofs.Common.{◌≡◌, ℕ, suc, ◌+◌, ◌≤◌, Bool, true, false, cond, List, [], ◌∷◌, ◌++◌, length, ◌⊎◌, inl, inr, refl, sym, ap, ◌∙◌, subst, arith, take, Option, Some, None}
use Rattle.std.specs.Prelude.{nat_eq, nat_le, is_some}
use Rattle.std.specs.List.{Contains, filter, list_any}
use Rattle.std.proofs.lemmas.Bool.{cases_lt, false≢true, or_cases, or_left, or_right}
use Rattle.std.proofs.lemmas.Option.{same_Some}
use Rattle.std.proofs.lemmas.List.Folds.{list_any-append}
use Rattle.calvin_types.specs.declared.place.Slot.{Slot}
use Rattle.calvin_types.specs.declared.txn.Txn.{Txn}
use Rattle.calvin_order.specs.Merged.{Batch}
use Rattle.calvin_order.proofs.NextEpochs.{next_unused, first_least, first_from}
use Rattle.calvin_order.specs.Sequencing.{Sequencing, closed_in, is_decided, is_used, next_epoch, same_attempt, left_over, HeldBack, ripe, ripened, ticked, delayed, closing, decide}
use Rattle.calvin_bench.proofs.Lists.{none_in, only_in, of_append, of_filter, of_take, of_drop, map_from}

abbrev pub slot_at : ℕ → ℕ → Slot
slot_at p e = record { epoch = e; group = p }

some_there : {X : Type 0} (o : Option X) → is_some o ≡ true → (x : X) × (o ≡ Some x)
some_there None h = absurd (false≢true h)
some_there (Some x) h = (x, refl)

-- ---- what is kept of requests

module _ {Args : Type 0} where
  closed_cases : (cs : List (ℕ × Batch Args)) (e f : ℕ) (batch c : Batch Args) → closed_in (cs ++ (e, batch) ∷ []) f ≡ Some c → (closed_in cs f ≡ Some c) ⊎ ((e ≡ f) × (batch ≡ c))
  closed_cases [] e f batch c h = go (nat_eq e f) refl h
    where
      go : (b : Bool) → nat_eq e f ≡ b → cond b (Some batch) None ≡ Some c → (None ≡ Some c) ⊎ ((e ≡ f) × (batch ≡ c))
      go true is h = inr (grind (arith, is), same_Some _ _ h)
      go false is h = inl h
  closed_cases (d ∷ cs) e f batch c h = go (nat_eq d.0 f) h (closed_cases cs e f batch c)
    where
      go : (b : Bool) → cond b (Some d.1) (closed_in (cs ++ (e, batch) ∷ []) f) ≡ Some c → (closed_in (cs ++ (e, batch) ∷ []) f ≡ Some c → (closed_in cs f ≡ Some c) ⊎ ((e ≡ f) × (batch ≡ c))) → (cond b (Some d.1) (closed_in cs f) ≡ Some c) ⊎ ((e ≡ f) × (batch ≡ c))
      go true h more = inl h
      go false h more = more h

  still_closed : (cs : List (ℕ × Batch Args)) (e f : ℕ) (batch : Batch Args) → is_some (closed_in cs f) ≡ true → is_some (closed_in (cs ++ (e, batch) ∷ []) f) ≡ true
  still_closed [] e f batch some = absurd (false≢true some)
  still_closed (d ∷ cs) e f batch some = go (nat_eq d.0 f) some (still_closed cs e f batch)
    where
      go : (b : Bool) → is_some (cond b (Some d.1) (closed_in cs f)) ≡ true → (is_some (closed_in cs f) ≡ true → is_some (closed_in (cs ++ (e, batch) ∷ []) f) ≡ true) → is_some (cond b (Some d.1) (closed_in (cs ++ (e, batch) ∷ []) f)) ≡ true
      go true some more = refl
      go false some more = more some

  now_closed : (cs : List (ℕ × Batch Args)) (e : ℕ) (batch : Batch Args) → is_some (closed_in (cs ++ (e, batch) ∷ []) e) ≡ true
  now_closed [] e batch = go (nat_eq e e) (grind arith)
    where
      go : (b : Bool) → b ≡ true → is_some (cond b (Some batch) None) ≡ true
      go true is = refl
      go false is = absurd (false≢true is)
  now_closed (d ∷ cs) e batch = go (nat_eq d.0 e) (now_closed cs e batch)
    where
      go : (b : Bool) → is_some (closed_in (cs ++ (e, batch) ∷ []) e) ≡ true → is_some (cond b (Some d.1) (closed_in (cs ++ (e, batch) ∷ []) e)) ≡ true
      go true more = refl
      go false more = more

module _ {Args : Type 0} (P : Slot → Txn Args → Type 0) where
  abbrev pub AllP : Slot → Batch Args → Type 0
  AllP slot batch = (t : Txn Args) → Contains batch t → P slot t

  pub record ValidSequencer (p : ℕ) (s : Sequencing Args) : Type 0 where
    pub queued : (n : ℕ) → s.opening ≤ n → is_used s n ≡ false → AllP (slot_at p n) s.queue
    pub waiting : (n : ℕ) → s.opening ≤ n → is_used s n ≡ false → (h : HeldBack Args) → Contains s.held_back h → P (slot_at p n) h.request
    pub in_closed : (e : ℕ) (batch : Batch Args) → closed_in s.closed e ≡ Some batch → AllP (slot_at p e) batch
    pub below : (e : ℕ) → is_some (closed_in s.closed e) ≡ true → (f : ℕ) → s.opening ≤ f → f ≤ e → is_used s f ≡ true

module _ {Args : Type 0} (P : Slot → Txn Args → Type 0) (up : (g e f : ℕ) (t : Txn Args) → e ≤ f → P (slot_at g e) t → P (slot_at g f) t) (p : ℕ) (s : Sequencing Args) (v : ValidSequencer P p s) where
  unused_before : (used after : Bool) → (used ≡ true → after ≡ true) → after ≡ false → used ≡ false
  unused_before true after grows none = absurd (false≢true (sym none ∙ grows refl))
  unused_before false after grows none = refl

  -- a request joins the queue
  pub submit_valid : (t : Txn Args) → ((n : ℕ) → s.opening ≤ n → is_used s n ≡ false → P (slot_at p n) t) → ValidSequencer P p (record s { queue = s.queue ++ t ∷ [] })
  submit_valid t fit = record {
    queued = λ n low unused u c. elim (of_append s.queue (t ∷ []) u c) [
      | inl old ↦ v.queued n low unused u old
      | inr new ↦ subst (λ u. P (slot_at p n) u) (only_in t u new) (fit n low unused)
    ];
    waiting = v.waiting;
    in_closed = v.in_closed;
    below = v.below;
  }

  -- what saw enough closings joins the queue
  pub ripened_valid : (delay : ℕ) → ValidSequencer P p (ripened delay s)
  ripened_valid delay = record {
    queued = λ n low unused t c. elim (of_append s.queue (ripe delay s.held_back) t c) [
      | inl old ↦ v.queued n low unused t old
      | inr new ↦
          let h = map_from (λ (h : HeldBack Args). h.request) (filter (λ h. nat_le delay h.closings) s.held_back) t new in
          subst (λ u. P (slot_at p n) u) h.2 (v.waiting n low unused h.0 (of_filter (λ h. nat_le delay h.closings) s.held_back h.0 h.1))
    ];
    waiting = λ n low unused h c. v.waiting n low unused h (of_filter (λ h. Rattle.std.specs.Prelude.not (nat_le delay h.closings)) s.held_back h c);
    in_closed = v.in_closed;
    below = v.below;
  }

  -- a closing is counted
  pub ticked_valid : ValidSequencer P p (ticked s)
  ticked_valid = record {
    queued = v.queued;
    waiting = λ n low unused h c.
        let old = map_from (λ (h : HeldBack Args). record h { closings = suc h.closings }) s.held_back h c in
        subst (λ u. P (slot_at p n) u) (ap (λ (h : HeldBack Args). h.request) old.2) (v.waiting n low unused old.0 old.1);
    in_closed = v.in_closed;
    below = v.below;
  }

  -- a request is held back
  pub delayed_valid : (t : Txn Args) → ((n : ℕ) → s.opening ≤ n → is_used s n ≡ false → P (slot_at p n) t) → ValidSequencer P p (delayed t s)
  delayed_valid t fit = record {
    queued = v.queued;
    waiting = λ n low unused h c. elim (of_append s.held_back (record { request = t; closings = 0 } ∷ []) h c) [
      | inl old ↦ v.waiting n low unused h old
      | inr new ↦ subst (λ u. P (slot_at p n) u) (ap (λ (h : HeldBack Args). h.request) (only_in (record { request = t; closings = 0 }) h new)) (fit n low unused)
    ];
    in_closed = v.in_closed;
    below = v.below;
  }

  -- the next batch is closed
  pub close_valid : ValidSequencer P p (closing s)
  close_valid = record {
    queued = λ n low unused t c. v.queued n low (unused_before (is_used s n) (is_used (closing s) n) (grows n) unused) t (of_drop 256 s.queue t c);
    waiting = λ n low unused h c. v.waiting n low (unused_before (is_used s n) (is_used (closing s) n) (grows n) unused) h c;
    in_closed = λ f batch h t c. elim (closed_cases s.closed (next_epoch s) f (take 256 s.queue) batch h) [
      | inl old ↦ v.in_closed f batch old t c
      | inr new ↦ subst (λ n. P (slot_at p n) t) new.0 (v.queued (next_epoch s) (first_from (is_used s) s.opening (length s.closed + length s.decided)) (next_unused s) t (of_take 256 s.queue t (subst (λ b. Contains b t) (sym new.1) c)))
    ];
    below = λ f is g low high. under f is g low high (some_there (closed_in (closing s).closed f) is);
  }
    where
      grows : (f : ℕ) → is_used s f ≡ true → is_used (closing s) f ≡ true
      grows f h = elim (or_cases (is_some (closed_in s.closed f)) (is_decided s f) h) [
        | inl closed ↦ or_left (is_some (closed_in (closing s).closed f)) (is_decided s f) (still_closed s.closed (next_epoch s) f (take 256 s.queue) closed)
        | inr decided ↦ or_right (is_some (closed_in (closing s).closed f)) (is_decided s f) decided
      ]

      at_next : (g : ℕ) → s.opening ≤ g → g ≤ next_epoch s → is_used (closing s) g ≡ true
      at_next g low high = elim (cases_lt g (next_epoch s)) [
        | inl less ↦ grows g (first_least (is_used s) s.opening (length s.closed + length s.decided) g low less)
        | inr upto ↦ let same : next_epoch s ≡ g = omega (arith, high, upto) in
            or_left (is_some (closed_in (closing s).closed g)) (is_decided s g) (subst (λ n. is_some (closed_in (closing s).closed n) ≡ true) same (now_closed s.closed (next_epoch s) (take 256 s.queue)))
      ]

      under : (f : ℕ) → is_some (closed_in (closing s).closed f) ≡ true → (g : ℕ) → s.opening ≤ g → g ≤ f → (c : Batch Args) × (closed_in (closing s).closed f ≡ Some c) → is_used (closing s) g ≡ true
      under f is g low high (c, h) = elim (closed_cases s.closed (next_epoch s) f (take 256 s.queue) c h) [
        | inl old ↦ grows g (v.below f (ap is_some old) g low high)
        | inr new ↦ at_next g low (let e = new.0 in omega (arith, high, e))
      ]

  -- an epoch is known as decided
  pub decide_valid : (e : ℕ) (batch : Batch Args) → ValidSequencer P p (decide e batch s)
  decide_valid e batch = go (is_decided s e)
    where
      grows : (f : ℕ) → is_used s f ≡ true → is_used (record s { queue = left_over (closed_in s.closed e) batch ++ s.queue; decided = s.decided ++ e ∷ [] }) f ≡ true
      grows f h = elim (or_cases (is_some (closed_in s.closed f)) (is_decided s f) h) [
        | inl closed ↦ or_left (is_some (closed_in s.closed f)) (list_any (nat_eq f) (s.decided ++ e ∷ [])) closed
        | inr decided ↦ or_right (is_some (closed_in s.closed f)) (list_any (nat_eq f) (s.decided ++ e ∷ [])) (list_any-append (nat_eq f) s.decided (e ∷ []) ∙ or_left (list_any (nat_eq f) s.decided) (list_any (nat_eq f) (e ∷ [])) decided)
      ]

      left : (n : ℕ) → s.opening ≤ n → is_used s n ≡ false → (o : Option (Batch Args)) → closed_in s.closed e ≡ o → AllP P (slot_at p n) (left_over o batch)
      left n low unused None is t c = absurd (none_in t c)
      left n low unused (Some closed) is t c = elim (cases_lt e n) [
        | inl less ↦ up p e n t (omega (arith, less)) (v.in_closed e closed is t (of_filter (λ t. Rattle.std.specs.Prelude.not (list_any (same_attempt t) batch)) closed t c))
        | inr upto ↦ absurd (false≢true (sym unused ∙ v.below e (ap is_some is) n low upto))
      ]

      go : (b : Bool) → ValidSequencer P p (cond b s (record s { queue = left_over (closed_in s.closed e) batch ++ s.queue; decided = s.decided ++ e ∷ [] }))
      go true = v
      go false = record {
        queued = λ n low unused t c.
            let before = unused_before (is_used s n) (is_used (record s { queue = left_over (closed_in s.closed e) batch ++ s.queue; decided = s.decided ++ e ∷ [] }) n) (grows n) unused in
            elim (of_append (left_over (closed_in s.closed e) batch) s.queue t c) [
              | inl again ↦ left n low before (closed_in s.closed e) refl t again
              | inr old ↦ v.queued n low before t old
            ];
        waiting = λ n low unused h c. v.waiting n low (unused_before (is_used s n) (is_used (record s { queue = left_over (closed_in s.closed e) batch ++ s.queue; decided = s.decided ++ e ∷ [] }) n) (grows n) unused) h c;
        in_closed = v.in_closed;
        below = λ f is g low high. grows g (v.below f is g low high);
      }
