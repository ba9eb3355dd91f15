-- What is left of an epoch's requests while they are given one by one.
use Rattle.std.proofs.Common.{◌≡◌, ◌==◌, ℕ, zero, suc, ◌+◌, ◌-◌, ◌<◌, ◌≤◌, Bool, true, false, cond, List, [], ◌∷◌, ◌++◌, length, take, drop, get_or, sym, ap, ◌∙◌, append_assoc, append-nil, length-append, arith}
use Rattle.std.proofs.lemmas.Bool.{true≢false}
use Rattle.std.proofs.lemmas.List.{take_all}
use Rattle.calvin_types.specs.declared.place.Place.{Place}
use Rattle.calvin_types.specs.declared.place.Slot.{Slot}
use Rattle.calvin_order.specs.Configs.{woven}
use Rattle.calvin_order.specs.Merged.{joined, numbered}
use Rattle.calvin_order.specs.Walking.{flat, in_turns, turned, batches_from, left_behind, left_of, IsWalk, IsTurn}
use Rattle.calvin_order.proofs.Weaves.{turn, turned_behind, turned_few, length-turned, woven_is, joined_is}

-- a batch gives all of it before the next ones, or its first request and waits behind those that wait
module _ {T : Type 0} (batch : List T) (bs waiting : List (List T)) where
  pub all_given : batch ++ left_behind false bs waiting ≡ left_behind false (batch ∷ bs) waiting
  all_given = sym (append_assoc batch (flat bs) (in_turns waiting))

  pub first_given : take 1 batch ++ left_behind true bs (turned batch waiting) ≡ left_behind true (batch ∷ bs) waiting
  first_given = ap (λ qs. take 1 batch ++ in_turns qs) (sym (turned_behind batch bs waiting)) ∙ sym (turn batch (bs ++ waiting))

module _ {T : Type 0} (B : Slot → List T) where
  -- before the first group all is left
  all_behind : (w : Bool) (e groups : ℕ) → left_behind w (batches_from B e 0 groups) [] ≡ cond w (woven B e groups) (joined B e groups)
  all_behind true e groups = ap in_turns (append-nil (batches_from B e 0 groups)) ∙ woven_is B e groups
  all_behind false e groups = append-nil (flat (batches_from B e 0 groups)) ∙ joined_is B e groups

  pub all_left : (w : Bool) (e groups : ℕ) → left_of B (record { epoch = e; group = 0 }) groups w 0 [] [] ≡ numbered e 0 (cond w (woven B e groups) (joined B e groups))
  all_left w e groups =
      let all : groups - 0 ≡ groups = omega arith in
      ap (λ k. numbered e 0 (left_behind w (batches_from B e 0 k) [])) all ∙ ap (numbered e 0) (all_behind w e groups)

  -- where nothing is given before it, what the next group's batch gives first is
  pub next_group : (w : Bool) (e g groups n : ℕ) (rest batch first : List T) (waiting after : List (List T)) → length rest ≡ 0 → g < groups → batch ≡ B (record { epoch = e; group = g })
      → ((bs : List (List T)) → first ++ left_behind w bs after ≡ left_behind w (batch ∷ bs) waiting)
      → left_of B (record { epoch = e; group = g + 1 }) groups w n first after ≡ left_of B (record { epoch = e; group = g }) groups w n rest waiting
  next_group w e g groups n (t ∷ ts) batch first waiting after none less is given = absurd (omega (arith, none))
  next_group w e g groups n [] batch first waiting after none less is given =
      let some : suc (groups - (g + 1)) ≡ groups - g = omega (arith, less) in
      let next : g + 1 ≡ suc g = omega arith in
      ap (numbered e n) (given (batches_from B e (g + 1) (groups - (g + 1))))
      ∙ (λ i. numbered e n (left_behind w (is i ∷ batches_from B e (next i) (groups - (g + 1))) waiting))
      ∙ (λ i. numbered e n (left_behind w (batches_from B e g (some i)) waiting))

  -- past the last group the one whose turn it is gives a request
  none_behind : (w : Bool) (e g groups : ℕ) (waiting : List (List T)) → groups ≤ g → left_behind w (batches_from B e g (groups - g)) waiting ≡ in_turns waiting
  none_behind true e g groups waiting past = let none : groups - g ≡ 0 = omega (arith, past) in ap (λ k. in_turns (batches_from B e g k ++ waiting)) none
  none_behind false e g groups waiting past = let none : groups - g ≡ 0 = omega (arith, past) in ap (λ k. flat (batches_from B e g k) ++ in_turns waiting) none

  pub next_turn : (w : Bool) (e g groups n : ℕ) (rest first : List T) (waiting after : List (List T)) → length rest ≡ 0 → groups ≤ g → IsTurn waiting first after
      → left_of B (record { epoch = e; group = g }) groups w n first after ≡ left_of B (record { epoch = e; group = g }) groups w n rest waiting
  next_turn w e g groups n rest first [] after none past is = absurd is
  next_turn w e g groups n (t ∷ ts) first (b ∷ qs) after none past is = absurd (omega (arith, none))
  next_turn w e g groups n [] first (b ∷ qs) after none past is =
      ap (λ l. numbered e n (first ++ l)) (none_behind w e g groups after past)
      ∙ (λ i. numbered e n (is.0 i ++ in_turns (is.1 i)))
      ∙ ap (numbered e n) (sym (turn b qs))
      ∙ ap (numbered e n) (sym (none_behind w e g groups (b ∷ qs) past))

  -- and where none waits nothing is left
  pub none_left : (w : Bool) (e g groups n : ℕ) (rest : List T) (waiting : List (List T)) → length rest ≡ 0 → groups ≤ g → waiting ≡ [] → left_of B (record { epoch = e; group = g }) groups w n rest waiting ≡ []
  none_left w e g groups n (t ∷ ts) waiting none past is = absurd (omega (arith, none))
  none_left w e g groups n [] waiting none past is = ap (numbered e n) (none_behind w e g groups waiting past) ∙ ap (λ qs. numbered e n (in_turns qs)) is

pub not_none : (n : ℕ) → (n == 0) ≡ false → 0 < n
not_none zero is = absurd (true≢false is)
not_none (suc n) is = omega arith

-- where a walk stands, with a request to give
pub record Stands {T : Type 0} (B : Slot → List T) (old : List (Place × T)) (slot : Slot) (groups : ℕ) (w : Bool) (n : ℕ) (rest : List T) (waiting : List (List T)) : Type 0 where
  pub left : left_of B slot groups w n rest waiting ≡ old
  pub walk : IsWalk slot.group groups n (length rest) waiting
  pub some : 0 < length rest

module _ {T : Type 0} (B : Slot → List T) (old : List (Place × T)) (slot : Slot) (groups : ℕ) (w : Bool) (n : ℕ) where
  -- the batch whose turn it is has a request to give
  pub stands_at_turn : (rest first : List T) (waiting after : List (List T)) → left_of B slot groups w n rest waiting ≡ old → IsWalk slot.group groups n (length rest) waiting → length rest ≡ 0 → groups ≤ slot.group → IsTurn waiting first after → Stands B old slot groups w n first after
  stands_at_turn rest first [] after left walk none past is = absurd is
  stands_at_turn rest first (b ∷ qs) after left walk none past is =
      let given = ap length is.0 in
      let waits = ap length is.1 in
      let counts = ap (λ ls. length (flat ls)) is.1 in
      let all = length-turned b qs in
      let few = turned_few b qs in
      let joint = length-append b (flat qs) in
      let counted = walk.counted in
      let waiting_few = walk.waiting_few in
      record {
        left = next_turn B w slot.epoch slot.group groups n rest first (b ∷ qs) after none past is ∙ left;
        walk = record {
          few = walk.few;
          within = walk.within;
          counted = omega (arith, given, counts, all, joint, counted);
          waiting_few = omega (arith, waits, few, waiting_few);
        };
        some = first_some b is.2 (sym is.0);
      }
    where
      first_some : (c : List T) → 0 < length c → take 1 c ≡ first → 0 < length first
      first_some [] h e = absurd (omega arith)
      first_some (t ∷ ts) h e = let one = ap length e in omega (arith, one)

  -- the first request that is left, and those after it
  pub given : (rest : List T) (waiting : List (List T)) (x : T) → Stands B old slot groups w n rest waiting → x ≡ get_or rest 0 x
      → old ≡ (record { epoch = slot.epoch; n = n }, x) ∷ left_of B slot groups w (n + 1) (take (length rest - 1) (drop 1 rest)) waiting
  given [] waiting x s is = absurd (let some = s.some in omega (arith, some))
  given (t ∷ ts) waiting x s is =
      let all : length (t ∷ ts) - 1 ≡ length ts = omega arith in
      let rest : take (length (t ∷ ts) - 1) ts ≡ ts = ap (λ k. take k ts) all ∙ take_all (length ts) ts (omega arith) in
      let next : suc n ≡ n + 1 = omega arith in
      sym s.left
      ∙ (λ i. (record { epoch = slot.epoch; n = n }, sym is i) ∷ numbered slot.epoch (next i) (sym rest i ++ left_behind w (batches_from B slot.epoch slot.group (groups - slot.group)) waiting))

  pub walks_on : (rest : List T) (waiting : List (List T)) → Stands B old slot groups w n rest waiting → IsWalk slot.group groups (n + 1) (length (take (length rest - 1) (drop 1 rest))) waiting
  walks_on [] waiting s = absurd (let some = s.some in omega (arith, some))
  walks_on (t ∷ ts) waiting s =
      let all : length (t ∷ ts) - 1 ≡ length ts = omega arith in
      let rest = ap length (ap (λ k. take k ts) all ∙ take_all (length ts) ts (omega arith)) in
      let counted = s.walk.counted in
      record {
        few = s.walk.few;
        within = s.walk.within;
        counted = omega (arith, rest, counted);
        waiting_few = s.walk.waiting_few;
      }
