-- Requests that are held back, as code keeps them: each with how many batches had been closed before it.
use Rattle.std.proofs.Common.{◌≡◌, ℕ, suc, ◌+◌, ◌-◌, ◌<◌, ◌≤◌, Bool, true, false, not, cond, List, [], ◌∷◌, ◌++◌, map, length, slice_index_or, nat_le, nat_lt, Option, Some, None, refl, ap, subst, ◌∙◌, arith}
use Rattle.std.specs.Option.{option_to_list}
use Rattle.std.specs.List.{filter}
use Rattle.std.proofs.lemmas.Bool.{true≢false}
use Rattle.calvin_order.specs.declared.held_back.ColdRequest.{ColdRequest}
use Rattle.calvin_order.specs.Keeping.{held_of, InTurn}
use Rattle.calvin_order.specs.Sequencing.{HeldBack, ripe, unripe}

module _ {Args : Type 0} where
  -- there are no fewer at the end than at the beginning
  pub turn_bounds : (low high : ℕ) (hs : List (ColdRequest Args)) → InTurn low high hs → low ≤ high
  turn_bounds low high [] t = t
  turn_bounds low high (h ∷ hs) t = let rest = turn_bounds h.since high hs t.1 in let first = t.0 in omega (arith, first, rest)

  turn_from : (low lower high : ℕ) (hs : List (ColdRequest Args)) → lower ≤ low → InTurn low high hs → InTurn lower high hs
  turn_from low lower high [] less t = omega (arith, less, t)
  turn_from low lower high (h ∷ hs) less t = let first = t.0 in (omega (arith, less, first), t.1)

  pub turn_rest : (high : ℕ) (h : ColdRequest Args) (hs : List (ColdRequest Args)) → InTurn 0 high (h ∷ hs) → InTurn 0 high hs
  turn_rest high h hs t = turn_from h.since 0 high hs (omega arith) t.1

  pub turn_up : (low high higher : ℕ) (hs : List (ColdRequest Args)) → high ≤ higher → InTurn low high hs → InTurn low higher hs
  turn_up low high higher [] more t = omega (arith, more, t)
  turn_up low high higher (h ∷ hs) more t = (t.0, turn_up h.since high higher hs more t.1)

  -- one more is submitted
  pub turn_more : (low high : ℕ) (hs : List (ColdRequest Args)) (h : ColdRequest Args) → h.since ≡ high → InTurn low high hs → InTurn low high (hs ++ h ∷ [])
  turn_more low high [] h is t = (omega (arith, is, t), omega (arith, is))
  turn_more low high (g ∷ hs) h is t = (t.0, turn_more g.since high hs h is t.1)

  -- those after one that isn't ripe aren't either
  pub none_ripe : (delay closings low : ℕ) (hs : List (ColdRequest Args)) → InTurn low closings hs → nat_le delay (closings - low) ≡ false
      → (ripe delay (held_of closings hs) ≡ []) × (unripe delay (held_of closings hs) ≡ held_of closings hs)
  none_ripe delay closings low [] t yet = (refl, refl)
  none_ripe delay closings low (h ∷ hs) t yet =
      let first = t.0 in
      let out : nat_le delay (closings - h.since) ≡ false = grind (arith, yet, first) in
      let rest = none_ripe delay closings h.since hs t.1 out in (
        ap (λ b. map (λ (x : HeldBack Args). x.request) (cond b (held h ∷ filter is_ripe (held_of closings hs)) (filter is_ripe (held_of closings hs)))) out ∙ rest.0,
        ap (λ b. cond (not b) (held h ∷ unripe delay (held_of closings hs)) (unripe delay (held_of closings hs))) out ∙ ap (λ l. held h ∷ l) rest.1,
      )
    where
      held : ColdRequest Args → HeldBack Args
      held x = record { request = x.txn; closings = closings - x.since }

      is_ripe : HeldBack Args → Bool
      is_ripe x = nat_le delay x.closings

  -- what is known of the first one, as it stands at the front
  pub first_seen : (n : ℕ) (hs : List (ColdRequest Args)) (h : ColdRequest Args) → true ≡ nat_lt 0 (length hs) → h ≡ slice_index_or hs 0 h → InTurn 0 n hs → h.since ≤ n
  first_seen n [] h some is t = absurd (true≢false some)
  first_seen n (g ∷ hs) h some is t = let upto = turn_bounds g.since n hs t.1 in let same = ap (λ (x : ColdRequest Args). x.since) is in omega (arith, upto, same)

  pub none_ripe_yet : (delay n : ℕ) (hs : List (ColdRequest Args)) (h : ColdRequest Args) → true ≡ nat_lt 0 (length hs) → h ≡ slice_index_or hs 0 h → InTurn 0 n hs → n - h.since < delay
      → (ripe delay (held_of n hs) ≡ []) × (unripe delay (held_of n hs) ≡ held_of n hs)
  none_ripe_yet delay n [] h some is t yet = absurd (true≢false some)
  none_ripe_yet delay n (g ∷ hs) h some is t yet =
      let same = ap (λ (x : ColdRequest Args). x.since) is in
      none_ripe delay n g.since (g ∷ hs) (omega arith, t.1) (grind (arith, yet, same))

  pub turn_popped : (n : ℕ) (o : Option (ColdRequest Args)) (hs rest : List (ColdRequest Args)) → hs ≡ option_to_list o ++ rest → InTurn 0 n hs → InTurn 0 n rest
  turn_popped n None hs rest is t = subst (InTurn 0 n) is t
  turn_popped n (Some h) hs rest is t = turn_rest n h rest (subst (InTurn 0 n) is t)

  -- one more batch is closed
  pub ticked_held : (low n : ℕ) (hs : List (ColdRequest Args)) → InTurn low n hs → held_of (suc n) hs ≡ map (λ (h : HeldBack Args). record h { closings = suc h.closings }) (held_of n hs)
  ticked_held low n [] t = refl
  ticked_held low n (h ∷ hs) t =
      let upto = turn_bounds h.since n hs t.1 in
      let more : suc n - h.since ≡ suc (n - h.since) = omega (arith, upto) in
      ap (λ k. the k ∷ held_of (suc n) hs) more ∙ ap (λ l. the (suc (n - h.since)) ∷ l) (ticked_held h.since n hs t.1)
    where
      the : ℕ → HeldBack Args
      the k = record { request = h.txn; closings = k }

  pub held_more : (n : ℕ) (hs : List (ColdRequest Args)) (h : ColdRequest Args) → h.since ≡ n → held_of n (hs ++ h ∷ []) ≡ held_of n hs ++ record { request = h.txn; closings = 0 } ∷ []
  held_more n [] h is = ap (λ k. record { request = h.txn; closings = k } ∷ []) (omega (arith, is))
  held_more n (g ∷ hs) h is = ap (λ l. record { request = g.txn; closings = n - g.since } ∷ l) (held_more n hs h is)

  pub length-held : (n : ℕ) (hs : List (ColdRequest Args)) → length (held_of n hs) ≡ length hs
  length-held n [] = refl
  length-held n (h ∷ hs) = ap suc (length-held n hs)

  -- none is lost where some join the queue
  pub length-parts : (delay : ℕ) (hs : List (HeldBack Args)) → length (ripe delay hs) + length (unripe delay hs) ≡ length hs
  length-parts delay [] = refl
  length-parts delay (h ∷ hs) = go (nat_le delay h.closings) (length-parts delay hs)
    where
      is_ripe : HeldBack Args → Bool
      is_ripe x = nat_le delay x.closings

      go : (b : Bool) → length (ripe delay hs) + length (unripe delay hs) ≡ length hs
          → length (map (λ (x : HeldBack Args). x.request) (cond b (h ∷ filter is_ripe hs) (filter is_ripe hs))) + length (cond (not b) (h ∷ unripe delay hs) (unripe delay hs)) ≡ suc (length hs)
      go true more = omega (arith, more)
      go false more = omega (arith, more)
