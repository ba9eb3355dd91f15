-- No batch is held for an epoch past the last, so nothing is left to give after it; and what stays once an epoch is discarded.
use Rattle.std.proofs.Common.{◌≡◌, ℕ, ◌+◌, ◌<◌, ◌^◌, ◌==◌, nat_lt, Bool, true, false, cond, not, ◌&&◌, Option, Some, None, [], length, is_some, IsSome, refl, sym, ap, subst, ◌∙◌, arith}
use Rattle.std.proofs.lemmas.Bool.{false≢true}
use Rattle.std.proofs.lemmas.Option.{none-some}
use Rattle.std.specs.Option.{unwrap_or}
use Rattle.std.specs.Ordering.{eq_by_cmp, is_eq}
use Rattle.std.specs.Bool.{one_answer}
use Rattle.std.proofs.lemmas.Bool.Decides.{nat_tests}
use Rattle.std.specs.Cmp.{Equal-is, tied_itself}
use Rattle.std.specs.FinMap.{get, insert, remove, empty, get-empty, get-insert, get-remove, get-retain_keys, same_map}
use Rattle.calvin_types.specs.declared.place.Slot.{Slot}
use Rattle.calvin_types.specs.Places.{slot_cmp}
use Rattle.calvin_order.specs.Merged.{Batch}
use Rattle.calvin_order.specs.Merging.{Batches, Merging, batch_at, held_by, without_epoch, IsReady, EpochsFit}
use Rattle.calvin_types.proofs.SlotMaps.{slot_total, slot_exact, slot_eq, slot_eq_exact, slot_eq_self}
use Rattle.calvin_order.proofs.Joining.{joined_none}

pub none_in_range : (Args : Type 0) → EpochsFit {Args = Args} empty
none_in_range Args slot h = absurd (false≢true (sym (ap is_some (get-empty slot_cmp slot)) ∙ h))

-- two slots are one by their fields exactly where they are by their order
same_slot : (a b : Slot) → slot_eq a b ≡ eq_by_cmp slot_cmp a b
same_slot a b =
    one_answer (slot_eq a b) (eq_by_cmp slot_cmp a b)
    (slot_eq_exact a b, λ is. ap (slot_eq a) (sym is) ∙ slot_eq_self a)
    (λ h. slot_exact a b ((Equal-is (slot_cmp a b)).0 h), λ is. ap (λ x. eq_by_cmp slot_cmp a x) (sym is) ∙ ap is_eq (tied_itself slot_total a))

module _ {Args : Type 0} where
  pub one_more_in_range : (held : Batches Args) (slot : Slot) (batch : Batch Args) → slot.epoch < 2 ^ 64 → EpochsFit held → EpochsFit (insert held slot batch)
  one_more_in_range held slot batch low before q h = go (eq_by_cmp slot_cmp q slot) refl (subst IsSome (get-insert slot_total held slot batch q) h)
    where
      go : (b : Bool) → eq_by_cmp slot_cmp q slot ≡ b → IsSome (cond b (Some batch) (get held q)) → q.epoch < 2 ^ 64
      go true e h = let same = slot_exact q slot ((Equal-is (slot_cmp q slot)).0 e) in subst (λ s. s.epoch < 2 ^ 64) (sym same) low
      go false e h = before q h

  -- what is held for a slot once an epoch is discarded
  get-without_epoch : (held : Batches Args) (e g : ℕ) (slot : Slot) → get (without_epoch e g held) slot ≡ cond (slot.epoch == e && nat_lt slot.group g) None (get held slot)
  get-without_epoch held e g slot = get-retain_keys held stays slot (λ q tied. ap stays (sym (slot_exact slot q tied))) ∙ turned (slot.epoch == e && nat_lt slot.group g)
    where
      stays : Slot → Bool
      stays q = not (q.epoch == e && nat_lt q.group g)

      turned : (b : Bool) → cond (not b) (get held slot) None ≡ cond b None (get held slot)
      turned true = refl
      turned false = refl

  -- where no group is meant everything stays
  pub without_none : (held : Batches Args) (e : ℕ) → without_epoch e 0 held ≡ held
  without_none held e = same_map slot_total slot_exact (without_epoch e 0 held) held (λ slot. get-without_epoch held e 0 slot ∙ go slot (slot.epoch == e))
    where
      go : (slot : Slot) (b : Bool) → cond (b && nat_lt slot.group 0) None (get held slot) ≡ get held slot
      go slot true = grind (arith, nat_tests)
      go slot false = refl

  -- for one group more, one batch less stays
  pub without_next : (held : Batches Args) (e g : ℕ) → without_epoch e (g + 1) held ≡ remove (without_epoch e g held) (record { epoch = e; group = g })
  without_next held e g =
      same_map slot_total slot_exact (without_epoch e (g + 1) held) (remove (without_epoch e g held) gone) (λ slot.
      get-without_epoch held e (g + 1) slot
      ∙ go slot (slot.epoch == e)
      ∙ ap (λ b. cond b None (cond (slot.epoch == e && nat_lt slot.group g) None (get held slot))) (same_slot slot gone)
      ∙ ap (cond (eq_by_cmp slot_cmp slot gone) None) (sym (get-without_epoch held e g slot))
      ∙ sym (get-remove slot_total (without_epoch e g held) gone slot))
    where
      gone : Slot
      gone = record { epoch = e; group = g }

      go : (slot : Slot) (b : Bool) → cond (b && nat_lt slot.group (g + 1)) None (get held slot) ≡ cond (b && slot.group == g) None (cond (b && nat_lt slot.group g) None (get held slot))
      go slot true = grind (arith, nat_tests)
      go slot false = refl

  -- what stays was held before
  pub held_before : (held : Batches Args) (e g : ℕ) (slot : Slot) (batch : Batch Args) → get (without_epoch e g held) slot ≡ Some batch → get held slot ≡ Some batch
  held_before held e g slot batch is = go (slot.epoch == e && nat_lt slot.group g) (sym (get-without_epoch held e g slot) ∙ is)
    where
      go : (b : Bool) → cond b None (get held slot) ≡ Some batch → get held slot ≡ Some batch
      go true h = absurd (none-some batch h)
      go false h = h

  pub fewer_in_range : (held : Batches Args) (e g : ℕ) → EpochsFit held → EpochsFit (without_epoch e g held)
  fewer_in_range held e g before slot h = go (get (without_epoch e g held) slot) refl h
    where
      go : (o : Option (Batch Args)) → get (without_epoch e g held) slot ≡ o → IsSome o → slot.epoch < 2 ^ 64
      go (Some batch) is h = before slot (ap is_some (held_before held e g slot batch is))
      go None is h = absurd (false≢true h)

  pub none_past_last : (held : Batches Args) → EpochsFit held → (slot : Slot) → slot.epoch ≡ 2 ^ 64 → batch_at held slot ≡ []
  none_past_last held in_range slot past = go (get held slot) refl
    where
      go : (o : Option (Batch Args)) → get held slot ≡ o → unwrap_or (get held slot) [] ≡ []
      go (Some b) e = absurd (let low = in_range slot (ap is_some e) in omega (arith, low, past))
      go None e = ap (λ o. unwrap_or o []) e

  -- after the last epoch nothing is left to give
  pub ready_past_last : (m : Merging Args) → EpochsFit m.held → m.next ≡ 2 ^ 64 → IsReady m
  ready_past_last m in_range past =
      let none = ap length (joined_none (held_by m) m.next m.config.partitions (λ g less. none_past_last m.held in_range (record { epoch = m.next; group = g }) past)) in
      omega (arith, none)
