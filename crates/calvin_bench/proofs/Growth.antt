-- The order grows at its end: the invariant of a node stays, and the rows before a place of the old order too.
use Rattle.std.proofs.Common.{◌≡◌, Bool, true, false, cond, List, [], ◌∷◌, ◌++◌, inl, inr, refl, sym, ap, subst, ◌∙◌, map}
use Rattle.std.specs.Ordering.{is_lt}
use Rattle.std.specs.List.{filter}
use Rattle.std.specs.FinMap.{get}
use Rattle.calvin_app.specs.Meaning.{Meaning, WritesWithin}
use Rattle.calvin_app.specs.Rows.{Rows, view}
use Rattle.calvin_app.specs.Serial.{after_one, serial, rows_before}
use Rattle.calvin_bench.specs.Turns.{HasTurn, IsDone}
use Rattle.calvin_sched.specs.Scheduling.{Turn, Scheduling}
use Rattle.calvin_types.specs.Orders.{Order, before, StandsAt, Rises}
use Rattle.calvin_types.specs.Participants.{Site, local_keys}
use Rattle.calvin_types.specs.Places.{place_cmp, IsBefore}
use Rattle.calvin_types.specs.declared.place.Place.{Place}
use Rattle.calvin_types.specs.declared.txn.Txn.{Txn}
use Rattle.calvin_types.proofs.PlaceOrder.{not_both}
use Rattle.calvin_order.proofs.Standing.{stands_split, stands_left, stands_right, rises_joined}
use Rattle.calvin_bench.proofs.SerialRows.{none_before, untouched}
use Rattle.calvin_app.specs.Stores.{Store}
use Rattle.calvin_bench.proofs.Versions.{Every, Upto, IsVersion, StoreKeeps}
use Rattle.calvin_bench.proofs.OnePartition.{Keeps}

module _ {Args : Type 0} where
  pub rises_left : (xs ys : Order Args) → Rises (xs ++ ys) → Rises xs
  rises_left [] ys rises = tt
  rises_left (e ∷ xs) ys rises = (λ q t at. rises.0 q t (stands_left xs ys q t at), rises_left xs ys rises.1)

  pub rises_right : (xs ys : Order Args) → Rises (xs ++ ys) → Rises ys
  rises_right [] ys rises = rises
  rises_right (e ∷ xs) ys rises = rises_right xs ys rises.1

  pub rises_across : (xs ys : Order Args) → Rises (xs ++ ys) → (p : Place) (t : Txn Args) → StandsAt xs p t → (q : Place) (u : Txn Args) → StandsAt ys q u → IsBefore p q
  rises_across [] ys rises p t at q u there = absurd at
  rises_across (e ∷ xs) ys rises p t (inl here) q u there = subst (λ x. IsBefore x q) here.0 (rises.0 q u (stands_right xs ys q u there))
  rises_across (e ∷ xs) ys rises p t (inr at) q u there = rises_across xs ys rises.1 p t at q u there

module _ {Args Row Reply : Type 0} (m : Meaning Args Row Reply) where
  serial_on : (ts us : List (Txn Args)) (rows : Rows Row) → (serial m (ts ++ us) rows).0 ≡ (serial m us (serial m ts rows).0).0
  serial_on [] us rows = refl
  serial_on (t ∷ ts) us rows = serial_on ts us (after_one m t rows)

  before_joined : (xs ys : Order Args) (q : Place) → before (xs ++ ys) q ≡ before xs q ++ before ys q
  before_joined [] ys q = refl
  before_joined (e ∷ xs) ys q = go (is_lt (place_cmp e.0 q)) (before_joined xs ys q)
    where
      go : (b : Bool) → before (xs ++ ys) q ≡ before xs q ++ before ys q
          → map (λ e. e.1) (cond b (e ∷ filter (λ e. is_lt (place_cmp e.0 q)) (xs ++ ys)) (filter (λ e. is_lt (place_cmp e.0 q)) (xs ++ ys)))
          ≡ map (λ e. e.1) (cond b (e ∷ filter (λ e. is_lt (place_cmp e.0 q)) xs) (filter (λ e. is_lt (place_cmp e.0 q)) xs)) ++ before ys q
      go true rest = ap (λ ts. e.1 ∷ ts) rest
      go false rest = rest

  rows_on : (xs ys : Order Args) (rows : Rows Row) (q : Place) → rows_before m (xs ++ ys) rows q ≡ rows_before m ys (rows_before m xs rows q) q
  rows_on xs ys rows q = ap (λ ts. (serial m ts rows).0) (before_joined xs ys q) ∙ serial_on (before xs q) (before ys q) rows

  -- the rows before a place do not depend on what comes at or after it
  pub rows_kept : (xs ys : Order Args) (rows : Rows Row) (q : Place) → ((n : Place) (t : Txn Args) → StandsAt ys n t → IsBefore n q → ⊥) → rows_before m (xs ++ ys) rows q ≡ rows_before m xs rows q
  rows_kept xs ys rows q late = rows_on xs ys rows q ∙ none_before m ys (rows_before m xs rows q) q late

  module _ (law : WritesWithin m) (order more : Order Args) (start : Rows Row) (rises : Rises (order ++ more)) (site : Site) where
    version_grow : (In Done : Place → Type 0) → ((n : Place) (t : Txn Args) → StandsAt more n t → Done n → ⊥) → (rows : Rows Row) → IsVersion m order start site In Done rows → IsVersion m (order ++ more) start site In Done rows
    version_grow In Done not_done rows old = record {
      at_cut = λ k q l cut.
          old.at_cut k q l (record {
            within = cut.within;
            below = λ n t at. cut.below n t (stands_left order more n t at);
            above = λ n t at. cut.above n t (stands_left order more n t at);
          })
          ∙ sym (untouched m law more (rows_before m order start q) q k (λ n t at h w. not_done n t at (cut.below n t (stands_right order more n t at) w h)))
          ∙ ap (λ rows. get rows k) (sym (rows_on order more start q));
      foreign = old.foreign;
    }

    store_grow : (store : Store Row) (Done : Place → Type 0) → ((n : Place) (t : Txn Args) → StandsAt more n t → Done n → ⊥) → StoreKeeps m order start site Done store → StoreKeeps m (order ++ more) start site Done store
    store_grow store Done not_done old = record { now = version_grow Every Done not_done store.map old.now; point = λ p e. version_grow (Upto p.at) Done not_done p.rows (old.point p e) }

    pub grow_keeps : (pending : Order Args) (s : Scheduling Args Row) → ((n : Place) (t : Txn Args) → StandsAt more n t → IsBefore n s.opened_from → ⊥)
        → Keeps m order start site pending s → Keeps m (order ++ more) start site (pending ++ more) s
    grow_keeps pending s fresh keeps = record {
      known = λ n j has. (stands_left order more n j.request (keeps.known n j has).0, (keeps.known n j has).1);
      to_come = λ n t at. elim (stands_split pending more n t at) [
        | inl h ↦ (stands_left order more n t (keeps.to_come n t h).0, (keeps.to_come n t h).1)
        | inr h ↦ (stands_right order more n t h, fresh n t h)
      ];
      rising = rises_joined pending more keeps.rising (rises_right order more rises) (λ p t at. rises_across order more rises p t (keeps.to_come p t at).0);
      ahead = λ n j has q t at. elim (stands_split pending more q t at) [
        | inl h ↦ keeps.ahead n j has q t h
        | inr h ↦ rises_across order more rises n j.request (keeps.known n j has).0 q t h
      ];
      seen = λ n t at h l. elim (stands_split order more n t at) [
        | inl old ↦ elim (keeps.seen n t old h l) [ inl waits ↦ inl (stands_left pending more n t waits) | inr x ↦ inr x ]
        | inr new ↦ inl (stands_right pending more n t new)
      ];
      locked = λ n j has w p t at h c. elim (stands_split order more p t at) [
        | inl old ↦ keeps.locked n j has w p t old h c
        | inr new ↦ absurd (not_both n p (rises_across order more rises n j.request (keeps.known n j has).0 p t new) h)
      ];
      stored = store_grow s.store (IsDone s) not_done keeps.stored;
      runs = keeps.runs;
      served = λ n j has w. keeps.served n j has w ∙ ap (λ rows. view rows (local_keys site j.request.sets.reads)) (sym (old_rows n j has));
      came = λ n j has from rows h. keeps.came n j has from rows h
          ∙ ap (λ rows. view rows (local_keys (record { partitions = site.partitions; partition = from }) j.request.sets.reads)) (sym (old_rows n j has));
    }
      where
        not_done : (n : Place) (t : Txn Args) → StandsAt more n t → IsDone s n → ⊥
        not_done n t at (inl h) = fresh n t at h
        not_done n t at (inr (j, has, d)) = not_both n n (rises_across order more rises n j.request (keeps.known n j has).0 n t at) (rises_across order more rises n j.request (keeps.known n j has).0 n t at)

        old_rows : (n : Place) (j : Turn Args Row) → HasTurn s n j → rows_before m (order ++ more) start n ≡ rows_before m order start n
        old_rows n j has = rows_kept order more start n (λ p t at h. not_both n p (rises_across order more rises n j.request (keeps.known n j has).0 p t at) h)
