-- The rows of a partition over the order, apart from jobs: a map takes writes from some places (all, or those up to a point).
--     Cut In Done k q      of the writers of k at these places, exactly those before q are done
--     IsVersion In Done rows      at every cut the row is that of the serial run just before the cut
--     StoreKeeps Done store      what holds of a store when these places are done
--     version_same, version_put, version_standing, store_opened, store_same, store_put      it holds at the start, and each step keeps it
use Rattle.std.proofs.Common.{◌≡◌, Bool, true, false, cond, List, [], ◌∷◌, ◌⊎◌, inl, inr, refl, sym, ap, subst, ◌∙◌, Option, Some, None}
use Rattle.std.specs.Ordering.{is_lt}
use Rattle.std.specs.FinMap.{get, insert}
use Rattle.calvin_types.specs.declared.key.Key.{Key}
use Rattle.calvin_types.specs.declared.place.Place.{Place}
use Rattle.calvin_types.specs.declared.txn.Txn.{Txn}
use Rattle.calvin_types.specs.Keys.{has}
use Rattle.calvin_types.specs.Orders.{Order, Rises, StandsAt}
use Rattle.calvin_types.specs.Participants.{Site, is_local}
use Rattle.calvin_types.specs.Places.{place_cmp, IsBefore}
use Rattle.calvin_app.specs.Meaning.{Meaning, WritesWithin}
use Rattle.calvin_app.specs.Rows.{Rows, view, part, overwritten}
use Rattle.calvin_app.specs.Serial.{writes_on, rows_before}
use Rattle.calvin_app.specs.Stores.{Point, Store, loaded, put_point, put_at, marked, left_after, closed_upto}
use Rattle.calvin_sched.specs.Scheduling.{local_writes}
use Rattle.calvin_bench.specs.Turns.{Writes}
use Rattle.calvin_bench.proofs.Placing.{before_trans, is_lt_true, places, Places, earlier, same_place, later}
use Rattle.calvin_types.proofs.PlaceOrder.{not_before_itself, not_both}
use Rattle.calvin_bench.proofs.KeyRows.{same_key, get-part, same_rows, put_other, put_alike, overwritten_other}
use Rattle.calvin_bench.proofs.SerialRows.{only_one, writes_declared, same_between, after_its_turn}

pub absent : (b : Bool) → (b ≡ true → ⊥) → b ≡ false
absent true f = absurd (f refl)
absent false f = refl

-- the writes of a partition are what a key of it sees of all the writes
local_agree : {Row : Type 0} (site : Site) (k : Key) → is_local site k ≡ true → (ws : List (Key × Row)) (a b : Rows Row) → get a k ≡ get b k → get (overwritten a (local_writes site ws)) k ≡ get (overwritten b ws) k
local_agree site k l [] a b e = e
local_agree {Row} site k l (w ∷ ws) a b e = go (is_local site w.0) refl (local_agree site k l ws)
  where
    go : (c : Bool) → is_local site w.0 ≡ c → ((a b : Rows Row) → get a k ≡ get b k → get (overwritten a (local_writes site ws)) k ≡ get (overwritten b ws) k)
        → get (overwritten a (cond c (w ∷ local_writes site ws) (local_writes site ws))) k ≡ get (overwritten (insert b w.0 w.1) ws) k
    go true n rest = rest (insert a w.0 w.1) (insert b w.0 w.1) (put_alike a b w k e)
    go false n rest = rest a (insert b w.0 w.1) (e ∙ sym (put_other b w k (absent _ (λ same. let is = ap (is_local site) (same_key k w.0 same) in cc))))

foreign_kept : {Row : Type 0} (site : Site) (k : Key) → is_local site k ≡ false → (ws : List (Key × Row)) (a : Rows Row) → get (overwritten a (local_writes site ws)) k ≡ get a k
foreign_kept site k l [] a = refl
foreign_kept {Row} site k l (w ∷ ws) a = go (is_local site w.0) refl (foreign_kept site k l ws)
  where
    go : (c : Bool) → is_local site w.0 ≡ c → ((a : Rows Row) → get (overwritten a (local_writes site ws)) k ≡ get a k)
        → get (overwritten a (cond c (w ∷ local_writes site ws) (local_writes site ws))) k ≡ get a k
    go true n rest = rest (insert a w.0 w.1) ∙ put_other a w k (absent _ (λ same. let is = ap (is_local site) (same_key k w.0 same) in cc))
    go false n rest = rest a

-- all places
abbrev pub Every : Place → Type 0
Every n = Unit {0}

-- those before a
abbrev pub Upto : Place → Place → Type 0
Upto a n = IsBefore n a

some_is : {X : Type 0} {x y : X} → Some x ≡ Some y → x ≡ y
some_is e = cc

none_not_some : {X : Type 0} {x : X} → None ≡ Some x → ⊥
none_not_some e = cc

module _ {Args : Type 0} (order : Order Args) where
  pub record Cut (In Done : Place → Type 0) (k : Key) (q : Place) : Type 0 where
    pub within : (n : Place) → IsBefore n q → In n
    pub below : (n : Place) (t : Txn Args) → StandsAt order n t → Writes t k → IsBefore n q → Done n
    pub above : (n : Place) (t : Txn Args) → StandsAt order n t → Writes t k → In n → Done n → IsBefore n q

module _ {Args Row Reply : Type 0} (m : Meaning Args Row Reply) (order : Order Args) (start : Rows Row) (site : Site) where
  abbrev pub history : Place → Rows Row
  history q = rows_before m order start q

  pub record IsVersion (In Done : Place → Type 0) (rows : Rows Row) : Type 0 where
    pub at_cut : (k : Key) (q : Place) → is_local site k ≡ true → Cut order In Done k q → get rows k ≡ get (history q) k
    pub foreign : (k : Key) → is_local site k ≡ false → get rows k ≡ None

  pub record StoreKeeps (Done : Place → Type 0) (store : Store Row) : Type 0 where
    pub now : IsVersion Every Done store.map
    pub point : (p : Point Row) → store.point ≡ Some p → IsVersion (Upto p.at) Done p.rows

  -- no writer that the map takes writes from becomes done
  pub version_same : (In Done Done' : Place → Type 0) → ((p : Place) → Done p → Done' p)
      → ((k : Key) → is_local site k ≡ true → (p : Place) (t : Txn Args) → StandsAt order p t → Writes t k → In p → Done' p → Done p)
      → (rows : Rows Row) → IsVersion In Done rows → IsVersion In Done' rows
  version_same In Done Done' stays back rows old = record {
    at_cut = λ k q l cut. old.at_cut k q l (record {
      within = cut.within;
      below = λ p t at w h. back k l p t at w (cut.within p h) (cut.below p t at w h);
      above = λ p t at w i d. cut.above p t at w i (stays p d);
    });
    foreign = old.foreign;
  }

  -- where all is done before q, and nothing from q on that the map takes writes from
  pub version_standing : (In Done : Place → Type 0) (q : Place) → ((n : Place) → IsBefore n q → In n)
      → ((k : Key) → is_local site k ≡ true → (n : Place) (t : Txn Args) → StandsAt order n t → Writes t k → IsBefore n q → Done n)
      → ((n : Place) → In n → Done n → IsBefore n q)
      → (rows : Rows Row) → IsVersion In Done rows → rows ≡ part site.partitions site.partition (history q)
  version_standing In Done q within below above rows old = same_rows _ _ (λ k. go k (is_local site k) refl ∙ sym (get-part site.partitions site.partition (history q) k))
    where
      go : (k : Key) (b : Bool) → is_local site k ≡ b → get rows k ≡ cond b (get (history q) k) None
      go k true l = old.at_cut k q l (record { within = within; below = below k l; above = λ n t at w i d. above n i d })
      go k false l = old.foreign k l

  module _ (law : WritesWithin m) (rises : Rises order) where
    pub store_opened : (q : Place) (Done : Place → Type 0) → ((n : Place) → IsBefore n q → Done n) → ((n : Place) → Done n → IsBefore n q) → StoreKeeps Done (loaded (part site.partitions site.partition (history q)))
    store_opened q Done done before = record {
      now = record {
        at_cut = λ k r l cut. get-part site.partitions site.partition (history q) k ∙ ap (λ b. cond b (get (history q) k) None) l ∙ at_cut k r cut (places q r);
        foreign = λ k l. get-part site.partitions site.partition (history q) k ∙ ap (λ b. cond b (get (history q) k) None) l;
      };
      point = λ p e. absurd (none_not_some e);
    }
      where
        at_cut : (k : Key) (r : Place) → Cut order Every Done k r → Places q r → get (history q) k ≡ get (history r) k
        at_cut k r cut (earlier h) = sym (same_between m law order rises start q r k (not_both q r h) (λ n t at upto below w. upto (before n (cut.below n t at w below))))
        at_cut k r cut (same_place e) = ap (λ x. get (history x) k) e
        at_cut k r cut (later h) = same_between m law order rises start r q k (not_both r q h) (λ n t at upto below w. upto (cut.above n t at w tt (done n below)))

    pub store_same : (Done Done' : Place → Type 0) → ((p : Place) → Done p → Done' p)
        → ((k : Key) → is_local site k ≡ true → (p : Place) (t : Txn Args) → StandsAt order p t → Writes t k → Done' p → Done p)
        → (store : Store Row) → StoreKeeps Done store → StoreKeeps Done' store
    store_same Done Done' stays back store old = record {
      now = version_same Every Done Done' stays (λ k l p t at w i d. back k l p t at w d) store.map old.now;
      point = λ p e. version_same (Upto p.at) Done Done' stays (λ k l q t at w i d. back k l q t at w d) p.rows (old.point p e);
    }

    -- a point is opened where all that is done is before it
    pub store_marked : (Done : Place → Type 0) (q : Place) → ((n : Place) → Done n → IsBefore n q) → (store : Store Row) → StoreKeeps Done store → StoreKeeps Done (marked q store)
    store_marked Done q before store old = record {
      now = old.now;
      point = λ p e. subst (λ (p : Point Row). IsVersion (Upto p.at) Done p.rows) (some_is e) (record {
        at_cut = λ k r l cut. old.now.at_cut k r l (record { within = λ n h. tt; below = cut.below; above = λ n t at w every d. cut.above n t at w (before n d) d });
        foreign = old.now.foreign;
      });
    }

    -- the map and the point stay
    pub store_stirred : (Done : Place → Type 0) (store other : Store Row) → other.map ≡ store.map → other.point ≡ store.point → StoreKeeps Done store → StoreKeeps Done other
    store_stirred Done store other same_map same_point old = record {
      now = subst (IsVersion Every Done) (sym same_map) old.now;
      point = λ p e. old.point p (sym same_point ∙ e);
    }

    -- a point is closed, or left
    pub store_closed : (Done : Place → Type 0) (q : Place) (store : Store Row) → StoreKeeps Done store → StoreKeeps Done (closed_upto q store)
    store_closed Done q store old = record { now = old.now; point = go store.point old.point }
      where
        go : (o : Option (Point Row)) → ((p : Point Row) → o ≡ Some p → IsVersion (Upto p.at) Done p.rows) → (p : Point Row) → left_after q o ≡ Some p → IsVersion (Upto p.at) Done p.rows
        go None old p e = absurd (none_not_some e)
        go (Some x) old p e = at_test (is_lt (place_cmp q x.at)) e
          where
            at_test : (b : Bool) → cond b (Some x) None ≡ Some p → IsVersion (Upto p.at) Done p.rows
            at_test true e = old p e
            at_test false e = absurd (none_not_some e)

    -- the request t at n becomes done, at its turn, and its writes are put
    module _ (Done Done' : Place → Type 0) (n : Place) (t : Txn Args) (v : Rows Row) (stands : StandsAt order n t)
        (stays : (p : Place) → Done p → Done' p) (was : (p : Place) → Done' p → Done p ⊎ (p ≡ n)) (done : Done' n)
        (turn : (k : Key) → is_local site k ≡ true → Writes t k → Cut order Every Done k n) (viewed : v ≡ view (history n) t.sets.reads) where
      abbrev writes : List (Key × Row)
      writes = writes_on m t v

      version_put : (In : Place → Type 0) → In n → ((p : Place) → IsBefore p n → In p) → (rows : Rows Row) → IsVersion In Done rows → IsVersion In Done' (overwritten rows (local_writes site writes))
      version_put In inside lower rows old = record {
        at_cut = λ k q l cut. row_at k q l cut (has t.sets.writes k) refl;
        foreign = λ k l. foreign_kept site k l writes rows ∙ old.foreign k l;
      }
        where
          between : (k : Key) (q : Place) → Cut order Every Done k n → Cut order In Done' k q → (p : Place) (u : Txn Args) → StandsAt order p u → IsBefore n p → IsBefore p q → Writes u k → ⊥
          between k q here cut p u at h g w = elim (was p (cut.below p u at w g)) [
            | inl d ↦ not_both n p h (here.above p u at w tt d)
            | inr e ↦ not_before_itself n (subst (λ y. IsBefore n y) e h)
          ]

          only_writer : (k : Key) → has t.sets.writes k ≡ false → (p : Place) (u : Txn Args) → StandsAt order p u → Writes u k → Done' p → Done p
          only_writer k w p u at writer d = elim (was p d) [
            | inl old ↦ old
            | inr e ↦ let same = ap (λ (x : Txn Args). has x.sets.writes k) (only_one order rises n u t (subst (λ x. StandsAt order x u) e at) stands) in absurd (cc)
          ]

          row_at : (k : Key) (q : Place) → is_local site k ≡ true → Cut order In Done' k q → (w : Bool) → has t.sets.writes k ≡ w → get (overwritten rows (local_writes site writes)) k ≡ get (history q) k
          row_at k q l cut true w =
              let here : Cut order Every Done k n = turn k l w in
              local_agree site k l writes rows (history n) (old.at_cut k n l (record { within = lower; below = here.below; above = λ p u at g i d. here.above p u at g tt d }))
              ∙ ap (λ v. get (overwritten (history n) (writes_on m t v)) k) viewed
              ∙ sym (after_its_turn m law order rises start n q t k stands (cut.above n t stands w inside done) (between k q here cut))
          row_at k q l cut false w =
              local_agree site k l writes rows rows refl
              ∙ overwritten_other writes rows k (writes_declared m law t v k w)
              ∙ old.at_cut k q l (record {
                within = cut.within;
                below = λ p u at g h. only_writer k w p u at g (cut.below p u at g h);
                above = λ p u at g i d. cut.above p u at g i (stays p d);
              })

      pub store_put : (store : Store Row) → StoreKeeps Done store → StoreKeeps Done' (put_at n (local_writes site writes) store)
      store_put store old = record { now = version_put Every tt (λ p h. tt) store.map old.now; point = go store.point old.point }
        where
          go : (o : Option (Point Row)) → ((p : Point Row) → o ≡ Some p → IsVersion (Upto p.at) Done p.rows) → (p : Point Row) → put_point n (local_writes site writes) o ≡ Some p → IsVersion (Upto p.at) Done' p.rows
          go None old p e = absurd (none_not_some e)
          go (Some x) old p e = subst (λ (p : Point Row). IsVersion (Upto p.at) Done' p.rows) (some_is e) (at_test (is_lt (place_cmp n x.at)) refl)
            where
              at_test : (b : Bool) → is_lt (place_cmp n x.at) ≡ b → IsVersion (Upto x.at) Done' (cond b (overwritten x.rows (local_writes site writes)) x.rows)
              at_test true inside = version_put (Upto x.at) (is_lt_true (place_cmp n x.at) inside) (λ p h. before_trans p n x.at h (is_lt_true (place_cmp n x.at) inside)) x.rows (old x refl)
              at_test false outside = version_same (Upto x.at) Done Done' stays (λ k l p u at w i d. elim (was p d) [
                | inl h ↦ h
                | inr e ↦ let lt = ap is_lt (subst (λ y. IsBefore y x.at) e i) in absurd (cc (lt, outside))
              ]) x.rows (old x refl)
