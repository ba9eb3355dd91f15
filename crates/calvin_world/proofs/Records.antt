-- A node opened from a record is as a restart leaves one that has it; and where the order of its epochs stays its snapshot is right in the new order too.
use Rattle.std.proofs.Common.{◌≡◌, ℕ, zero, suc, ◌+◌, ◌<◌, ◌≤◌, Bool, true, false, cond, not, ◌&&◌, ◌||◌, [], ◌++◌, refl, sym, ap, ◌∙◌, subst, map, arith, Option, Some, None, Ok, Err}
use Rattle.std.specs.Prelude.{nat_le, nat_lt, nat_eq}
use Rattle.std.specs.FinMap.{empty}
use Rattle.std.proofs.lemmas.Bool.{false≢true}
use Rattle.calvin_types.specs.declared.fault.Fault.{Fault}
use Rattle.calvin_types.specs.declared.fault.Fault.TheVariants.{OrderChanged}
use Rattle.calvin_types.specs.declared.place.NodeId.{NodeId}
use Rattle.calvin_types.specs.Deeds.{Does}
use Rattle.calvin_app.specs.Meaning.{Meaning}
use Rattle.calvin_app.specs.Serial.{serial}
use Rattle.calvin_order.specs.Configs.{Config, is_woven, woven, stretch, order}
use Rattle.calvin_order.specs.Merged.{Assignment, joined, numbered}
use Rattle.calvin_node_acts.specs.NodeStates.{NodeState}
use Rattle.calvin_node_acts.specs.Handling.{NodeDeed}
use Rattle.calvin_node_acts.specs.Acting.{restart}
use Rattle.calvin_node_acts.specs.Durables.{Durable, is_below, is_same, is_order_changed, durable_of, opened_by, from_durable}
use Rattle.calvin_world.specs.Promises.{rows_after, with_woven}

-- ---- orders

not_le : (a b : ℕ) → nat_lt a b ≡ false → (e : ℕ) → e < b → nat_le a e ≡ false
not_le a b h e less = grind arith

none_below : (a : Option ℕ) (n e : ℕ) → is_below a n ≡ false → e < n → is_woven a e ≡ false
none_below None n e h less = refl
none_below (Some f) n e h less = not_le f n h e less

same_is : (a b : Option ℕ) → is_same a b ≡ true → a ≡ b
same_is None None h = refl
same_is None (Some f) h = absurd (false≢true h)
same_is (Some e) None h = absurd (false≢true h)
same_is (Some e) (Some f) h = ap Some (grind (arith, h))

-- the first n epochs are woven alike
woven_alike : (a b : Option ℕ) (n : ℕ) → is_order_changed a b n ≡ false → (e : ℕ) → e < n → is_woven a e ≡ is_woven b e
woven_alike a b n h e less = go (is_same a b) refl (is_below a n) refl (is_below b n) refl h
  where
    go : (s : Bool) → is_same a b ≡ s → (p : Bool) → is_below a n ≡ p → (q : Bool) → is_below b n ≡ q → (not s && (p || q)) ≡ false → is_woven a e ≡ is_woven b e
    go true s p sp q sq h = ap (λ x. is_woven x e) (same_is a b s)
    go false s true sp q sq h = absurd (false≢true (sym h))
    go false s false sp true sq h = absurd (false≢true (sym h))
    go false s false sp false sq h = none_below a n e sp less ∙ sym (none_below b n e sq less)

module _ {Args : Type 0} (c : Config) (a b : Option ℕ) (B : Assignment Args) where
  stretch_alike : (e k : ℕ) → ((f : ℕ) → e ≤ f → f < e + k → is_woven a f ≡ is_woven b f) → stretch (with_woven c a) B e k ≡ stretch (with_woven c b) B e k
  stretch_alike e zero alike = refl
  stretch_alike e (suc k) alike = λ i.
      numbered e 0 (cond (alike e (omega arith) (omega arith) i) (woven B e c.partitions) (joined B e c.partitions))
      ++ stretch_alike (suc e) k (λ f low high. alike f (omega (arith, low)) (omega (arith, high))) i

  order_alike : (n : ℕ) → is_order_changed a b n ≡ false → order (with_woven c a) B n ≡ order (with_woven c b) B n
  order_alike n h = stretch_alike 0 n (λ f low high. woven_alike a b n h f (omega (arith, high)))

module _ {Args Row Reply : Type 0} (m : Meaning Args Row Reply) where
  pub rows_alike : (c : Config) (a b : Option ℕ) (n : ℕ) → is_order_changed a b n ≡ false → (B : Assignment Args) → rows_after m (with_woven c a) B n ≡ rows_after m (with_woven c b) B n
  rows_alike c a b n h B = ap (λ es. (serial m (map (λ e. e.1) es) empty).0) (order_alike c a b B n h)

-- ---- restarts

same_itself : (a : Option ℕ) → is_same a a ≡ true
same_itself None = refl
same_itself (Some e) = nat_itself e
  where
    nat_itself : (e : ℕ) → nat_eq e e ≡ true
    nat_itself e = grind arith

module _ {Args Row Reply : Type 0} where
  pub opens_as_restart : (c : Config) (x : NodeState Args Row) → (next : NodeState Args Row) × (◌≡◌ {A = NodeDeed Args Row Reply} (restart x) (Does next [])) × (from_durable c x.id (durable_of c x) ≡ Ok next)
  opens_as_restart c x = (
    opened_by x.id (durable_of c x),
    refl,
    ap (λ (b : Bool). cond (not b && (is_below c.woven_from x.kept_epochs || is_below c.woven_from x.kept_epochs)) (Err OrderChanged) (Ok (opened_by x.id (durable_of c x)))) (same_itself c.woven_from),
  )

-- what a record opens, where it isn't refused
module _ {Args Row : Type 0} (c : Config) (id : NodeId) (d : Durable Args Row) where
  abbrev changed : Bool
  changed = is_order_changed c.woven_from d.woven_from d.kept_epochs

  opened_is : (next : NodeState Args Row) → from_durable c id d ≡ Ok next → opened_by id d ≡ next
  opened_is next e = go changed e
    where
      go : (b : Bool) → cond b (Err OrderChanged) (Ok (opened_by id d)) ≡ Ok next → opened_by id d ≡ next
      go true h = absurd (cc)
      go false h = cc

  pub has_data : (next : NodeState Args Row) → from_durable c id d ≡ Ok next → (next.id ≡ id) × (durable_of (with_woven c d.woven_from) next ≡ d)
  has_data next e = subst (λ (n : NodeState Args Row). (n.id ≡ id) × (durable_of (with_woven c d.woven_from) n ≡ d)) (opened_is next e) (refl, refl)

  pub opens : changed ≡ false → (next : NodeState Args Row) × (from_durable c id d ≡ Ok next)
  opens same = (opened_by id d, ap (λ b. cond b (Err OrderChanged) (Ok (opened_by id d))) same)

  pub refused_as : (f : Fault) → from_durable c id d ≡ Err f → (f ≡ OrderChanged) × (changed ≡ true)
  refused_as f e = go changed refl e
    where
      go : (b : Bool) → changed ≡ b → cond b (Err OrderChanged) (Ok (opened_by id d)) ≡ Err f → (f ≡ OrderChanged) × (changed ≡ true)
      go true is h = (cc, is)
      go false is h = absurd (cc)

module _ {Args Row Reply : Type 0} (c : Config) (id : NodeId) (d : Durable Args Row) where
  pub as_restarted : (next : NodeState Args Row) → from_durable c id d ≡ Ok next → (x : NodeState Args Row) → x.id ≡ id → durable_of (with_woven c d.woven_from) x ≡ d → ◌≡◌ {A = NodeDeed Args Row Reply} (restart x) (Does next [])
  as_restarted next e x named same = (λ i. Does (opened_by (named i) (same i)) []) ∙ ap (λ n. Does n []) (opened_is c id d next e)
