-- Each request of a chosen batch has a key, and so a partition that runs it.
use Rattle.std.proofs.Common.{◌≡◌, ℕ, ◌<◌, ◌≤◌, Bool, true, false, cond, not, ◌&&◌, List, [], ◌∷◌, ◌++◌, length, inl, inr, refl, sym, ap, subst, ◌∙◌, arith, Option, Some, None}
use Rattle.std.specs.Prelude.{◌==◌, nat_le}
use Rattle.std.specs.List.{list_any, list_all}
use Rattle.std.proofs.lemmas.Option.{none-some}
use Rattle.std.proofs.lemmas.Bool.{false≢true, and_parts, eq-eqb, or_left, or_right, le-leb, leb-true, cases_lt}
use Rattle.calvin_types.specs.declared.fault.Fault.{Fault}
use Rattle.calvin_types.specs.declared.fault.Fault.TheVariants as fault
use Rattle.calvin_types.specs.declared.key.Key.{Key}
use Rattle.calvin_types.specs.declared.place.NodeId.{NodeId}
use Rattle.calvin_types.specs.declared.place.Slot.{Slot}
use Rattle.calvin_types.specs.declared.txn.Txn.{Txn}
use Rattle.calvin_types.specs.Deeds.{Deed, Refuses, Does}
use Rattle.calvin_types.specs.Keys.{partition_of}
use Rattle.calvin_types.specs.Participants.{site, is_active}
use Rattle.calvin_types.specs.Submitting.{has_key}
use Rattle.calvin_sched.proofs.Readiness.{both_true}
use Rattle.calvin_app.specs.Meaning.{Meaning}
use Rattle.calvin_order.specs.Sequencing.{Sequencing}
use Rattle.calvin_node_acts.specs.NodeStates.{NodeState}
use Rattle.calvin_node_acts.specs.declared.act.Act.{Act}
use Rattle.calvin_node_acts.specs.declared.act.Act.TheVariants.{Submit, SubmitCold, Cool, Close, Merge, Lock, Restart, Propose, Snapshot, Mark, Begin, Finish, AskForReads, AskForBatch}
use Rattle.calvin_node_packets.specs.declared.packet.Packet.{Packet}
use Rattle.calvin_node_acts.specs.Acting.{by_sequencer, deed_of, submitted}
use Rattle.calvin_world.specs.declared.event.Event.{Event}
use Rattle.calvin_world.specs.declared.event.Event.TheVariants.{At}
use Rattle.calvin_world.specs.declared.event.Outcome.{Outcome}
use Rattle.calvin_world.specs.declared.event.Outcome.TheVariants.{Done, Refused}
use Rattle.calvin_world.specs.Worlds.{WorldState, node_at, carry_out, at_node, happens, Step, Leads}
use Rattle.calvin_world.specs.Promises.{IsSubmitFor, Sometime}

-- ---- what is submitted has a key

never_done : {f : Fault} → Refused f ≡ Done → ⊥
never_done e = cc

module _ {Args Row Reply : Type 0} (w : WorldState Args Row Reply) (me : NodeId) (x : NodeState Args Row) where
  -- what becomes of a request's submission, by the three tests
  abbrev taken : (s : Sequencing Args) (room key attempt : Bool) → Deed (Sequencing Args) (Unit {0})
  taken s room key attempt = cond room (cond key (cond attempt (Does s tt) (Refuses fault.TooManyAttempts)) (Refuses fault.EmptySets)) (Refuses fault.QueueFull)

  -- a request without a key isn't taken
  not_taken : (packets : List (Packet Args Row Reply)) (s : Sequencing Args) (room key attempt : Bool) → (carry_out w me (by_sequencer x packets (taken s room key attempt))).0 ≡ Done → key ≡ true
  not_taken packets s true true attempt done = refl
  not_taken packets s true false attempt done = absurd (never_done done)
  not_taken packets s false key attempt done = absurd (never_done done)

module _ {Args Row Reply : Type 0} (m : Meaning Args Row Reply) where
  act_keyed : (w : WorldState Args Row Reply) (me : NodeId) (x : NodeState Args Row) (act : Act Args) (t : Txn Args) → submitted act ≡ Some t → (carry_out w me (deed_of m w.config act x)).0 ≡ Done → has_key t.sets ≡ true
  act_keyed w me x (Submit u) t is done = let same : u ≡ t = cc in subst (λ (t : Txn Args). has_key t.sets ≡ true) same (not_taken w me x [] _ _ (has_key u.sets) _ done)
  act_keyed w me x (SubmitCold u) t is done = let same : u ≡ t = cc in subst (λ (t : Txn Args). has_key t.sets ≡ true) same (not_taken w me x _ _ _ (has_key u.sets) _ done)
  act_keyed w me x (Cool k) t is done = absurd (none-some t is)
  act_keyed w me x Close t is done = absurd (none-some t is)
  act_keyed w me x Merge t is done = absurd (none-some t is)
  act_keyed w me x Lock t is done = absurd (none-some t is)
  act_keyed w me x Restart t is done = absurd (none-some t is)
  act_keyed w me x (Propose e) t is done = absurd (none-some t is)
  act_keyed w me x (Snapshot e) t is done = absurd (none-some t is)
  act_keyed w me x (Mark e) t is done = absurd (none-some t is)
  act_keyed w me x (Begin q) t is done = absurd (none-some t is)
  act_keyed w me x (Finish q) t is done = absurd (none-some t is)
  act_keyed w me x (AskForReads q r) t is done = absurd (none-some t is)
  act_keyed w me x (AskForBatch slot of_node) t is done = absurd (none-some t is)

  event_keyed : (w : WorldState Args Row Reply) (event : Event Args) (me : NodeId) (act : Act Args) (t : Txn Args) → event ≡ At me act → submitted act ≡ Some t → (happens m w event).0 ≡ Done → has_key t.sets ≡ true
  event_keyed w event me act t is says done = go (node_at w me) (ap (λ (e : Event Args). (happens m w e).0) (sym is) ∙ done)
    where
      go : (o : Option (NodeState Args Row)) → (at_node w me (deed_of m w.config act) o).0 ≡ Done → has_key t.sets ≡ true
      go None d = absurd (never_done d)
      go (Some x) d = act_keyed w me x act t says d

  pub sometime_keyed : (slot : Slot) (t : Txn Args) (w : WorldState Args Row Reply) (events : List (Event Args)) (outcomes : List Outcome) (new : WorldState Args Row Reply) (leads : Leads m w events outcomes new)
      → Sometime m (IsSubmitFor slot t) w events outcomes new leads → has_key t.sets ≡ true
  sometime_keyed slot t w [] [] new leads s = absurd s
  sometime_keyed slot t w [] (outcome ∷ outcomes) new leads s = absurd s
  sometime_keyed slot t w (event ∷ events) [] new leads s = absurd s
  sometime_keyed slot t w (event ∷ events) (outcome ∷ outcomes) new (next, step, rest) (inr s) = sometime_keyed slot t next events outcomes new rest s
  sometime_keyed slot t w (event ∷ events) (outcome ∷ outcomes) new (next, step, rest) (inl (done, such)) = by_step step
    where
      by_step : Step m w event outcome next → has_key t.sets ≡ true
      by_step (inl same) = event_keyed w event such.at such.submits.0 t such.submits.1 such.submits.2 (ap (λ (y : Outcome × WorldState Args Row Reply). y.0) (sym same) ∙ done)
      by_step (inr want) = absurd (never_done (sym want.2 ∙ done))

-- ---- what has a key is run somewhere

same_itself : (n : ℕ) → (n == n) ≡ true
same_itself n = eq-eqb n n refl

abbrev Least : (Key → ℕ) → List Key → Type 0
Least f ks = (k : Key) × (list_any (λ l. f l == f k) ks ≡ true) × (list_all (λ l. nat_le (f k) (f l)) ks ≡ true)

all_above : (f : Key → ℕ) (a b : ℕ) → a ≤ b → (ks : List Key) → list_all (λ l. nat_le b (f l)) ks ≡ true → list_all (λ l. nat_le a (f l)) ks ≡ true
all_above f a b low [] h = refl
all_above f a b low (k ∷ ks) h =
    let parts = and_parts _ _ h in
    let first : b ≤ f k = leb-true b (f k) parts.0 in
    both_true _ _ (le-leb a (f k) (omega (arith, first, low))) (all_above f a b low ks parts.1)

least_of_keys : (f : Key → ℕ) (k : Key) (ks : List Key) → Least f (k ∷ ks)
least_of_keys f k [] = (k, or_left _ _ (same_itself (f k)), both_true _ _ (le-leb (f k) (f k) (omega arith)) refl)
least_of_keys f k (l ∷ ls) = go (least_of_keys f l ls)
  where
    go : Least f (l ∷ ls) → Least f (k ∷ l ∷ ls)
    go (b, there, below) = elim (cases_lt (f b) (f k)) [
      | inl less ↦ (b, or_right _ _ there, both_true _ _ (le-leb (f b) (f k) (omega (arith, less))) below)
      | inr more ↦ (k, or_left _ _ (same_itself (f k)), both_true _ _ (le-leb (f k) (f k) (omega arith)) (all_above f (f k) (f b) more (l ∷ ls) below))
    ]

some_key : (reads writes : List Key) → not ((length reads == 0) && (length writes == 0)) ≡ true → (k : Key) × (ks : List Key) × (reads ++ writes ≡ k ∷ ks)
some_key [] [] h = absurd (false≢true h)
some_key [] (k ∷ ks) h = (k, ks, refl)
some_key (k ∷ ks) writes h = (k, ks ++ writes, refl)

-- some partition runs a request that has a key
pub runs_somewhere : {Args : Type 0} (count : ℕ) (t : Txn Args) → 0 < count → has_key t.sets ≡ true → (p : ℕ) × (p < count) × (is_active (site count p) t ≡ true)
runs_somewhere count t some keyed =
    let first = some_key t.sets.reads t.sets.writes keyed in
    let least = subst (Least (partition_of count)) (sym first.2) (least_of_keys (partition_of count) first.0 first.1) in
    (partition_of count least.0, mod_less count least.0 some, or_right _ _ (both_true _ _ least.1 least.2))
  where
    mod_less : (count : ℕ) (k : Key) → 0 < count → partition_of count k < count
    mod_less count k some = omega (arith, some)
