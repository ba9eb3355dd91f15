-- Where the nodes of some replicas stand, by the least of their last epochs.
use Rattle.std.proofs.Common.{◌≡◌, ℕ, zero, suc, ◌<◌, ◌≤◌, Bool, true, false, not, cond, List, [], ◌∷◌, refl, sym, ap, subst, ◌∙◌, map, arith, Option, Some, None}
use Rattle.std.specs.Prelude.{min, slice_get}
use Rattle.std.specs.List.{filter}
use Rattle.std.specs.FinMap.{empty, entries}
use Rattle.std.proofs.lemmas.Bool.{false≢true}
use Rattle.std.proofs.lemmas.Option.{none-some}
use Rattle.calvin_types.specs.declared.place.NodeId.{NodeId}
use Rattle.calvin_app.specs.Meaning.{Meaning, WritesWithin}
use Rattle.calvin_app.specs.Serial.{serial}
use Rattle.calvin_bench.proofs.Lists.{get_map}
use Rattle.calvin_order.specs.Configs.{Config, order}
use Rattle.calvin_order.specs.Merged.{Assignment}
use Rattle.calvin_sched.specs.Standing.{stands, greatest_below}
use Rattle.calvin_node_acts.specs.NodeStates.{NodeState}
use Rattle.calvin_text.specs.Texts.{lines}
use Rattle.calvin_world.specs.declared.event.Event.{Event}
use Rattle.calvin_world.specs.declared.event.Outcome.{Outcome}
use Rattle.calvin_world.specs.Worlds.{WorldState, index_of, opening, Leads}
use Rattle.calvin_world.specs.SettledWorlds.{settled_world, SettledLeads}
use Rattle.calvin_world.specs.Promises.{StandsAtEnd, IsNode, IsChosenUpTo}
use Rattle.calvin_world.proofs.EveryEvent.{leads_both, at_first}
use Rattle.calvin_world.proofs.SettledEvents.{settled_leads, settled_is_there}
use Rattle.calvin_world.proofs.SettledLaws.{named_in_code}
use Rattle.calvin_report.specs.declared.replies.Epochs.TheVariants.{UpTo}
use Rattle.calvin_report.specs.Replies.{replied, epochs_upto, of_epochs, reply_lines}
use Rattle.calvin_report.specs.Reports.{lesser, least_with, least, last_standing, least_standing, least_kept}
use Rattle.calvin_report.proofs.Serially.{AllStand, one_text, run, stood_merged}

-- ---- the least of some epochs

lesser_is : (a b : Option ℕ) (e : ℕ) → lesser a b ≡ Some e → (d : ℕ) × (f : ℕ) × (a ≡ Some d) × (b ≡ Some f) × (e ≤ d) × (e ≤ f)
lesser_is None b e is = absurd (none-some e is)
lesser_is (Some d) None e is = absurd (none-some e is)
lesser_is (Some d) (Some f) e is = let same : min d f ≡ e = cc in (d, f, refl, refl, omega (arith, same), omega (arith, same))

-- each is there, and not below the least
abbrev AtLeast : ℕ → Option ℕ → Type 0
AtLeast e a = (d : ℕ) × (e ≤ d) × (a ≡ Some d)

least_below : (a : Option ℕ) (others : List (Option ℕ)) (e : ℕ) → least_with a others ≡ Some e → (i : ℕ) (b : Option ℕ) → slice_get (a ∷ others) i ≡ Some b → AtLeast e b
least_below a [] e is zero b there = let same : a ≡ b = cc in (e, omega arith, sym same ∙ is)
least_below a [] e is (suc i) b there = absurd (none-some b there)
least_below a (c ∷ others) e is i b there = go (lesser_is a (least_with c others) e is) (λ f rest k here. least_below c others f rest k b here) i there
  where
    go : (d : ℕ) × (f : ℕ) × (a ≡ Some d) × (least_with c others ≡ Some f) × (e ≤ d) × (e ≤ f) → ((f : ℕ) → least_with c others ≡ Some f → (k : ℕ) → slice_get (c ∷ others) k ≡ Some b → AtLeast f b)
        → (i : ℕ) → slice_get (a ∷ c ∷ others) i ≡ Some b → AtLeast e b
    go (d, f, first, rest, low, lower) below zero there = let same : a ≡ b = cc in (d, low, sym same ∙ first)
    go (d, f, first, rest, low, lower) below (suc i) there = let more = below f rest i there in let above = more.1 in (more.0, omega (arith, lower, above), more.2)

least_of_all : (all : List (Option ℕ)) (e : ℕ) → least all ≡ Some e → (i : ℕ) (b : Option ℕ) → slice_get all i ≡ Some b → AtLeast e b
least_of_all [] e is i b there = absurd (none-some e is)
least_of_all (a ∷ others) e is i b there = least_below a others e is i b there

-- ---- what a test leaves of a list

left_at : {X : Type 0} (p : X → Bool) (xs : List X) (i : ℕ) (x : X) → slice_get xs i ≡ Some x → p x ≡ true → (j : ℕ) × (slice_get (filter p xs) j ≡ Some x)
left_at p [] i x there is = absurd (none-some x there)
left_at p (y ∷ xs) zero x there is = let same : y ≡ x = cc in subst (λ b. (j : ℕ) × (slice_get (cond b (y ∷ filter p xs) (filter p xs)) j ≡ Some x)) (sym (ap p same ∙ is)) (zero, there)
left_at p (y ∷ xs) (suc i) x there is = go (p y) (left_at p xs i x there is)
  where
    go : (b : Bool) → (j : ℕ) × (slice_get (filter p xs) j ≡ Some x) → (j : ℕ) × (slice_get (cond b (y ∷ filter p xs) (filter p xs)) j ≡ Some x)
    go true rest = (suc rest.0, rest.1)
    go false rest = rest

-- the first that is left
first_left : {X : Type 0} (p : X → Bool) (f : X → Option ℕ) (xs : List X) (e : ℕ) → least (map f (filter p xs)) ≡ Some e → (i : ℕ) × (x : X) × (slice_get xs i ≡ Some x) × (p x ≡ true)
first_left p f [] e is = absurd (none-some e is)
first_left p f (y ∷ xs) e is = go (p y) refl is (first_left p f xs e)
  where
    go : (b : Bool) → p y ≡ b → least (map f (cond b (y ∷ filter p xs) (filter p xs))) ≡ Some e → (least (map f (filter p xs)) ≡ Some e → (i : ℕ) × (x : _) × (slice_get xs i ≡ Some x) × (p x ≡ true))
        → (i : ℕ) × (x : _) × (slice_get (y ∷ xs) i ≡ Some x) × (p x ≡ true)
    go true passes h rest = (zero, y, refl, passes)
    go false passes h rest = let more = rest h in (suc more.0, more.1, more.2, more.3)

-- where each passes, all are left
all_left : {X : Type 0} (p : X → Bool) → ((x : X) → p x ≡ true) → (xs : List X) → filter p xs ≡ xs
all_left p each [] = refl
all_left p each (x ∷ xs) = ap (λ b. cond b (x ∷ filter p xs) (filter p xs)) (each x) ∙ ap (λ ys. x ∷ ys) (all_left p each xs)

not_lost : (b : Bool) → not b ≡ true → b ≡ false
not_lost true is = absurd (false≢true is)
not_lost false is = refl

-- the greatest number below a bound that passes does pass
passes_there : (passes : ℕ → Bool) (n k : ℕ) → greatest_below passes n ≡ Some k → passes k ≡ true
passes_there passes zero k is = absurd (none-some k is)
passes_there passes (suc n) k is = go (passes n) refl is (passes_there passes n k)
  where
    go : (b : Bool) → passes n ≡ b → cond b (Some n) (greatest_below passes n) ≡ Some k → (greatest_below passes n ≡ Some k → passes k ≡ true) → passes k ≡ true
    go true here h rest = let same : n ≡ k = cc in subst (λ j. passes j ≡ true) same here
    go false here h rest = rest h

-- a node stands at the end of its last epoch
stands_there : {Args Row : Type 0} (x : NodeState Args Row) (e : ℕ) → last_standing x ≡ Some e → StandsAtEnd x (suc e)
stands_there x e is = passes_there (λ k. stands x.scheduler x.merged_epochs x.due (suc k)) x.merged_epochs e is

module _ {Args Row Reply : Type 0} (m : Meaning Args Row Reply) (law : WritesWithin m) (c : Config) (events : List (Event Args)) (outcomes : List Outcome) (v : WorldState Args Row Reply) (leads : SettledLeads m (opening c) events outcomes v) where
  -- each node of the list has a name
  its_name : (i : ℕ) (y : NodeState Args Row) → slice_get v.nodes i ≡ Some y → (id : NodeId) × IsNode v id y
  its_name = let was = settled_leads m c events outcomes v leads in subst (λ (u : WorldState Args Row Reply). (i : ℕ) (y : NodeState Args Row) → slice_get u.nodes i ≡ Some y → (id : NodeId) × IsNode u id y) (sym was.2) (named was.0 was.1)
    where
      named : (w : WorldState Args Row Reply) → Leads m (opening c) events outcomes w → (i : ℕ) (y : NodeState Args Row) → slice_get (settled_world w).nodes i ≡ Some y → (id : NodeId) × IsNode (settled_world w) id y
      named w h i y there =
          let x = settled_is_there w i y there in
          let at = (leads_both m law (opening c) (at_first m law c) events outcomes w h).kept.placed i x.0 x.1 in
          (x.0.id, record { replica = at.1; partition = at.2; there = subst (λ j. slice_get (settled_world w).nodes j ≡ Some y) at.0 there })

  -- ---- of the replicas that aren't lost

  module _ (lost : ℕ → Bool) where
    abbrev kept_nodes : List (NodeState Args Row)
    kept_nodes = filter (λ x. not (lost x.id.replica)) v.nodes

    all_stand : (e : ℕ) → least_kept lost v ≡ Some e → AllStand m law c events outcomes v leads lost (suc e)
    all_stand e is = record {
      stand = λ id x node kept.
          let named = named_in_code m law c events outcomes v leads id x node in
          let left = left_at (λ (y : NodeState Args Row). not (lost y.id.replica)) v.nodes (index_of v.config.partitions id) x node.there (ap (λ (n : NodeId). not (lost n.replica)) named ∙ ap not kept) in
          let last = least_of_all (map last_standing (kept_nodes)) e is left.0 (last_standing x) (get_map last_standing (kept_nodes) left.0 x left.1) in
          let low = last.1 in
          (suc last.0, omega (arith, low), stands_there x last.0 last.2);
      other = λ r less.
          let first = first_left (λ (y : NodeState Args Row). not (lost y.id.replica)) last_standing v.nodes e is in
          let name = its_name first.0 first.1 first.2 in
          let named = named_in_code m law c events outcomes v leads name.0 first.1 name.1 in
          (name.0.replica, name.1.replica, ap (λ (n : NodeId). lost n.replica) (sym named) ∙ not_lost (lost first.1.id.replica) first.3);
    }

    -- what stands to the last epoch at whose end all of them stand is the serial run
    pub kept_text : (B : Assignment Args) → IsChosenUpTo v B (epochs_upto (least_kept lost v)) → (show : Reply → List ℕ)
        → reply_lines show (of_epochs (UpTo (least_kept lost v)) (entries (replied v.packets))) ≡ lines show (order v.config B (epochs_upto (least_kept lost v))) (serial m (map (λ e. e.1) (order v.config B (epochs_upto (least_kept lost v)))) empty).1
    kept_text B chosen show = one_text m law c events outcomes v leads (epochs_upto (least_kept lost v)) B chosen lost (standing (least_kept lost v) refl) show
      where
        standing : (o : Option ℕ) → least_kept lost v ≡ o → 0 < epochs_upto (least_kept lost v) → AllStand m law c events outcomes v leads lost (epochs_upto (least_kept lost v))
        standing None is some = absurd (let none : epochs_upto (least_kept lost v) ≡ 0 = ap epochs_upto is in omega (arith, some, none))
        standing (Some e) is some = subst (AllStand m law c events outcomes v leads lost) (sym (ap epochs_upto is)) (all_stand e is)

    -- and is chosen
    pub kept_chosen : (B : Assignment Args) × IsChosenUpTo v B (epochs_upto (least_kept lost v))
    kept_chosen = let all = (run m law c events outcomes v leads).settled in (all.0, λ slot less group. all.2.chosen slot (bound (least_kept lost v) refl slot.epoch less) group)
      where
        bound : (o : Option ℕ) → least_kept lost v ≡ o → (k : ℕ) → k < epochs_upto (least_kept lost v) → k < (run m law c events outcomes v leads).settled.1
        bound None is k less = absurd (let none : epochs_upto (least_kept lost v) ≡ 0 = ap epochs_upto is in omega (arith, less, none))
        bound (Some e) is k less =
            let first = first_left (λ (y : NodeState Args Row). not (lost y.id.replica)) last_standing v.nodes e is in
            let name = its_name first.0 first.1 first.2 in
            let named = named_in_code m law c events outcomes v leads name.0 first.1 name.1 in
            let stands = (all_stand e is).stand name.0 first.1 name.1 (ap (λ (n : NodeId). lost n.replica) (sym named) ∙ not_lost (lost first.1.id.replica) first.3) in
            let merged = stood_merged first.1 stands.0 stands.2 in
            let settled = (run m law c events outcomes v leads).settled.2.merges name.0 first.1 name.1 in
            let upto = stands.1 in
            let number : epochs_upto (least_kept lost v) ≡ suc e = ap epochs_upto is in
            omega (arith, less, merged, settled, upto, number)

  -- ---- of all

  none_lost : least_kept (λ r. false) v ≡ least_standing v
  none_lost = ap (λ (xs : List (NodeState Args Row)). least (map last_standing xs)) (all_left (λ (x : NodeState Args Row). true) (λ x. refl) v.nodes)

  pub finished_text : (B : Assignment Args) → IsChosenUpTo v B (epochs_upto (least_standing v)) → (show : Reply → List ℕ)
      → reply_lines show (of_epochs (UpTo (least_standing v)) (entries (replied v.packets))) ≡ lines show (order v.config B (epochs_upto (least_standing v))) (serial m (map (λ e. e.1) (order v.config B (epochs_upto (least_standing v)))) empty).1
  finished_text = subst (λ o. (B : Assignment Args) → IsChosenUpTo v B (epochs_upto o) → (show : Reply → List ℕ)
      → reply_lines show (of_epochs (UpTo o) (entries (replied v.packets))) ≡ lines show (order v.config B (epochs_upto o)) (serial m (map (λ e. e.1) (order v.config B (epochs_upto o))) empty).1) none_lost (kept_text (λ r. false))

  pub finished_chosen : (B : Assignment Args) × IsChosenUpTo v B (epochs_upto (least_standing v))
  finished_chosen = subst (λ o. (B : Assignment Args) × IsChosenUpTo v B (epochs_upto o)) none_lost (kept_chosen (λ r. false))
