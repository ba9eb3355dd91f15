-- A request stands in epochs above the one that its caller had been told of.
--     some_at      the event that took effect, its number, and the world before it
--     its_own      what stands with the id and attempt of a submission is its request, in such epochs
use Rattle.std.proofs.Common.{◌≡◌, ℕ, zero, suc, ◌<◌, ◌≤◌, inl, inr, List, [], ◌∷◌, take, cond, Option, Some, None, refl, sym, ap, subst, ◌∙◌, arith, slice_get}
use Rattle.calvin_types.specs.declared.place.NodeId.{NodeId}
use Rattle.calvin_types.specs.declared.place.Place.{Place}
use Rattle.calvin_types.specs.declared.place.Slot.{Slot}
use Rattle.calvin_types.specs.declared.txn.Txn.{Txn}
use Rattle.calvin_types.specs.Orders.{StandsAt}
use Rattle.calvin_app.specs.Meaning.{Meaning, WritesWithin}
use Rattle.calvin_order.specs.Configs.{Config, order}
use Rattle.calvin_order.specs.Merged.{Assignment}
use Rattle.calvin_order.specs.Sequencing.{next_epoch}
use Rattle.calvin_node_acts.specs.NodeStates.{NodeState}
use Rattle.calvin_node_acts.specs.Acting.{submitted}
use Rattle.calvin_node_acts.specs.declared.act.Act.{Act}
use Rattle.calvin_node_acts.specs.declared.act.Act.TheVariants.{Submit}
use Rattle.calvin_world.specs.declared.event.Event.{Event}
use Rattle.calvin_world.specs.declared.event.Event.TheVariants.{At}
use Rattle.calvin_world.specs.Histories.{SomeEvent}
use Rattle.calvin_world.specs.Promises.{IsNode, IsChosenUpTo, IsSubmitFor}
use Rattle.calvin_world.specs.SettledWorlds.{SettledLeads}
use Rattle.calvin_world.specs.Worlds.{WorldState, index_of, opening, node_at}
use Rattle.calvin_world.proofs.InCode.{there_is}
use Rattle.calvin_world.proofs.SettledHistories.{code_in_time}
use Rattle.calvin_world.proofs.SettledLaws.{config_in_code}
use Rattle.calvin_book.specs.declared.receipt.Submission.{Submission}
use Rattle.calvin_book.specs.Books.{Log, done_each, IsRun, world_after}
use Rattle.calvin_book.specs.Receipts.{IsAbove, IsSubmitted, IsOnly}
use Rattle.calvin_book.proofs.Runs.{run_is, run_reached}

module _ {Args Row Reply : Type 0} where
  node_is : (w : WorldState Args Row Reply) (id : NodeId) (x : NodeState Args Row) → IsNode w id x → node_at w id ≡ Some x
  node_is w id x is = (λ i. cond (there_is w.config.partitions w.config.replicas id is.replica is.partition i) (slice_get w.nodes (index_of w.config.partitions id)) None) ∙ is.there

module _ {Args Row Reply : Type 0} (m : Meaning Args Row Reply) where
  pub record Found (Such : WorldState Args Row Reply → Event Args → Type 0) (w : WorldState Args Row Reply) (events : List (Event Args)) : Type 0 where
    pub number : ℕ
    pub event : Event Args
    pub there : slice_get events number ≡ Some event
    pub before : WorldState Args Row Reply
    pub led : SettledLeads m w (take number events) (done_each (take number events)) before
    pub such : Such before event

  pub some_at : (Such : WorldState Args Row Reply → Event Args → Type 0) (w : WorldState Args Row Reply) (events : List (Event Args)) (new : WorldState Args Row Reply) (leads : SettledLeads m w events (done_each events) new)
      → SomeEvent m Such w events (done_each events) new leads → Found Such w events
  some_at Such w [] new leads never = absurd never
  some_at Such w (event ∷ events) new (next, step, rest) (inl had) = record { number = zero; event = event; there = refl; before = w; led = refl; such = had.1 }
  some_at Such w (event ∷ events) new (next, step, rest) (inr later) =
      let f = some_at Such next events new rest later in
      record { number = suc f.number; event = f.event; there = f.there; before = f.before; led = (next, step, f.led); such = f.such }

  module _ (law : WritesWithin m) (events : List (Event Args)) where
    same_node : (a b : NodeId) (act other : Act Args) → At a act ≡ At b other → a ≡ b
    same_node a b act other e = cc

    same_act : (a b : NodeId) (act other : Act Args) → At a act ≡ At b other → act ≡ other
    same_act a b act other e = cc

    same_some : {X : Type 0} (a b : X) → Some a ≡ Some b → a ≡ b
    same_some a b e = cc

    above_is : (told : Option ℕ) (e next : ℕ) → told ≡ Some e → IsAbove told next → e < next
    above_is told e next is above = subst (λ o. IsAbove o next) is above

    abbrev LogOf : Config → Log Args
    LogOf k = record { config = k; events = events }

    -- what stands with its id and attempt is its request, which comes in epochs above the told one
    abbrev pub IsItsOwn : Config → WorldState Args Row Reply → Submission Args → Type 0
    IsItsOwn k w s = (B : Assignment Args) (n : ℕ) → IsChosenUpTo w B n → (r : Place) (t : Txn Args) → StandsAt (order k B n) r t → t.id ≡ s.txn.id → t.attempt ≡ s.txn.attempt
        → (t ≡ s.txn) × ((told : ℕ) → s.told ≡ Some told → told < r.epoch)

    here : (w : WorldState Args Row Reply) → IsRun m w.config events w → (s : Submission Args) → IsSubmitted m (LogOf w.config) s → IsOnly (LogOf w.config) s → IsItsOwn w.config w s
    here w run s is only B n chosen r t stands same_id same_attempt =
        let timely = code_in_time m law w (run_reached m events w run) events (done_each events) run B n chosen r t stands in
        let slot : Slot = record { epoch = r.epoch; group = timely.0 } in
        let f : Found (IsSubmitFor slot t) (opening w.config) events = some_at (IsSubmitFor slot t) (opening w.config) events w run timely.2 in
        let number : f.number ≡ s.number = only f.number f.event f.there f.such.at t f.such.submits same_id same_attempt in
        let event : f.event ≡ At s.node (Submit s.txn) = same_some f.event (At s.node (Submit s.txn)) (sym f.there ∙ ap (slice_get events) number ∙ is.event) in
        let act : f.such.submits.0 ≡ Submit s.txn = same_act f.such.at s.node f.such.submits.0 (Submit s.txn) (sym f.such.submits.1 ∙ event) in
        let at : f.such.at ≡ s.node = same_node f.such.at s.node f.such.submits.0 (Submit s.txn) (sym f.such.submits.1 ∙ event) in
        let before : f.before ≡ world_after m w.config (take s.number events) = run_is m w.config (take f.number events) f.before f.led ∙ ap (λ k. world_after m w.config (take k events)) number in
        let state : f.such.node ≡ is.is_open.state = same_some f.such.node is.is_open.state (sym (node_is f.before f.such.at f.such.node f.such.is_node) ∙ (λ i. node_at (before i) (at i)) ∙ is.is_open.there) in
        let in_time : next_epoch is.is_open.state.sequencer ≤ r.epoch = subst (λ (x : NodeState Args Row). next_epoch x.sequencer ≤ r.epoch) state f.such.in_time in (
          same_some t s.txn (sym f.such.submits.2 ∙ ap submitted act),
          λ told told_is. let above = above_is s.told told (next_epoch is.is_open.state.sequencer) told_is is.is_open.above in omega (arith, above, in_time),
        )

    pub its_own : (c : Config) (w : WorldState Args Row Reply) → IsRun m c events w → (s : Submission Args) → IsSubmitted m (LogOf c) s → IsOnly (LogOf c) s → IsItsOwn c w s
    its_own c w run =
        let same : w.config ≡ c = config_in_code m law c events (done_each events) w run in
        subst (λ (k : Config). IsRun m k events w → (s : Submission Args) → IsSubmitted m (LogOf k) s → IsOnly (LogOf k) s → IsItsOwn k w s) same (here w) run
