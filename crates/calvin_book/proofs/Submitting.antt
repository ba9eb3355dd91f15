-- A submission says of the book what was so when it was made; or why it wasn't made.
--     submitted      the event is the last one, and the node was open to it
--     none_there, not_above, not_taken      why a request isn't submitted
use Rattle.std.proofs.Common.{◌≡◌, ◌⊎◌, ℕ, inl, inr, List, [], ◌∷◌, ◌++◌, length, take, Option, Some, None, refl, sym, ap, subst, ◌∙◌, slice_get}
use Rattle.calvin_types.specs.declared.fault.Fault.{Fault}
use Rattle.calvin_types.specs.declared.fault.Fault.TheVariants.{OutOfMemory, NoNode, Stale}
use Rattle.calvin_types.specs.declared.place.NodeId.{NodeId}
use Rattle.calvin_types.specs.declared.txn.Txn.{Txn}
use Rattle.calvin_types.specs.Deeds.{Deed, Refuses, Does}
use Rattle.calvin_app.specs.Meaning.{Meaning}
use Rattle.calvin_order.specs.Sequencing as sequencing
use Rattle.calvin_node_acts.specs.NodeStates.{NodeState}
use Rattle.calvin_node_acts.specs.Acting.{by_sequencer}
use Rattle.calvin_node_acts.specs.declared.act.Act.TheVariants.{Submit}
use Rattle.calvin_world.specs.declared.event.Event.TheVariants.{At}
use Rattle.calvin_world.specs.declared.event.Outcome.TheVariants.{Done, Refused}
use Rattle.calvin_world.specs.Worlds.{WorldState, node_at, carry_out, at_node}
use Rattle.calvin_book.specs.Books.{Log, world_after, Applied, IsRefused}
use Rattle.calvin_book.specs.Receipts.{IsAbove, IsOpenTo, IsNotTaken, IsSubmitted}

module _ {X : Type 0} where
  last_there : (xs : List X) (x : X) → slice_get (xs ++ x ∷ []) (length xs) ≡ Some x
  last_there [] x = refl
  last_there (y ∷ xs) x = last_there xs x

  first_are : (xs ys : List X) → take (length xs) (xs ++ ys) ≡ xs
  first_are [] ys = refl
  first_are (x ∷ xs) ys = ap (λ zs. x ∷ zs) (first_are xs ys)

module _ {Args Row Reply : Type 0} (m : Meaning Args Row Reply) (old new : Log Args) (me : NodeId) (t : Txn Args) (told : Option ℕ) where
  pub submitted : IsOpenTo (world_after m old.config old.events) me told → Applied m old (At me (Submit t)) new → (k : ℕ) → k ≡ length old.events → IsSubmitted m new (record { number = k; node = me; txn = t; told = told })
  submitted is_open applied k k_is =
      let same : new ≡ record { config = old.config; events = old.events ++ At me (Submit t) ∷ [] } = applied.appended in
      record {
        event = (λ i. slice_get (same i).events (k_is i)) ∙ last_there old.events (At me (Submit t));
        is_open = subst (λ (w : WorldState Args Row Reply). IsOpenTo w me told) (sym (
            (λ i. world_after m (same i).config (take (k_is i) (same i).events))
            ∙ ap (world_after m old.config) (first_are old.events (At me (Submit t) ∷ []))
            )) is_open;
      }

-- ---- why it isn't made

module _ {Args Row : Type 0} (o : Option (NodeState Args Row)) (told : Option ℕ) where
  pub none_there : o ≡ None → (t : Txn Args) → IsNotTaken o t told NoNode
  none_there none t = subst (λ o. IsNotTaken o t told NoNode) (sym none) refl

  pub not_above : (x : NodeState Args Row) → o ≡ Some x → (IsAbove told (sequencing.next_epoch x.sequencer) → ⊥) → (t : Txn Args) → IsNotTaken o t told Stale
  not_above x there below t = subst (λ o. IsNotTaken o t told Stale) (sym there) (inl (below, refl))

module _ {Args Row Reply : Type 0} (w : WorldState Args Row Reply) (me : NodeId) (x : NodeState Args Row) where
  same_fault : (f g : Fault) → Refused f ≡ Refused g → f ≡ g
  same_fault f g e = cc

  not_done : (g : Fault) → Done ≡ Refused g → ⊥
  not_done g e = cc

  refused_by : (d : Deed (sequencing.Sequencing Args) (Unit {0})) (fault : Fault) → (carry_out w me (by_sequencer x [] d)).0 ≡ Refused fault → d ≡ Refuses fault
  refused_by (Refuses f) fault e = ap Refuses (same_fault f fault e)
  refused_by (Does s out) fault e = absurd (not_done fault e)

module _ {Args Row Reply : Type 0} (m : Meaning Args Row Reply) (log : Log Args) (me : NodeId) (t : Txn Args) (told : Option ℕ) where
  abbrev w : WorldState Args Row Reply
  w = world_after m log.config log.events

  pub not_taken : IsOpenTo w me told → (fault : Fault) → IsRefused m log (At me (Submit t)) fault → IsNotTaken (node_at w me) t told fault
  not_taken is_open fault refused = subst (λ o. IsNotTaken o t told fault) (sym is_open.there) (inr (is_open.above, why refused))
    where
      why : IsRefused m log (At me (Submit t)) fault → (sequencing.submit t is_open.state.sequencer ≡ Refuses fault) ⊎ (fault ≡ OutOfMemory)
      why (inl e) = inl (refused_by w me is_open.state (sequencing.submit t is_open.state.sequencer) fault
          (sym (ap (λ o. (at_node w me (λ (x : NodeState Args Row). by_sequencer x [] (sequencing.submit t x.sequencer)) o).0) is_open.there) ∙ e))
      why (inr e) = inr e
