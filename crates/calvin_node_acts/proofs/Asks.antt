-- What a node sends without another change: what it asks for, and what it answers.
use Rattle.std.proofs.Common.{◌≡◌, ℕ, Bool, true, false, cond, not, ◌&&◌, List, [], ◌∷◌, ◌++◌, Option, Some, None, Result, Ok, Err, refl, sym, ap, ◌∙◌}
use Rattle.std.specs.List.{filter, range_with_len}
use Rattle.std.specs.Prelude.{◌==◌, OnOk, OnErr, IsOkUnless}
use Rattle.calvin_types.specs.declared.fault.Fault.{Fault}
use Rattle.calvin_types.specs.declared.fault.Fault.TheVariants.{OutOfMemory}
use Rattle.calvin_types.specs.declared.place.Place.{Place}
use Rattle.calvin_types.specs.Deeds.{Does}
use Rattle.calvin_order.specs.Configs.{Config}
use Rattle.calvin_sched.specs.Keeping.{awaits_at}
use Rattle.calvin_sched.specs.Progress.{left}
use Rattle.calvin_sched.specs.Scheduling.{Turn, awaits}
use Rattle.calvin_node_packets.specs.declared.packet.Packet.{Packet}
use Rattle.calvin_node_packets.specs.declared.packet.Content.TheVariants.{AskReads}
use Rattle.calvin_node_packets.specs.Packets.{to_each, others}
use Rattle.calvin_node_acts.specs.NodeStates.{NodeState, site_of}
use Rattle.calvin_node_acts.specs.Acting.{awaited_from, ask_each}
use Rattle.calvin_node_acts.specs.Running.{NodeDid}
use Rattle.calvin_node_acts.proofs.Settling.{running}

filter_both : (f g : ℕ → Bool) (xs : List ℕ) → filter (λ x. f x && g x) xs ≡ filter g (filter f xs)
filter_both f g [] = refl
filter_both f g (x ∷ xs) = go (f x) refl (filter_both f g xs)
  where
    go : (b : Bool) → f x ≡ b → filter (λ x. f x && g x) xs ≡ filter g (filter f xs) → cond (f x && g x) (x ∷ filter (λ x. f x && g x) xs) (filter (λ x. f x && g x) xs) ≡ filter g (cond (f x) (x ∷ filter f xs) (filter f xs))
    go true is rest = (λ i. cond (is i && g x) (x ∷ rest i) (rest i)) ∙ ap (λ b. filter g (cond b (x ∷ filter f xs) (filter f xs))) (sym is)
    go false is rest = (λ i. cond (is i && g x) (x ∷ rest i) (rest i)) ∙ ap (λ b. filter g (cond b (x ∷ filter f xs) (filter f xs))) (sym is)

none_pass : (xs : List ℕ) → filter (λ x. false) xs ≡ []
none_pass [] = refl
none_pass (x ∷ xs) = none_pass xs

module _ {Args Row : Type 0} (c : Config) (x : NodeState Args Row) where
  pub awaited_is : (o : Option (Turn Args Row)) → filter (λ p. not (p == x.id.partition) && awaits_at (site_of c.partitions x) o p) (range_with_len 0 c.partitions) ≡ awaited_from c x o
  awaited_is None = filter_both (λ p. not (p == x.id.partition)) (λ p. false) (range_with_len 0 c.partitions) ∙ none_pass (others c.partitions x.id.partition)
  awaited_is (Some turn) = filter_both (λ p. not (p == x.id.partition)) (awaits (site_of c.partitions x) turn) (range_with_len 0 c.partitions)

module _ {Args Row : Type 0} (Reply : Type 0) (c : Config) (x : NodeState Args Row) (is : left x.scheduler x.due ≡ x.due) (sent : List (Packet Args Row Reply)) where
  -- the node stays as it is, and sends some packets, or there is no room for them
  pub sends : (r : Result (Unit {0}) Fault) (packets all : List (Packet Args Row Reply)) → OnOk r (all ≡ sent ++ packets) → OnErr r (all ≡ sent) → IsOkUnless r OutOfMemory → NodeDid true r (Does x packets) (running c x) (running c x) sent all
  sends (Ok done) packets all ok err only = ((λ i. running c (record x { due = (sym is) i })), ok)
  sends (Err f) packets all ok err only = (refl, only, refl, err)

  pub asks : (q : Place) (replica : ℕ) (ps : List ℕ) → (ps ≡ [] → ⊥) → (r : Result (Unit {0}) Fault) (all : List (Packet Args Row Reply)) → OnOk r (all ≡ sent ++ to_each x.id replica (AskReads q) ps) → OnErr r (all ≡ sent) → IsOkUnless r OutOfMemory
      → NodeDid true r (ask_each x q replica ps) (running c x) (running c x) sent all
  asks q replica [] some r all ok err only = absurd (some refl)
  asks q replica (p ∷ ps) some r all ok err only = sends r (to_each x.id replica (AskReads q) (p ∷ ps)) all ok err only
