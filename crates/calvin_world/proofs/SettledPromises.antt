-- What is promised of a world is promised of it with its nodes settled.
--     settled_nodes      what holds of each node of a world, settled, holds of each node of the settled world
--     serial_settled, points_settled, alike_settled      the headline, points, and nodes that stand alike
use Rattle.std.proofs.Common.{◌≡◌, ℕ, ◌≤◌, sym, subst, ◌∙◌}
use Rattle.calvin_types.specs.declared.place.NodeId.{NodeId}
use Rattle.calvin_app.specs.Meaning.{Meaning}
use Rattle.calvin_node_acts.specs.NodeStates.{NodeState}
use Rattle.calvin_node_acts.specs.Running.{settled}
use Rattle.calvin_world.specs.Worlds.{WorldState, index_of}
use Rattle.calvin_world.specs.SettledWorlds.{settled_world}
use Rattle.calvin_world.specs.Promises.{StandsAtEnd, DoneAtEnd, IsNode, IsSerial, PointsAreSerial, AreAlike, StandAlike}
use Rattle.calvin_sched.proofs.Standings.{stands_left}
use Rattle.calvin_world.proofs.SettledNodes.{all_done_same}
use Rattle.calvin_world.proofs.SettledEvents.{settled_is_there}

module _ {Args Row : Type 0} where
  -- a settled node stands where the node stands, and has done what it has done
  stood : (x : NodeState Args Row) (n : ℕ) → StandsAtEnd (settled x) n → StandsAtEnd x n
  stood x n stands = sym (stands_left x.scheduler x.merged_epochs x.due n) ∙ stands

  was_done : (x : NodeState Args Row) (n : ℕ) → DoneAtEnd (settled x) n → DoneAtEnd x n
  was_done x n done = sym (all_done_same x.scheduler x.merged_epochs x.due n) ∙ done

module _ {Args Row Reply : Type 0} where
  -- what holds of each node, settled, holds of each node of the settled world
  pub settled_nodes : (w : WorldState Args Row Reply) (P : NodeId → NodeState Args Row → Type 0) → ((id : NodeId) (x : NodeState Args Row) → IsNode w id x → P id (settled x)) → (id : NodeId) (y : NodeState Args Row) → IsNode (settled_world w) id y → P id y
  settled_nodes w P each id y is =
      let was = settled_is_there w (index_of w.config.partitions id) y is.there in
      subst (P id) was.2 (each id was.0 (record { replica = is.replica; partition = is.partition; there = was.1 }))

  module _ (m : Meaning Args Row Reply) (w : WorldState Args Row Reply) where
    pub serial_settled : IsSerial m w → IsSerial m (settled_world w)
    serial_settled is = record {
      settled = (
        is.settled.0,
        is.settled.1,
        record {
          chosen = is.settled.2.chosen;
          merges = settled_nodes w (λ id y. y.merged_epochs ≤ is.settled.1) is.settled.2.merges;
          kept = settled_nodes w (λ id y. y.kept_epochs ≤ is.settled.1) is.settled.2.kept;
          replies = is.settled.2.replies;
          reads = is.settled.2.reads;
        },
      );
      rows = settled_nodes w _ (λ id x node n stands. is.rows id x node n (stood x n stands));
      sent = settled_nodes w _ (λ id x node n stands. is.sent id x node n (stood x n stands));
      replies = is.replies;
      reads = is.reads;
      kept = settled_nodes w _ is.kept;
    }

    pub points_settled : PointsAreSerial m w → PointsAreSerial m (settled_world w)
    points_settled are = settled_nodes w _ (λ id x node p is_open n at done. are id x node p is_open n at (was_done x n done))

  pub alike_settled : (w : WorldState Args Row Reply) → StandAlike w → StandAlike (settled_world w)
  alike_settled w alike n a b x y first second same stands others =
      settled_nodes w (λ a x. a.partition ≡ b.partition → StandsAtEnd x n → AreAlike (settled_world w) n a b x y)
      (λ a x first same stands. settled_nodes w (λ b y. a.partition ≡ b.partition → StandsAtEnd y n → AreAlike (settled_world w) n a b (settled x) y)
      (λ b y second same others. let are = alike n a b x y first second same (stood x n stands) (stood y n others) in record { rows = are.rows; replies = are.replies })
      b y second same others)
      a x first same stands
