-- What is told of a world in code is told of the world that the events lead to: it stands where that one stands.
use Rattle.std.proofs.Common.{◌≡◌, ℕ, suc, List, [], ◌∷◌, ◌++◌, map, Result, Ok, Err, refl, ap, subst, ◌∙◌}
use Rattle.std.specs.List.{flat_map}
use Rattle.std.specs.Prelude.{OnOk}
use Rattle.std.specs.FinMap.{entries, len}
use Rattle.calvin_types.specs.declared.fault.Fault.{Fault}
use Rattle.calvin_app.specs.Meaning.{Meaning}
use Rattle.calvin_order.specs.Configs.{Config}
use Rattle.calvin_sched.specs.Standing.{greatest_below}
use Rattle.calvin_sched.proofs.Standings.{stands_left}
use Rattle.calvin_node_acts.specs.NodeStates.{NodeState}
use Rattle.calvin_node_acts.specs.Running.{settled}
use Rattle.calvin_text.specs.Texts.{line, finished_at}
use Rattle.calvin_world.specs.declared.event.Event.{Event}
use Rattle.calvin_world.specs.declared.event.Outcome.{Outcome}
use Rattle.calvin_world.specs.Worlds.{WorldState, opening}
use Rattle.calvin_world.specs.SettledWorlds.{settled_world, SettledLeads}
use Rattle.calvin_world.specs.Through.{through, WithoutWant}
use Rattle.calvin_world.proofs.Led.{settled_led}
use Rattle.calvin_report.specs.declared.replies.Epochs.TheVariants.{All}
use Rattle.calvin_report.specs.Replies.{replied, of_epochs, reply_lines}
use Rattle.calvin_report.specs.Reports.{outcome_lines, node_line, line_of, last_standing, node_lines, least, least_standing}
use Rattle.calvin_check.specs.Checks.{told_behind, told, answer_lines}

-- what holds anyway holds where a call succeeds
pub anyway : {T : Type 0} (r : Result T Fault) (P : Type 0) → P → OnOk r P
anyway (Ok x) P h = h
anyway (Err e) P h = tt

module _ {Args Row : Type 0} where
  last_same : (x : NodeState Args Row) → last_standing (settled x) ≡ last_standing x
  last_same x = λ i. greatest_below (λ e. stands_left x.scheduler x.merged_epochs x.due (suc e) i) x.merged_epochs

  line_same : (x : NodeState Args Row) → line_of (settled x) ≡ line_of x
  line_same x = λ i. node_line x.id (last_same x i) (len x.scheduler.store.map)

  lines_same : (nodes : List (NodeState Args Row)) → flat_map line_of (map settled nodes) ≡ flat_map line_of nodes
  lines_same [] = refl
  lines_same (x ∷ nodes) = λ i. line_same x i ++ lines_same nodes i

  lasts_same : (nodes : List (NodeState Args Row)) → map last_standing (map settled nodes) ≡ map last_standing nodes
  lasts_same [] = refl
  lasts_same (x ∷ nodes) = λ i. last_same x i ∷ lasts_same nodes i

module _ {Args Row Reply : Type 0} (m : Meaning Args Row Reply) (show : Reply → List ℕ) (c : Config) (start : WorldState Args Row Reply) (at_start : start ≡ opening c)
    (events : List (Event Args)) (outcomes : List Outcome) (w : WorldState Args Row Reply) (led : SettledLeads m start events outcomes w) (well : WithoutWant outcomes) where
  abbrev end : List Outcome × WorldState Args Row Reply
  end = through m (opening c) events

  both : (outcomes ≡ end.0) × (w ≡ settled_world end.1)
  both = settled_led m c events outcomes w (subst (λ (s : WorldState Args Row Reply). SettledLeads m s events outcomes w) at_start led) well

  same_lines : node_lines w ≡ node_lines end.1
  same_lines = ap node_lines both.1 ∙ lines_same end.1.nodes

  same_last : least_standing w ≡ least_standing end.1
  same_last = ap least_standing both.1 ∙ ap least (lasts_same end.1.nodes)

  same_replies : entries (replied w.packets) ≡ entries (replied end.1.packets)
  same_replies = ap (λ (v : WorldState Args Row Reply). entries (replied v.packets)) both.1

  pub told_text : (t a e : List ℕ) → t ≡ [] → a ≡ t ++ outcome_lines 0 outcomes → e ≡ told_behind show a w → e ≡ told show end
  told_text t a e none first second =
      let outcomes_told : a ≡ outcome_lines 0 end.0 = first ∙ (λ i. none i ++ outcome_lines 0 (both.0 i)) in
      second ∙ (λ i. outcomes_told i ++ same_lines i ++ reply_lines show (of_epochs All (same_replies i)) ++ finished_at (same_last i))

  pub told_lines : answer_lines show w ≡ answer_lines show end.1
  told_lines = λ i. map (λ e. line show e.0 e.1.0 e.1.1) (same_replies i) ++ finished_at (same_last i) ∷ []
