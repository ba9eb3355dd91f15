-- What happens at a node, by its name, from what stands behind the node.
use Rattle.std.proofs.Common.{◌≡◌, ◌≤◌, ◌∙◌, ℕ, List, ◌∷◌, Option, Some, option_map, codes, refl, ap, arith}
use Rattle.json.specs.Token.{Token}
use Rattle.serde_json.specs.Data.{Data, array, no_items, item}
use Rattle.calvin_types.specs.declared.key.Key.{Key}
use Rattle.calvin_types.specs.declared.place.NodeId.{NodeId}
use Rattle.calvin_types.specs.declared.place.Place.{Place}
use Rattle.calvin_types.specs.declared.place.Slot.{Slot}
use Rattle.calvin_node_acts.specs.declared.act.Act.{Act}
use Rattle.calvin_node_acts.specs.declared.act.Act.TheVariants as act
use Rattle.calvin_script.specs.Grammar.{Grammar}
use Rattle.calvin_script.specs.declared.contents.Request.{Request}
use Rattle.calvin_script_events.specs.EventForms.{epoch, cooled, place, place_and_replica, slot_and_node, submit, act_alone, act_named, act_at}
use Rattle.calvin_script_tokens.proofs.Steps.{items_end}
use Rattle.calvin_event_tokens.specs.Behind.{SpellsBehindNode}

module _ {Args : Type 0} (grammar : Grammar Args) where
  -- ---- nothing behind the node

  alone : (wanted : List ℕ) (a : Act Args) → ((name r p : Data) → act_at grammar wanted (array (item name (item r (item p no_items)))) ≡ Some a)
      → (name : List ℕ) (ts rest : List Token) → name ≡ wanted → ts ≡ Token.end_array ∷ rest → SpellsBehindNode (act_at grammar name) 122 ts a rest
  alone wanted a means name ts rest is closed = rw (is, closed) (record { pieces = no_items; reads = items_end 122 rest; means = means })

  pub close_spelled : (name : List ℕ) (ts rest : List Token) → name ≡ codes "close" → ts ≡ Token.end_array ∷ rest → SpellsBehindNode (act_at grammar name) 122 ts act.Close rest
  unfolding act_at act_named act_alone
  close_spelled = alone (codes "close") act.Close (λ name r p. refl)

  pub merge_spelled : (name : List ℕ) (ts rest : List Token) → name ≡ codes "merge" → ts ≡ Token.end_array ∷ rest → SpellsBehindNode (act_at grammar name) 122 ts act.Merge rest
  unfolding act_at act_named act_alone
  merge_spelled = alone (codes "merge") act.Merge (λ name r p. refl)

  pub lock_spelled : (name : List ℕ) (ts rest : List Token) → name ≡ codes "lock" → ts ≡ Token.end_array ∷ rest → SpellsBehindNode (act_at grammar name) 122 ts act.Lock rest
  unfolding act_at act_named act_alone
  lock_spelled = alone (codes "lock") act.Lock (λ name r p. refl)

  pub restart_spelled : (name : List ℕ) (ts rest : List Token) → name ≡ codes "restart" → ts ≡ Token.end_array ∷ rest → SpellsBehindNode (act_at grammar name) 122 ts act.Restart rest
  unfolding act_at act_named act_alone
  restart_spelled = alone (codes "restart") act.Restart (λ name r p. refl)

  -- ---- something behind the node

  module _ {B : Type 0} (f : Data → Option B) (into : B → Act Args) (wanted : List ℕ) (same : (d : Data) → act_at grammar wanted d ≡ option_map into (f d)) where
    behind : (deep : ℕ) → deep ≤ 122 → (name : List ℕ) (x : B) (ts rest : List Token) → name ≡ wanted → SpellsBehindNode f deep ts x rest → SpellsBehindNode (act_at grammar name) 122 ts (into x) rest
    behind deep le name x ts rest is s = rw is (record {
      pieces = s.pieces;
      reads = record { at = λ depth n h enough. s.reads.at depth n (omega arith) enough };
      means = λ n r p. same (array (item n (item r (item p s.pieces)))) ∙ ap (option_map into) (s.means n r p);
    })

  pub propose_spelled : (name : List ℕ) (x : ℕ) (ts rest : List Token) → name ≡ codes "propose" → SpellsBehindNode epoch 0 ts x rest → SpellsBehindNode (act_at grammar name) 122 ts (act.Propose x) rest
  unfolding act_at act_named
  propose_spelled = behind epoch act.Propose (codes "propose") (λ d. refl) 0 (omega arith)

  pub snapshot_spelled : (name : List ℕ) (x : ℕ) (ts rest : List Token) → name ≡ codes "snapshot" → SpellsBehindNode epoch 0 ts x rest → SpellsBehindNode (act_at grammar name) 122 ts (act.Snapshot x) rest
  unfolding act_at act_named
  snapshot_spelled = behind epoch act.Snapshot (codes "snapshot") (λ d. refl) 0 (omega arith)

  pub mark_spelled : (name : List ℕ) (x : ℕ) (ts rest : List Token) → name ≡ codes "mark" → SpellsBehindNode epoch 0 ts x rest → SpellsBehindNode (act_at grammar name) 122 ts (act.Mark x) rest
  unfolding act_at act_named
  mark_spelled = behind epoch act.Mark (codes "mark") (λ d. refl) 0 (omega arith)

  pub cool_spelled : (name : List ℕ) (x : Key) (ts rest : List Token) → name ≡ codes "cool" → SpellsBehindNode cooled 1 ts x rest → SpellsBehindNode (act_at grammar name) 122 ts (act.Cool x) rest
  unfolding act_at act_named
  cool_spelled = behind cooled act.Cool (codes "cool") (λ d. refl) 1 (omega arith)

  pub begin_spelled : (name : List ℕ) (x : Place) (ts rest : List Token) → name ≡ codes "begin" → SpellsBehindNode place 0 ts x rest → SpellsBehindNode (act_at grammar name) 122 ts (act.Begin x) rest
  unfolding act_at act_named
  begin_spelled = behind place act.Begin (codes "begin") (λ d. refl) 0 (omega arith)

  pub finish_spelled : (name : List ℕ) (x : Place) (ts rest : List Token) → name ≡ codes "finish" → SpellsBehindNode place 0 ts x rest → SpellsBehindNode (act_at grammar name) 122 ts (act.Finish x) rest
  unfolding act_at act_named
  finish_spelled = behind place act.Finish (codes "finish") (λ d. refl) 0 (omega arith)

  pub askreads_spelled : (name : List ℕ) (place : Place) (replica : ℕ) (ts rest : List Token) → name ≡ codes "askreads" → SpellsBehindNode place_and_replica 0 ts (place, replica) rest → SpellsBehindNode (act_at grammar name) 122 ts (act.AskForReads place replica) rest
  unfolding act_at act_named
  askreads_spelled name place replica = behind place_and_replica (λ a. act.AskForReads a.0 a.1) (codes "askreads") (λ d. refl) 0 (omega arith) name (place, replica)

  pub askbatch_spelled : (name : List ℕ) (slot : Slot) (of : NodeId) (ts rest : List Token) → name ≡ codes "askbatch" → SpellsBehindNode slot_and_node 0 ts (slot, of) rest → SpellsBehindNode (act_at grammar name) 122 ts (act.AskForBatch slot of) rest
  unfolding act_at act_named
  askbatch_spelled name slot of = behind slot_and_node (λ a. act.AskForBatch a.0 a.1) (codes "askbatch") (λ d. refl) 0 (omega arith) name (slot, of)

  pub submit_spelled : (name : List ℕ) (x : Request Args) (ts rest : List Token) → name ≡ codes "submit" → SpellsBehindNode (submit grammar) 122 ts x rest → SpellsBehindNode (act_at grammar name) 122 ts (act.Submit x.txn) rest
  unfolding act_at
  submit_spelled = behind (submit grammar) (λ r. act.Submit r.txn) (codes "submit") (λ d. refl) 122 (omega arith)

  pub submitcold_spelled : (name : List ℕ) (x : Request Args) (ts rest : List Token) → name ≡ codes "submitcold" → SpellsBehindNode (submit grammar) 122 ts x rest → SpellsBehindNode (act_at grammar name) 122 ts (act.SubmitCold x.txn) rest
  unfolding act_at
  submitcold_spelled = behind (submit grammar) (λ r. act.SubmitCold r.txn) (codes "submitcold") (λ d. refl) 122 (omega arith)
