-- Events, token by token.
use Rattle.std.proofs.Common.{◌≡◌, ◌^◌, ◌∙◌, ℕ, List, ◌∷◌, Bool, true, false, Some, None, option_map, option_and_then, codes, bytes_eq, refl, ap, sym, arith}
use Rattle.std.proofs.lemmas.Slice.Eq.{bytes_eq-Decides}
use Rattle.json.specs.Token.{Token}
use Rattle.serde_json.specs.Data.{Data, string, array, item}
use Rattle.serde_json.specs.Find.{at, as_str}
use Rattle.calvin_types.specs.declared.place.NodeId.{NodeId}
use Rattle.calvin_node_acts.specs.declared.act.Act.{Act}
use Rattle.calvin_world.specs.declared.event.Event.TheVariants as world
use Rattle.calvin_script.specs.Grammar.{Grammar}
use Rattle.calvin_script.specs.Numbers.{one_number}
use Rattle.calvin_script.specs.Spelling.{only_if, below}
use Rattle.calvin_script_events.specs.EventForms.{node_of, node, act_alone, act_named, act_at, event}
use Rattle.calvin_script_tokens.specs.Spelled.{Spells, SpellsBehind}
use Rattle.calvin_script_tokens.proofs.Operations.{named_reads}
use Rattle.calvin_script_tokens.proofs.Steps.{items_more, array_reads, deeper}
use Rattle.calvin_event_tokens.specs.Behind.{SpellsBehindNode}

only_none : {A : Type 0} (b : Bool) → only_if {A = A} b None ≡ None
only_none true = refl
only_none false = refl

module _ {Args : Type 0} (grammar : Grammar Args) where
  -- a delivery is at no node
  none_at : (d : Data) → act_at grammar (codes "deliver") d ≡ None
  unfolding act_at act_named act_alone
  none_at d = only_none _

  at_node : (b : Bool) (name : List ℕ) (d : Data) (id : NodeId) (a : Act Args) → bytes_eq name (codes "deliver") ≡ b → option_and_then as_str (at 0 d) ≡ Some name → node d ≡ Some id → act_at grammar name d ≡ Some a
      → event grammar d ≡ Some (world.At id a)
  unfolding event
  at_node true name d id a e is n m =
      let same = (bytes_eq-Decides name (codes "deliver")).0 e in
      let none : None ≡ Some a = sym (none_at d) ∙ ap (λ s. act_at grammar s d) (sym same) ∙ m in
      absurd (cc)
  at_node false name d id a e is n m = rw (is, e, n, m) refl

  module _ (name : List ℕ) (ts t1 t2 : List Token) (opened : ts ≡ Token.begin_array ∷ t1) (named : t1 ≡ Token.string name ∷ t2) where
    pub deliver_spelled : (k : ℕ) (rest : List Token) → name ≡ codes "deliver" → SpellsBehind one_number 0 t2 k rest → Spells (event grammar) 123 ts (world.Deliver k) rest
    unfolding event
    deliver_spelled k rest is s =
        let first : t1 ≡ Token.string (codes "deliver") ∷ t2 = named ∙ ap (λ n. Token.string n ∷ t2) is in
        record {
          piece = array (item (string (codes "deliver")) s.pieces);
          reads = rw opened (deeper 1 123 _ rest _ (omega arith) (array_reads 0 t1 rest _ (named_reads 0 (codes "deliver") ts t1 t2 rest s.pieces opened first s.reads)));
          means = ap (option_map world.Deliver) (s.means (string (codes "deliver")));
        }

    pub act_spelled : (r p : ℕ) (t3 t4 rest : List Token) (a : Act Args) → Spells (below (2 ^ 8)) 0 t2 r t3 → Spells (below (2 ^ 8)) 0 t3 p t4 → SpellsBehindNode (act_at grammar name) 122 t4 a rest
        → Spells (event grammar) 123 ts (world.At (record { replica = r; partition = p }) a) rest
    unfolding node node_of
    act_spelled r p t3 t4 rest a x y s =
        let inside = items_more 122 t2 t3 rest x.piece (item y.piece s.pieces) (deeper 0 122 t2 t3 x.piece (omega arith) x.reads)
        (items_more 122 t3 t4 rest y.piece s.pieces (deeper 0 122 t3 t4 y.piece (omega arith) y.reads) s.reads) in
        let d = array (item (string name) (item x.piece (item y.piece s.pieces))) in
        record {
          piece = d;
          reads = rw opened (array_reads 122 t1 rest _ (named_reads 122 name ts t1 t2 rest _ opened named inside));
          means = at_node (bytes_eq name (codes "deliver")) name d (record { replica = r; partition = p }) a refl refl (rw (x.means, y.means) refl) (s.means (string name) x.piece y.piece);
        }
