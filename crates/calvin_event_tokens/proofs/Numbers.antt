-- What stands behind the node of an event, token by token.
use Rattle.std.proofs.Common.{◌≡◌, ◌^◌, ℕ, List, ◌∷◌, Option, refl}
use Rattle.json.specs.Token.{Token}
use Rattle.serde_json.specs.Data.{Data, no_items, item}
use Rattle.calvin_types.specs.declared.key.Key.{Key}
use Rattle.calvin_script.specs.Grammar.{Grammar}
use Rattle.calvin_script.specs.declared.contents.Request.{Request}
use Rattle.calvin_script.specs.KeyLists.{key}
use Rattle.calvin_script.specs.Requests.{request}
use Rattle.calvin_script.specs.Spelling.{below}
use Rattle.calvin_script_events.specs.EventForms.{node_of, place_of, slot_of, epoch, cooled, place, place_and_replica, slot_and_node, submit}
use Rattle.calvin_script_tokens.specs.Spelled.{Spells, ReadsItems}
use Rattle.calvin_script_tokens.proofs.Steps.{items_end, items_more}
use Rattle.calvin_event_tokens.specs.Behind.{SpellsBehindNode}

-- the last piece of an array
last_read : {A : Type 0} (f : Data → Option A) (deep : ℕ) (ts last rest : List Token) (x : A) → (s : Spells f deep ts x last) → last ≡ Token.end_array ∷ rest → ReadsItems deep ts (item s.piece no_items) rest
last_read f deep ts last rest x s closed = items_more deep ts last rest s.piece no_items s.reads (rw closed (items_end deep rest))

module _ (e : ℕ) (ts t1 : List Token) (a : Spells (below (2 ^ 48)) 0 ts e t1) where
  pub epoch_spelled : (rest : List Token) → t1 ≡ Token.end_array ∷ rest → SpellsBehindNode epoch 0 ts e rest
  unfolding epoch
  epoch_spelled rest closed = record { pieces = item a.piece no_items; reads = last_read (below (2 ^ 48)) 0 ts t1 rest e a closed; means = λ name r p. rw a.means refl }

  module _ (n : ℕ) (t2 : List Token) where
    module _ (b : Spells (below (2 ^ 32)) 0 t1 n t2) where
      pub place_spelled : (rest : List Token) → t2 ≡ Token.end_array ∷ rest → SpellsBehindNode place 0 ts (record { epoch = e; n = n }) rest
      unfolding place place_of
      place_spelled rest closed = record {
        pieces = item a.piece (item b.piece no_items);
        reads = items_more 0 ts t1 rest a.piece (item b.piece no_items) a.reads (last_read (below (2 ^ 32)) 0 t1 t2 rest n b closed);
        means = λ name r p. rw (a.means, b.means) refl;
      }

      pub place_and_replica_spelled : (q : ℕ) (t3 rest : List Token) → Spells (below (2 ^ 8)) 0 t2 q t3 → t3 ≡ Token.end_array ∷ rest → SpellsBehindNode place_and_replica 0 ts (record { epoch = e; n = n }, q) rest
      unfolding place_and_replica place_of
      place_and_replica_spelled q t3 rest c closed = record {
        pieces = item a.piece (item b.piece (item c.piece no_items));
        reads = items_more 0 ts t1 rest a.piece (item b.piece (item c.piece no_items)) a.reads
            (items_more 0 t1 t2 rest b.piece (item c.piece no_items) b.reads (last_read (below (2 ^ 8)) 0 t2 t3 rest q c closed));
        means = λ name r p. rw (a.means, b.means, c.means) refl;
      }

    pub slot_and_node_spelled : (q m : ℕ) (t3 t4 rest : List Token) → Spells (below (2 ^ 8)) 0 t1 n t2 → Spells (below (2 ^ 8)) 0 t2 q t3 → Spells (below (2 ^ 8)) 0 t3 m t4 → t4 ≡ Token.end_array ∷ rest
        → SpellsBehindNode slot_and_node 0 ts (record { epoch = e; group = n }, record { replica = q; partition = m }) rest
    unfolding slot_and_node slot_of node_of
    slot_and_node_spelled q m t3 t4 rest b c d closed = record {
      pieces = item a.piece (item b.piece (item c.piece (item d.piece no_items)));
      reads = items_more 0 ts t1 rest a.piece (item b.piece (item c.piece (item d.piece no_items))) a.reads
          (items_more 0 t1 t2 rest b.piece (item c.piece (item d.piece no_items)) b.reads
          (items_more 0 t2 t3 rest c.piece (item d.piece no_items) c.reads (last_read (below (2 ^ 8)) 0 t3 t4 rest m d closed)));
      means = λ name r p. rw (a.means, b.means, c.means, d.means) refl;
    }

pub cooled_spelled : (k : Key) (ts last rest : List Token) → Spells key 1 ts k last → last ≡ Token.end_array ∷ rest → SpellsBehindNode cooled 1 ts k rest
unfolding cooled
cooled_spelled k ts last rest a closed = record { pieces = item a.piece no_items; reads = last_read key 1 ts last rest k a closed; means = λ name r p. rw a.means refl }

pub submit_spelled : {Args : Type 0} (grammar : Grammar Args) (x : Request Args) (ts last rest : List Token) → Spells (request grammar) 122 ts x last → last ≡ Token.end_array ∷ rest → SpellsBehindNode (submit grammar) 122 ts x rest
unfolding submit
submit_spelled grammar x ts last rest a closed = record { pieces = item a.piece no_items; reads = last_read (request grammar) 122 ts last rest x a closed; means = λ name r p. rw a.means refl }
