-- Keys and operations, token by token.
use Rattle.std.proofs.Common.{◌≡◌, ◌≤◌, ◌^◌, ℕ, suc, List, ◌∷◌, Option, option_map, codes, refl, ap, ◌∙◌, arith}
use Rattle.json.specs.Token.{Token}
use Rattle.serde_json.specs.Data.{Data, string, array, Items, no_items, item}
use Rattle.calvin_types.specs.declared.key.Key.{Key}
use Rattle.calvin_app.specs.Kv.{key_of}
use Rattle.calvin_app.specs.declared.kv.KvRequest.TheVariants.{Put, Get, Add, Move, Follow}
use Rattle.calvin_script.specs.Spelling.{below}
use Rattle.calvin_script.specs.KeyLists.{key, key_set}
use Rattle.calvin_script.specs.Numbers.{one_number, two_numbers, three_numbers}
use Rattle.calvin_stock.specs.declared.request.StockRequest.TheVariants.{AddItem, Restock, Open, PayIn, Order, Settle, Balance}
use Rattle.calvin_script.specs.KvOperations.{row_key, put, get_of, add, move_of, follow_of, kv_operation}
use Rattle.calvin_script.specs.StockOperations.{additem, restock, open_of, payin, order, settle, balance, stock_operation}
use Rattle.calvin_script_tokens.specs.Spelled.{ReadsItems, Spells, SpellsBehind}
use Rattle.calvin_script_tokens.proofs.Steps.{string_reads, items_end, items_more, array_reads, deeper}

pub row_key_spelled : (id : ℕ) (ts rest : List Token) → Spells (below (2 ^ 64)) 0 ts id rest → Spells row_key 1 ts (record { table = 0; id = id }) rest
row_key_spelled id ts rest s = record { piece = s.piece; reads = deeper 0 1 ts rest s.piece (omega arith) s.reads; means = ap (option_map key_of) s.means }

pub key_spelled : (table id : ℕ) (ts t1 t2 t3 rest : List Token) → ts ≡ Token.begin_array ∷ t1 → Spells (below (2 ^ 8)) 0 t1 table t2 → Spells (below (2 ^ 64)) 0 t2 id t3 → t3 ≡ Token.end_array ∷ rest
    → Spells key 1 ts (record { table = table; id = id }) rest
unfolding key
key_spelled table id ts t1 t2 t3 rest opened a b closed = record {
  piece = array (item a.piece (item b.piece no_items));
  reads = rw opened (array_reads 0 t1 rest (item a.piece (item b.piece no_items))
      (items_more 0 t1 t2 rest a.piece (item b.piece no_items) a.reads
      (items_more 0 t2 t3 rest b.piece no_items b.reads (rw closed (items_end 0 rest)))));
  means = rw (a.means, b.means) refl;
}

pub named_reads : (deep : ℕ) (name : List ℕ) (ts t1 t2 rest : List Token) (ds : Items) → ts ≡ Token.begin_array ∷ t1 → t1 ≡ Token.string name ∷ t2 → ReadsItems deep t2 ds rest
    → ReadsItems deep t1 (item (string name) ds) rest
named_reads deep name ts t1 t2 rest ds opened is inside = rw is (items_more deep (Token.string name ∷ t2) t2 rest (string name) ds (deeper 0 deep (Token.string name ∷ t2) t2 (string name) (omega arith) (string_reads name t2)) inside)

-- an operation, from its name and from what follows it
module _ {A B : Type 0} (operation : Data → Option A) (f : Data → Option B) (into : B → A) (name : List ℕ) (same : (ds : Items) → operation (array (item (string name) ds)) ≡ option_map into (f (array (item (string name) ds)))) where
  pub named_spelled : (deep : ℕ) (x : B) (text : List ℕ) (ts t1 t2 rest : List Token) → deep ≤ 120 → ts ≡ Token.begin_array ∷ t1 → t1 ≡ Token.string text ∷ t2 → text ≡ name → SpellsBehind f deep t2 x rest → Spells operation 121 ts (into x) rest
  named_spelled deep x text ts t1 t2 rest le opened at is behind =
      let first : t1 ≡ Token.string name ∷ t2 = at ∙ ap (λ s. Token.string s ∷ t2) is in
      record {
        piece = array (item (string name) behind.pieces);
        reads = rw opened (deeper (suc deep) 121 _ rest _ (omega arith) (array_reads deep t1 rest _ (named_reads deep name ts t1 t2 rest _ opened first behind.reads)));
        means = same behind.pieces ∙ ap (option_map into) (behind.means (string name));
      }

-- ---- the operations of Kv

module _ (ds : Items) where
  pub put_is : kv_operation (array (item (string (codes "put")) ds)) ≡ option_map (λ n. Put n.0 n.1) (two_numbers (array (item (string (codes "put")) ds)))
  unfolding kv_operation put
  put_is = refl

  pub add_is : kv_operation (array (item (string (codes "add")) ds)) ≡ option_map (λ n. Add n.0 n.1) (two_numbers (array (item (string (codes "add")) ds)))
  unfolding kv_operation add
  add_is = refl

  pub move_is : kv_operation (array (item (string (codes "move")) ds)) ≡ option_map (λ n. Move n.0 n.1 n.2) (three_numbers (array (item (string (codes "move")) ds)))
  unfolding kv_operation move_of
  move_is = refl

  pub follow_is : kv_operation (array (item (string (codes "follow")) ds)) ≡ option_map Follow (one_number (array (item (string (codes "follow")) ds)))
  unfolding kv_operation follow_of
  follow_is = refl

pub get_spelled : (ks : List Key) (ts t1 t2 t3 rest : List Token) → ts ≡ Token.begin_array ∷ t1 → t1 ≡ Token.string (codes "get") ∷ t2 → Spells (key_set row_key) 2 t2 ks t3 → t3 ≡ Token.end_array ∷ rest
    → Spells kv_operation 121 ts (Get ks) rest
unfolding kv_operation get_of
get_spelled ks ts t1 t2 t3 rest opened is s closed = record {
  piece = array (item (string (codes "get")) (item s.piece no_items));
  reads = rw opened (deeper 3 121 _ rest _ (omega arith) (array_reads 2 t1 rest _ (named_reads 2 (codes "get") ts t1 t2 rest _ opened is
      (items_more 2 t2 t3 rest s.piece no_items s.reads (rw closed (items_end 2 rest))))));
  means = rw s.means refl;
}

-- ---- the operations of Stock

module _ (ds : Items) where
  pub additem_is : stock_operation (array (item (string (codes "additem")) ds)) ≡ option_map (λ n. AddItem n.0 n.1 n.2) (three_numbers (array (item (string (codes "additem")) ds)))
  unfolding stock_operation additem
  additem_is = refl

  pub restock_is : stock_operation (array (item (string (codes "restock")) ds)) ≡ option_map (λ n. Restock n.0 n.1) (two_numbers (array (item (string (codes "restock")) ds)))
  unfolding stock_operation restock
  restock_is = refl

  pub open_is : stock_operation (array (item (string (codes "open")) ds)) ≡ option_map Open (one_number (array (item (string (codes "open")) ds)))
  unfolding stock_operation open_of
  open_is = refl

  pub payin_is : stock_operation (array (item (string (codes "payin")) ds)) ≡ option_map (λ n. PayIn n.0 n.1) (two_numbers (array (item (string (codes "payin")) ds)))
  unfolding stock_operation payin
  payin_is = refl

  pub order_is : stock_operation (array (item (string (codes "order")) ds)) ≡ option_map Order (order (array (item (string (codes "order")) ds)))
  unfolding stock_operation
  order_is = refl

  pub settle_is : stock_operation (array (item (string (codes "settle")) ds)) ≡ option_map Settle (one_number (array (item (string (codes "settle")) ds)))
  unfolding stock_operation settle
  settle_is = refl

  pub balance_is : stock_operation (array (item (string (codes "balance")) ds)) ≡ option_map Balance (one_number (array (item (string (codes "balance")) ds)))
  unfolding stock_operation balance
  balance_is = refl
