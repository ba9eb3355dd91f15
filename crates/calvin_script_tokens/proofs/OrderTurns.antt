-- The lines of an order and the order, token by token.
use Rattle.std.proofs.Common.{◌≡◌, ◌≤◌, ◌^◌, ℕ, List, ◌∷◌, Some, option_and_then, length, refl, ap, ◌∙◌, arith, le-leb}
use Rattle.json.specs.Token.{Token}
use Rattle.serde_json.specs.Data.{array, no_items, item}
use Rattle.calvin_stock.specs.declared.order.Line.{Line}
use Rattle.calvin_stock.specs.declared.order.Order.{Order}
use Rattle.calvin_script.specs.Spelling.{below, list}
use Rattle.calvin_script.specs.StockOperations.{line, few, lines, order, order_of_lines}
use Rattle.calvin_script_tokens.specs.Spelled.{Spells, SpellsBehind}
use Rattle.calvin_script_tokens.proofs.Steps.{items_end, items_more, array_reads, deeper}

pub line_spelled : (i q : ℕ) (ts t1 t2 t3 rest : List Token) → ts ≡ Token.begin_array ∷ t1 → Spells (below (2 ^ 64)) 0 t1 i t2 → Spells (below (2 ^ 32)) 0 t2 q t3 → t3 ≡ Token.end_array ∷ rest
    → Spells line 1 ts (record { item = i; pieces = q }) rest
unfolding line
line_spelled i q ts t1 t2 t3 rest opened a b closed = record {
  piece = array (item a.piece (item b.piece no_items));
  reads = rw opened (array_reads 0 t1 rest (item a.piece (item b.piece no_items))
      (items_more 0 t1 t2 rest a.piece (item b.piece no_items) a.reads
      (items_more 0 t2 t3 rest b.piece no_items b.reads (rw closed (items_end 0 rest)))));
  means = rw (a.means, b.means) refl;
}

pub lines_spelled : (ts rest : List Token) (ls : List Line) → length ls ≤ 4 → Spells (list line) 2 ts ls rest → Spells lines 2 ts ls rest
unfolding lines
lines_spelled ts rest ls h s = record { piece = s.piece; reads = s.reads; means = ap (option_and_then few) s.means ∙ rw (le-leb _ _ h) refl }

pub order_spelled : (u n : ℕ) (ls : List Line) (o : Order) (ts t1 t2 t3 rest : List Token) → Spells (below (2 ^ 64)) 0 ts u t1 → Spells (below (2 ^ 64)) 0 t1 n t2 → Spells lines 2 t2 ls t3 → t3 ≡ Token.end_array ∷ rest → order_of_lines u n ls ≡ Some o
    → SpellsBehind order 2 ts o rest
unfolding order
order_spelled u n ls o ts t1 t2 t3 rest a b s closed made = record {
  pieces = item a.piece (item b.piece (item s.piece no_items));
  reads = items_more 2 ts t1 rest a.piece (item b.piece (item s.piece no_items)) (deeper 0 2 ts t1 a.piece (omega arith) a.reads)
      (items_more 2 t1 t2 rest b.piece (item s.piece no_items) (deeper 0 2 t1 t2 b.piece (omega arith) b.reads)
      (items_more 2 t2 t3 rest s.piece no_items s.reads (rw closed (items_end 2 rest))));
  means = λ name. rw (a.means, b.means, s.means) made;
}
