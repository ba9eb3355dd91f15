-- The numbers that follow the name of an operation, token by token.
use Rattle.std.proofs.Common.{◌≡◌, ◌<◌, ◌^◌, ℕ, List, ◌∷◌, refl, lt-ltb}
use Rattle.json.specs.Token.{Token}
use Rattle.serde_json.specs.Data.{unsigned, number, no_items, item}
use Rattle.calvin_script.specs.Numbers.{one_number, two_numbers, three_numbers}
use Rattle.calvin_script_tokens.specs.Spelled.{Reads, ReadsItems, SpellsBehind}
use Rattle.calvin_script_tokens.proofs.Steps.{items_end, items_more}

last_read : (m : ℕ) (ts last rest : List Token) → Reads 0 ts (number (unsigned m)) last → last ≡ Token.end_array ∷ rest → ReadsItems 0 ts (item (number (unsigned m)) no_items) rest
last_read m ts last rest a closed = items_more 0 ts last rest (number (unsigned m)) no_items a (rw closed (items_end 0 rest))

pub one_spelled : (m : ℕ) (ts last rest : List Token) → m < 2 ^ 64 → Reads 0 ts (number (unsigned m)) last → last ≡ Token.end_array ∷ rest → SpellsBehind one_number 0 ts m rest
unfolding one_number
one_spelled m ts last rest mb a closed = record {
  pieces = item (number (unsigned m)) no_items;
  reads = last_read m ts last rest a closed;
  means = λ name. rw (lt-ltb _ _ mb) refl;
}

pub two_spelled : (m n : ℕ) (ts mid last rest : List Token) → m < 2 ^ 64 → n < 2 ^ 64 → Reads 0 ts (number (unsigned m)) mid → Reads 0 mid (number (unsigned n)) last → last ≡ Token.end_array ∷ rest
    → SpellsBehind two_numbers 0 ts (m, n) rest
unfolding two_numbers
two_spelled m n ts mid last rest mb nb a b closed = record {
  pieces = item (number (unsigned m)) (item (number (unsigned n)) no_items);
  reads = items_more 0 ts mid rest (number (unsigned m)) (item (number (unsigned n)) no_items) a (last_read n mid last rest b closed);
  means = λ name. rw (lt-ltb _ _ mb, lt-ltb _ _ nb) refl;
}

pub three_spelled : (l m n : ℕ) (ts t1 t2 last rest : List Token) → l < 2 ^ 64 → m < 2 ^ 64 → n < 2 ^ 64 → Reads 0 ts (number (unsigned l)) t1 → Reads 0 t1 (number (unsigned m)) t2 → Reads 0 t2 (number (unsigned n)) last → last ≡ Token.end_array ∷ rest
    → SpellsBehind three_numbers 0 ts (l, m, n) rest
unfolding three_numbers
three_spelled l m n ts t1 t2 last rest lb mb nb a b c closed = record {
  pieces = item (number (unsigned l)) (item (number (unsigned m)) (item (number (unsigned n)) no_items));
  reads = items_more 0 ts t1 rest (number (unsigned l)) (item (number (unsigned m)) (item (number (unsigned n)) no_items)) a
      (items_more 0 t1 t2 rest (number (unsigned m)) (item (number (unsigned n)) no_items) b (last_read n t2 last rest c closed));
  means = λ name. rw (lt-ltb _ _ lb, lt-ltb _ _ mb, lt-ltb _ _ nb) refl;
}
