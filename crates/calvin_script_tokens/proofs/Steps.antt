-- What tokens spell, a token at a time.
use Rattle.std.proofs.Common.{◌≡◌, ℕ, suc, ◌-◌, ◌<◌, ◌≤◌, List, [], ◌∷◌, ◌++◌, length, Option, Some, None, refl, sym, ap, ◌∙◌, arith, append_assoc, append-nil, lt-ltb, le-leb}
use Rattle.json.specs.Token.{Token}
use Rattle.json.specs.Json.{parse_map, after_end_array, items, members, value}
use Rattle.json.proofs.Grammar.{left, value_is, value-begin_array, value-begin_object, skip_value-shorter}
use Rattle.serde_json.specs.Data.{Num, unsigned, Data, number, string, array, object, Items, no_items, item, Members, no_members, put}
use Rattle.serde_json.specs.Find.{as_str}
use Rattle.serde_json.specs.Read.{of_json, converted, number_of}
use Rattle.calvin_script_tokens.proofs.Turns.{converted_some, converted-array, converted-object, item_read, items_over, member_read, members_over}
use Rattle.calvin_script.specs.Spelling.{list, below, between}
use Rattle.calvin_script_tokens.specs.Spelled.{Reads, ReadsItems, Spells, SpellsOneMore}
use Rattle.calvin_script_tokens.proofs.Insides.{ReadsMembers, SpellsEach}

-- ---- one token

pub number_reads : (s : List ℕ) (x : Num) (rest : List Token) → number_of s ≡ Some x → Reads 0 (Token.number s ∷ rest) (number x) rest
number_reads s x rest e = record { at = λ depth h. ap (converted of_json) (value_is depth (Token.number s ∷ rest)) ∙ rw e }

pub string_reads : (s : List ℕ) (rest : List Token) → Reads 0 (Token.string s ∷ rest) (string s) rest
string_reads s rest = record { at = λ depth h. ap (converted of_json) (value_is depth (Token.string s ∷ rest)) }

pub string_spelled : (s : List ℕ) (ts rest : List Token) → ts ≡ Token.string s ∷ rest → Spells as_str 0 ts s rest
string_spelled s ts rest is = record { piece = string s; reads = rw is (string_reads s rest); means = refl }

-- ---- a value takes a token, and begins with no bracket that closes

pub Reads-shorter : (deep : ℕ) (ts rest : List Token) (d : Data) → Reads deep ts d rest → length rest < length ts
Reads-shorter deep ts rest d r =
    let j = converted_some of_json (value deep ts) d rest (r.at deep (omega arith)) in
    skip_value-shorter deep ts rest (ap left j.1)

pub Reads-opens : (deep : ℕ) (ts rest : List Token) (d : Data) → Reads deep ts d rest → after_end_array ts ≡ None
Reads-opens deep [] rest d r = refl
Reads-opens deep (Token.begin_object ∷ ts) rest d r = refl
Reads-opens deep (Token.end_object ∷ ts) rest d r = refl
Reads-opens deep (Token.begin_array ∷ ts) rest d r = refl
Reads-opens deep (Token.end_array ∷ ts) rest d r = let e = sym (ap (converted of_json) (value_is deep (Token.end_array ∷ ts))) ∙ r.at deep (omega arith) in absurd (cc)
Reads-opens deep (Token.key s ∷ ts) rest d r = refl
Reads-opens deep (Token.string s ∷ ts) rest d r = refl
Reads-opens deep (Token.number s ∷ ts) rest d r = refl
Reads-opens deep (Token.boolean b ∷ ts) rest d r = refl
Reads-opens deep (Token.null ∷ ts) rest d r = refl
Reads-opens deep (Token.bad ∷ ts) rest d r = refl

-- ---- arrays

pub items_end : (deep : ℕ) (rest : List Token) → ReadsItems deep (Token.end_array ∷ rest) no_items rest
items_end deep rest = record { at = λ depth n h enough. items_over (value depth) n (Token.end_array ∷ rest) rest enough refl }

pub items_more : (deep : ℕ) (ts mid rest : List Token) (d : Data) (ds : Items) → Reads deep ts d mid → ReadsItems deep mid ds rest → ReadsItems deep ts (item d ds) rest
items_more deep ts mid rest d ds one others =
    let less = Reads-shorter deep ts mid d one in
    record {
      at = λ depth n h enough.
          item_read (value depth) n ts mid d (omega arith) (Reads-opens deep ts mid d one) (one.at depth h)
          ∙ ap (parse_map (item d)) (others.at depth (n - 1) h (omega arith));
    }

pub array_reads : (deep : ℕ) (ts rest : List Token) (ds : Items) → ReadsItems deep ts ds rest → Reads (suc deep) (Token.begin_array ∷ ts) (array ds) rest
array_reads deep ts rest ds inside = record {
  at = λ depth h.
      ap (converted of_json) (value-begin_array depth ts (omega arith)) ∙ converted-array (items (value (depth - 1)) (length ts) ts)
      ∙ ap (parse_map array) (inside.at (depth - 1) (length ts) (omega arith) (omega arith));
}

-- ---- objects

pub members_end : (deep : ℕ) (rest : List Token) (found : Members) → ReadsMembers deep (Token.end_object ∷ rest) found found rest
members_end deep rest found = record { at = λ depth n h enough. members_over (value depth) found n (Token.end_object ∷ rest) rest enough refl }

pub members_more : (deep : ℕ) (name : List ℕ) (ts mid rest : List Token) (d : Data) (found ms : Members) → Reads deep ts d mid → ReadsMembers deep mid (put name d found) ms rest → ReadsMembers deep (Token.key name ∷ ts) found ms rest
members_more deep name ts mid rest d found ms one others =
    let less = Reads-shorter deep ts mid d one in
    record {
      at = λ depth n h enough.
          member_read (value depth) found n name (Token.key name ∷ ts) ts mid d (omega arith) refl (one.at depth h)
          ∙ others.at depth (n - 1) h (omega arith);
    }

pub object_reads : (deep : ℕ) (ts rest : List Token) (ms : Members) → ReadsMembers deep ts no_members ms rest → Reads (suc deep) (Token.begin_object ∷ ts) (object ms) rest
object_reads deep ts rest ms inside = record {
  at = λ depth h.
      ap (converted of_json) (value-begin_object depth ts (omega arith)) ∙ converted-object (members (value (depth - 1)) (length ts) ts)
      ∙ ap (parse_map object) (inside.at (depth - 1) (length ts) (omega arith) (omega arith));
}

-- ---- nesting

pub deeper : (deep more : ℕ) (ts rest : List Token) (d : Data) → deep ≤ more → Reads deep ts d rest → Reads more ts d rest
deeper deep more ts rest d h r = record { at = λ depth k. r.at depth (omega arith) }

-- ---- lists of what is spelled

module _ {A : Type 0} (f : Data → Option A) (deep : ℕ) where
  pub each_end : (rest : List Token) → SpellsEach f deep (Token.end_array ∷ rest) [] rest
  each_end rest = record { pieces = no_items; reads = items_end deep rest; means = refl }

  pub each_more : (ts mid rest : List Token) (x : A) (xs : List A) → Spells f deep ts x mid → SpellsEach f deep mid xs rest → SpellsEach f deep ts (x ∷ xs) rest
  each_more ts mid rest x xs one others = record {
    pieces = item one.piece others.pieces;
    reads = items_more deep ts mid rest one.piece others.pieces one.reads others.reads;
    means = rw (one.means, others.means) refl;
  }

  pub list_spelled : (ts rest : List Token) (xs : List A) → SpellsEach f deep ts xs rest → Spells (list f) (suc deep) (Token.begin_array ∷ ts) xs rest
  list_spelled ts rest xs inside = record {
    piece = array inside.pieces;
    reads = array_reads deep ts rest inside.pieces inside.reads;
    means = inside.means;
  }

  -- what was read before, at the front of what is read from here on
  pub each_onward : (start ts mid : List Token) (before after : List A) → ((xs : List A) (rest : List Token) → SpellsEach f deep ts xs rest → SpellsEach f deep start (before ++ xs) rest)
      → SpellsOneMore f deep ts before after mid → (xs : List A) (rest : List Token) → SpellsEach f deep mid xs rest → SpellsEach f deep start (after ++ xs) rest
  each_onward start ts mid before after onward one xs rest others =
      let all = onward (one.one ∷ xs) rest (each_more ts mid rest one.one xs one.spells others) in
      rw (one.more, append_assoc) all

  pub each_done : (start ts rest : List Token) (before : List A) → ((xs : List A) (end : List Token) → SpellsEach f deep ts xs end → SpellsEach f deep start (before ++ xs) end)
      → ts ≡ Token.end_array ∷ rest → SpellsEach f deep start before rest
  each_done start ts rest before onward e =
      let all = onward [] rest (rw e (each_end rest)) in
      rw append-nil at all

-- ---- numbers

pub below_spelled : (limit n : ℕ) (ts rest : List Token) → n < limit → Reads 0 ts (number (unsigned n)) rest → Spells (below limit) 0 ts n rest
below_spelled limit n ts rest h r = record { piece = number (unsigned n); reads = r; means = rw (lt-ltb _ _ h) }

pub between_spelled : (least most n : ℕ) (ts rest : List Token) → least ≤ n → n ≤ most → Reads 0 ts (number (unsigned n)) rest → Spells (between least most) 0 ts n rest
between_spelled least most n ts rest h k r = record { piece = number (unsigned n); reads = r; means = rw (le-leb _ _ h, le-leb _ _ k) }

pub one_more-shorter : {A : Type 0} (f : Data → Option A) (deep : ℕ) (ts rest : List Token) (before after : List A) → SpellsOneMore f deep ts before after rest → length rest < length ts
one_more-shorter f deep ts rest before after one = Reads-shorter deep ts rest one.spells.piece one.spells.reads

pub spells-shorter : {A : Type 0} (f : Data → Option A) (deep : ℕ) (ts rest : List Token) (x : A) → Spells f deep ts x rest → length rest < length ts
spells-shorter f deep ts rest x s = Reads-shorter deep ts rest s.piece s.reads

pub one_more : {A : Type 0} (f : Data → Option A) (deep : ℕ) (ts rest : List Token) (before after : List A) (x : A) → Spells f deep ts x rest → after ≡ before ++ x ∷ [] → SpellsOneMore f deep ts before after rest
one_more f deep ts rest before after x s e = record { one = x; spells = s; more = e }
