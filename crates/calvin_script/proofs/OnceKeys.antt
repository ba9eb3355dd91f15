-- The sets of each request of Stock, its name once, where no row is known: those of Stock's request, with the key of its kept reply.
use Rattle.std.proofs.Common.{◌≡◌, ℕ, ◌≤◌, ◌<◌, true, false, List, [], ◌∷◌, length, refl, sym, ap, ◌∙◌, arith}
use Rattle.std.specs.Prelude.{◌==◌, ◌&&◌, not}
use Rattle.std.specs.FinMap.{empty}
use Rattle.std.proofs.lemmas.Bool.Decides.{nat_tests}
use Rattle.calvin_types.specs.declared.key.Key.{Key}
use Rattle.calvin_types.specs.declared.key_set.Sets.{Sets}
use Rattle.calvin_types.specs.Keys.{insert_key}
use Rattle.calvin_types.specs.Submitting.{has_key}
use Rattle.calvin_types.proofs.Risings.{length-grows}
use Rattle.calvin_once.specs.declared.kept.Named.{Named}
use Rattle.calvin_once.specs.Once.{kept_key, with_key}
use Rattle.calvin_once.specs.OnceLaws.{inside-none}
use Rattle.calvin_stock.specs.declared.reply.StockReply.{StockReply}
use Rattle.calvin_stock.specs.declared.request.StockRequest.{StockRequest}
use Rattle.calvin_stock.specs.declared.rows.StockRow.{StockRow}
use Rattle.calvin_stock.specs.Stock.{stock}
use Rattle.calvin_stock.specs.StockLaws.{stock_lawful}
use Rattle.calvin_script.specs.OnceOperations.{once_stock}

first_with_key : (a : Named StockRequest) → with_key (kept_key 3 a.id) (stock.needs a.args empty) ≡ once_stock.needs a empty
first_with_key a = ap (λ rows. with_key (kept_key 3 a.id) (stock.needs a.args rows)) (sym (inside-none StockRow StockReply 3))

pub few_reads : (a : StockRequest) (s : Sets) → s ≡ stock.needs a empty → length s.reads < 16
few_reads a s is = let few = (stock_lawful.bounded_reads a empty).number in rw is (omega (arith, few))

pub few_writes : (a : StockRequest) (s : Sets) → s ≡ stock.needs a empty → length s.writes < 16
few_writes a s is = let few = (stock_lawful.bounded_writes a empty).number in rw is (omega (arith, few))

pub grown : (a : Named StockRequest) (k : Key) (s : Sets) (reads writes : List Key) → k ≡ kept_key 3 a.id → s ≡ stock.needs a.args empty → reads ≡ insert_key k s.reads → writes ≡ insert_key k s.writes
    → ◌≡◌ {A = Sets} (record { reads = reads; writes = writes }) (once_stock.needs a empty)
grown a k s reads writes key first r w = (λ i. record { reads = r i; writes = w i }) ∙ (λ i. with_key (key i) (first i)) ∙ first_with_key a

pub grown_reads : (a : Named StockRequest) (k : Key) (first reads : List Key) → k ≡ kept_key 3 a.id → first ≡ (stock.needs a.args empty).reads → reads ≡ insert_key k first → reads ≡ (once_stock.needs a empty).reads
grown_reads a k first reads key is r = r ∙ (λ i. insert_key (key i) (is i)) ∙ ap (λ s. s.reads) (first_with_key a)

some : (q : Key) (ks : List Key) → 1 ≤ length (insert_key q ks)
some q [] = omega arith
some q (k ∷ ks) = omega (arith, length-grows q (k ∷ ks))

not_none : (m n : ℕ) → 1 ≤ m → true ≡ not ((m == 0) && (n == 0))
not_none m n some = let e : (m == 0) ≡ false = grind (arith, nat_tests, some) in rw e refl

pub first_key_once : (a : Named StockRequest) → true ≡ has_key (once_stock.needs a empty)
first_key_once a =
    let s = stock.needs a.args empty in
    let key = kept_key 3 a.id in
    not_none (length (insert_key key s.reads)) (length (insert_key key s.writes)) (some key s.reads) ∙ ap has_key (first_with_key a)
