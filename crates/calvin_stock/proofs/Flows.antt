-- An amount of the rows, with what each request adds to it and what it takes from it by its answer: if that comes out for
-- each request on what it sees, it comes out for every list.
--     Flows a rows o      for the outcome o of the request a on the rows
--     FlowsSeen a      for the request a, on any view that has the rows at the keys that it needs
use Rattle.std.proofs.Common.{◌≡◌, ℕ, ◌+◌, Bool, true, false, List, [], ◌∷◌, refl, ap, arith}
use Rattle.std.specs.Prelude.{if◌then◌else◌}
use Rattle.calvin_types.specs.declared.txn.Txn.{Txn}
use Rattle.calvin_app.specs.declared.answer.Answer.{Answer}
use Rattle.calvin_app.specs.declared.answer.Answer.TheVariants as answer
use Rattle.calvin_app.specs.Rows.{Rows, view, overwritten}
use Rattle.calvin_app.specs.Serial.{serial, is_current, answer_on, writes_on, answer_one, after_one}
use Rattle.calvin_stock.specs.declared.rows.StockRow.{StockRow}
use Rattle.calvin_stock.specs.declared.request.StockRequest.{StockRequest}
use Rattle.calvin_stock.specs.declared.reply.StockReply.{StockReply}
use Rattle.calvin_stock.specs.Operations.{Outcome}
use Rattle.calvin_stock.specs.Stock.{stock, needs_of, outcome_of}
use Rattle.calvin_stock.specs.Totals.{along}
use Rattle.calvin_stock.proofs.Seen.{IsSeen, seen}

module _ (amount : Rows StockRow → ℕ) (added taken : StockRequest → Answer StockReply → ℕ) where
  -- an outcome on the rows
  abbrev pub Flows : StockRequest → Rows StockRow → Outcome → Type 0
  Flows a rows o = amount rows + added a (answer.Reply o.0) ≡ amount (overwritten rows o.1) + taken a (answer.Reply o.0)

  -- a request on what it sees
  unfoldable pub FlowsSeen : StockRequest → Type 0
  FlowsSeen a = (rows v : Rows StockRow) → IsSeen v rows (needs_of a v).reads → Flows a rows (outcome_of a v)

  module _ (flows : (a : StockRequest) → FlowsSeen a) (idle : (a : StockRequest) → added a answer.Changed ≡ taken a answer.Changed) where
    one_flows : (t : Txn StockRequest) (rows : Rows StockRow) → amount rows + added t.args (answer_one stock t rows) ≡ amount (after_one stock t rows) + taken t.args (answer_one stock t rows)
    unfolding FlowsSeen answer_on writes_on
    one_flows t rows = go (is_current stock t (view rows t.sets.reads)) refl where
      go : (b : Bool) → is_current stock t (view rows t.sets.reads) ≡ b
          → amount rows + added t.args (if b then answer.Reply (outcome_of t.args (view rows t.sets.reads)).0 else answer.Changed)
          ≡ amount (overwritten rows (if b then (outcome_of t.args (view rows t.sets.reads)).1 else [])) + taken t.args (if b then answer.Reply (outcome_of t.args (view rows t.sets.reads)).0 else answer.Changed)
      go true is = flows t.args rows (view rows t.sets.reads) (seen t rows is)
      go false is = ap (λ n. amount rows + n) (idle t.args)

    -- every list
    pub all_flow : (ts : List (Txn StockRequest)) (rows : Rows StockRow) → amount rows + along added ts (serial stock ts rows).1 ≡ amount (serial stock ts rows).0 + along taken ts (serial stock ts rows).1
    all_flow [] rows = refl
    all_flow (t ∷ ts) rows = omega (arith, all_flow ts (after_one stock t rows), one_flows t rows)
