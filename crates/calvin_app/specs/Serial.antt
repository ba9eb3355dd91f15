-- Requests run one at a time on one undivided map (Thomson et al. 2012, section 3.2: what is run is equivalent to the serial
-- run in the agreed order; section 3.2.1: a request whose declared sets turn out stale is not run).
--     nameless args sets      a request of these arguments and sets, for what comes of it: its name doesn't count there
--     is_current m t v      whether the declared sets of t are those that it needs on the view v
--     answer_on m t v, writes_on m t v      what the request t is answered, and what it writes, on its view
--     answer_one m t rows, after_one m t rows      one request: its answer, and the rows after it
--     serial m requests rows      one request after another: the last rows, and the answers
--     rows_before m order rows q      the rows of the serial run just before the place q: for the scheduler and the nodes, which run requests out of order
--     answers_by_place m order rows      the serial run's answers, each with its place: for the same, which answer out of order
use Rattle.std.specs.Prelude.{Bool, if◌then◌else◌, List, [], ◌∷◌, map}
use Rattle.std.specs.List.{zip}
use Rattle.calvin_types.specs.declared.key.Key.{Key}
use Rattle.calvin_types.specs.declared.key_set.Sets.{Sets}
use Rattle.calvin_types.specs.declared.place.Place.{Place}
use Rattle.calvin_types.specs.declared.txn.Txn.{Txn}
use Rattle.calvin_types.specs.SameKeys.{same_sets}
use Rattle.calvin_types.specs.Orders.{Order, before}
use Rattle.calvin_app.specs.declared.answer.Answer.{Answer}
use Rattle.calvin_app.specs.declared.answer.Answer.TheVariants as answer
use Rattle.calvin_app.specs.Rows.{Rows, view, overwritten}
use Rattle.calvin_app.specs.Meaning.{Meaning}

abbrev pub nameless : {Args : Type 0} → Args → Sets → Txn Args
nameless args sets = record { id = record { client = 0; number = 0 }; attempt = 1; args = args; sets = sets }

module _ {Args Row Reply : Type 0} (m : Meaning Args Row Reply) where
  abbrev pub is_current : Txn Args → Rows Row → Bool
  is_current t v = same_sets (m.needs t.args v) t.sets

  unfoldable pub answer_on : Txn Args → Rows Row → Answer Reply
  answer_on t v = if is_current t v then answer.Reply (m.outcome t.args v).0 else answer.Changed

  unfoldable pub writes_on : Txn Args → Rows Row → List (Key × Row)
  writes_on t v = if is_current t v then (m.outcome t.args v).1 else []

  abbrev pub answer_one : Txn Args → Rows Row → Answer Reply
  answer_one t rows = answer_on t (view rows t.sets.reads)

  abbrev pub after_one : Txn Args → Rows Row → Rows Row
  after_one t rows = overwritten rows (writes_on t (view rows t.sets.reads))

  abbrev pub serial : List (Txn Args) → Rows Row → Rows Row × List (Answer Reply)
  serial [] rows = (rows, [])
  serial (t ∷ ts) rows = ((serial ts (after_one t rows)).0, answer_one t rows ∷ (serial ts (after_one t rows)).1)

  abbrev pub rows_before : Order Args → Rows Row → Place → Rows Row
  rows_before order rows q = (serial (before order q) rows).0

  abbrev pub answers_by_place : Order Args → Rows Row → List (Place × Answer Reply)
  answers_by_place order rows = zip (map (λ e. e.0) order) (serial (map (λ e. e.1) order) rows).1
