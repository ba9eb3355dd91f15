-- A request's name has its effect once, along every list of requests. It is of this project.
--     rows_at m list rows j      the rows before the request with j before it
--     ToldAgain m list rows answers      once a name was answered with a reply, each later request of that name writes nothing, and is answered the same, or Changed where its declared sets aren't those that it needs
--     NewUntilTold m top list rows answers      as long as a name was answered Changed alone, no reply to it is kept: it is new, as it was at first
use Rattle.std.specs.Prelude.{◌≡◌, ℕ, ◌<◌, if◌then◌else◌, List, [], take, slice_get, Some, None}
use Rattle.calvin_types.specs.declared.txn.Txn.{Txn}
use Rattle.calvin_app.specs.declared.answer.Answer.{Answer}
use Rattle.calvin_app.specs.declared.answer.Answer.TheVariants as answer
use Rattle.calvin_app.specs.Rows.{Rows, view}
use Rattle.calvin_app.specs.Meaning.{Meaning}
use Rattle.calvin_app.specs.Serial.{serial, is_current, writes_on}
use Rattle.calvin_once.specs.declared.kept.Named.{Named}
use Rattle.calvin_once.specs.declared.kept.OnceRow.{OnceRow}
use Rattle.calvin_once.specs.Once.{kept_key, kept_at}

module _ {Args Row Reply : Type 0} (m : Meaning (Named Args) Row Reply) where
  -- the rows before the request with j before it
  abbrev pub rows_at : List (Txn (Named Args)) → Rows Row → ℕ → Rows Row
  rows_at list rows j = (serial m (take j list) rows).0

  -- it writes nothing, and is answered with this reply, or Changed
  abbrev pub IsTold : List (Txn (Named Args)) → Rows Row → List (Answer Reply) → ℕ → Txn (Named Args) → Reply → Type 0
  IsTold list rows answers j u r =
      (writes_on m u (view (rows_at list rows j) u.sets.reads) ≡ [])
      × (slice_get answers j ≡ Some (if is_current m u (view (rows_at list rows j) u.sets.reads) then answer.Reply r else answer.Changed))

  -- so is each later request of a name that was answered with the reply
  abbrev pub ToldAgain : List (Txn (Named Args)) → Rows Row → List (Answer Reply) → Type 0
  ToldAgain list rows answers = (i j : ℕ) (t u : Txn (Named Args)) (r : Reply) → i < j → slice_get list i ≡ Some t → slice_get list j ≡ Some u → t.args.id ≡ u.args.id
      → slice_get answers i ≡ Some (answer.Reply r) → IsTold list rows answers j u r

-- a name that was answered Changed alone, if it was asked at all, stays new. Names that are kept under one key count as one; there are no two such of 32 bits each
abbrev pub NewUntilTold : {Args Row Reply : Type 0} → Meaning (Named Args) (OnceRow Row Reply) Reply → ℕ → List (Txn (Named Args)) → Rows (OnceRow Row Reply) → List (Answer Reply) → Type 0
NewUntilTold {Args} m top list rows answers = (j : ℕ) (u : Txn (Named Args)) → slice_get list j ≡ Some u → kept_at top rows u.args.id ≡ None
    → ((i : ℕ) (t : Txn (Named Args)) → i < j → slice_get list i ≡ Some t → kept_key top t.args.id ≡ kept_key top u.args.id → slice_get answers i ≡ Some answer.Changed)
    → kept_at top (rows_at m list rows j) u.args.id ≡ None
