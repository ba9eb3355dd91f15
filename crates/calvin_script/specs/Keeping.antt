-- Requests as a script keeps them: with declared sets, and with none where none were declared. The form of scripts is of this
-- project.
--     sets_kept grammar args declared      the sets of a request: those that were declared, else those that its operation needs on the empty view
--     request_kept grammar id attempt args declared      the request of this name
use Rattle.std.specs.Prelude.{ℕ, Option, Some, None, is_some}
use Rattle.calvin_types.specs.declared.key_set.Sets.{Sets}
use Rattle.calvin_types.specs.declared.place.RequestId.{RequestId}
use Rattle.calvin_script.specs.declared.contents.Request.{Request}
use Rattle.calvin_script.specs.Grammar.{Grammar}

module _ {Args : Type 0} (grammar : Grammar Args) where
  abbrev pub sets_kept : Args → Option Sets → Sets
  sets_kept args None = grammar.first_needs args
  sets_kept args (Some sets) = sets

  abbrev pub request_kept : RequestId → ℕ → Args → Option Sets → Request Args
  request_kept id attempt args declared = record { txn = record { id = id; attempt = attempt; args = args; sets = sets_kept args declared }; is_declared = is_some declared }
