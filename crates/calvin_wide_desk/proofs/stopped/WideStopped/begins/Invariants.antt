-- Those so far are beginnings.
use Rattle.std.proofs.Common.{◌≡◌, ◌<◌, ℕ, List, Some, slice_get}
use mathlib.Core.List.{IsPrefix}
use Rattle.calvin_histories.specs.declared.entry.Entry.{Entry}
use Rattle.calvin_wide_desk.proofs.stopped.WideStopped.begins.Given as goal

abbrev pub invariant-loop-mark : goal.invariant-loop-mark
invariant-loop-mark g l = (i : ℕ) (mark : ℕ × List (Entry g.row.A-Args.Denot g.row.A-Row.Denot g.row.A-Reply.Denot)) → i < l.mark-index → slice_get l.mark-items i ≡ Some mark
    → (history : List (Entry g.row.A-Args.Denot g.row.A-Row.Denot g.row.A-Reply.Denot)) × (slice_get l.self mark.0 ≡ Some history) × IsPrefix mark.1 history
