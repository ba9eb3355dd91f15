use Rattle.std.proofs.Common.{ap, ◌∙◌}
use Rattle.calvin_app.specs.Entries.{shown}
use Rattle.calvin_app.proofs.Views.{shown_none}
use Rattle.calvin_row_list.proofs.row_list.RowList.new.Goals as goal

pub returns : goal.returns
returns g c =
    let none = ap shown c.new.ensures.items ∙ shown_none in
    let empty = c.new.ensures.capacity in
    λ i. record { rows = none i; room = empty i }
