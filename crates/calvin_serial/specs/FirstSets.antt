-- What a request of a script has that declares no sets.
--     NeedsFirst grammar m      they are those that it needs where no row is known
use Rattle.std.specs.Prelude.{◌≡◌}
use Rattle.std.specs.FinMap.{empty}
use Rattle.calvin_app.specs.Meaning.{Meaning}
use Rattle.calvin_script.specs.Grammar.{Grammar}

abbrev pub NeedsFirst : {Args Row Reply : Type 0} → Grammar Args → Meaning Args Row Reply → Type 0
NeedsFirst {Args} grammar m = (args : Args) → grammar.first_needs args ≡ m.needs args empty
