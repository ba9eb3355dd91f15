-- The line that tells of a fault. It is of this project.
--     line_of number name      `calvin: `, a number, a space, a name and a line feed
--     complaint fault      the line of its number and its name
use Rattle.std.specs.Prelude.{ℕ, List, ◌++◌, codes, decimal}
use Rattle.calvin_types.specs.declared.fault.Fault.{Fault}
use Rattle.calvin_types.specs.Faults.{number_of, name_of}

abbrev pub line_of : ℕ → List ℕ → List ℕ
line_of number name = codes "calvin: " ++ decimal number ++ codes " " ++ name ++ codes "\n"

abbrev pub complaint : Fault → List ℕ
complaint fault = line_of (number_of fault) (name_of fault)
