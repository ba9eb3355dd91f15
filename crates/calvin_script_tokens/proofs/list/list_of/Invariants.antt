use Rattle.std.proofs.Common.{◌++◌, List, map, length}
use Rattle.json.specs.Token.{Token}
use Rattle.calvin_script_tokens.proofs.Insides.{SpellsEach}
use Rattle.calvin_script_tokens.proofs.list.list_of.Given as goal

abbrev pub invariant-items : goal.invariant-items
invariant-items g l =
    let one = g.T.Piece in
    (xs : List one.Meaning) (end : List Token) → SpellsEach one.spelled one.deep l.reader xs end → SpellsEach one.spelled one.deep l.initial.reader (map one.meaning l.found.items ++ xs) end

abbrev pub decreases-items : goal.decreases-items
decreases-items g l = length l.reader
