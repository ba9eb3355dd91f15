use Rattle.std.proofs.Common.{◌++◌, ◌≤◌, List, length}
use Rattle.json.specs.Token.{Token}
use Rattle.calvin_stock.specs.declared.order.Line.{Line}
use Rattle.calvin_script.specs.StockOperations.{line}
use Rattle.calvin_script_tokens.proofs.Insides.{SpellsEach}
use Rattle.calvin_script_tokens.proofs.stock.read_lines.Given as goal

abbrev pub invariant-lines : goal.invariant-lines
invariant-lines l = record {
  onward : (xs : List Line) (end : List Token) → SpellsEach line 1 l.reader xs end → SpellsEach line 1 l.initial.reader (l.found ++ xs) end;
  few : length l.found ≤ 4;
}

abbrev pub decreases-lines : goal.decreases-lines
decreases-lines l = length l.reader
