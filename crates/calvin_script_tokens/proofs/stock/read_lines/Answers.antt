use Rattle.std.proofs.Common.{◌≡◌, ◌∷◌, ◌≤◌, [], length, length-append, ap, arith}
use Rattle.json.specs.Token.{Token}
use Rattle.calvin_script.specs.StockOperations.{line}
use Rattle.calvin_script_tokens.proofs.Steps.{each_onward, each_done, list_spelled, one_more, one_more-shorter}
use Rattle.calvin_script_tokens.proofs.OrderTurns.{lines_spelled}
use Rattle.calvin_script_tokens.specs.Spelled.{SpellsOneMore}
use Rattle.calvin_script_tokens.proofs.stock.read_lines.Goals as goal

pub lines-smaller : goal.lines-smaller
lines-smaller c =
    let kept : c.ends_array.new.reader ≡ c.lines.reader = c.ends_array.ensures.kept c.lines-test.true in
    let one = one_more line 1 c.ends_array.new.reader c.line_at.new.reader c.lines.found c.push.new.self c.in_ok-line.line c.in_ok-line.ensures c.push.ensures in
    let less = one_more-shorter line 1 c.ends_array.new.reader c.line_at.new.reader c.lines.found c.push.new.self one in
    rw (← kept) less

pub lines-preserved : goal.lines-preserved
lines-preserved c =
    let few : length c.push.new.self ≤ 4 = omega (arith, ap length c.push.ensures, length-append c.lines.found (c.in_ok-line.line ∷ []), c.len.ensures.len, c.if-len-eq-MOST_LINES.false, c.lines.invariant.few) in
    let kept : c.ends_array.new.reader ≡ c.lines.reader = c.ends_array.ensures.kept c.lines-test.true in
    let one : SpellsOneMore line 1 c.lines.reader c.lines.found c.push.new.self c.line_at.new.reader =
    let pushed = one_more line 1 c.ends_array.new.reader c.line_at.new.reader c.lines.found c.push.new.self c.in_ok-line.line c.in_ok-line.ensures c.push.ensures in
    rw kept at pushed in
    record {
      onward = each_onward line 1 c.opens_array.new.reader c.lines.reader c.line_at.new.reader c.lines.found c.push.new.self c.lines.invariant.onward one;
      few = few;
    }

pub returns : goal.returns
returns c =
    let closed : c.lines.reader ≡ Token.end_array ∷ c.ends_array.new.reader = c.ends_array.ensures.ended c.lines-test.false in
    let all = list_spelled line 1 c.opens_array.new.reader c.ends_array.new.reader c.lines.found
    (each_done line 1 c.opens_array.new.reader c.lines.reader c.ends_array.new.reader c.lines.found c.lines.invariant.onward closed) in
    rw c.in_ok-opens_array.ensures (lines_spelled _ c.ends_array.new.reader c.lines.found c.lines.invariant.few all)
