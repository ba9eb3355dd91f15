use Rattle.std.proofs.Common.{◌≡◌, ◌+◌, ◌≤◌, ◌++◌, length, length-append, take, vec_len, arith, rules}
use Rattle.std.proofs.lemmas.List.{length-take-le, places}
use Rattle.calvin_edge.specs.declared.reading.TheConstants.{MOST_BYTES}
use Rattle.calvin_edge.proofs.Bytes.{consumes_more}
use Rattle.calvin_edge.proofs.reading.read_all.Goals as goal

pub returns-in_err-extend_from_slice-clause-no_more : goal.returns-in_err-extend_from_slice-clause-no_more
returns-in_err-extend_from_slice-clause-no_more g c =
    let n = c.in_ok-n.n in
    let before = c.text.text.items in
    let bytes = take n c.read.new.buffer in
    let most : vec_len c.text.text + n ≤ MOST_BYTES + 1 = search (rules, places) in
    let size : length (before ++ bytes) ≡ vec_len c.text.text + n = grind (arith, length-append before bytes, length-take-le n c.read.new.buffer c.in_ok-n.ensures.bound, c.text.text.ok) in
    (vec_len c.text.text + n, most, (before ++ bytes, size, consumes_more _ _ _ before bytes c.text.invariant.bytes c.in_ok-n.ensures.bytes.0))
